-- A pass with room for any book.
-- Assumes nothing.
use mathlib.Core.Path.{◌≡◌, refl, ap, ◌∙◌}
use mathlib.Core.List.{List, []}
use mathlib.Core.Bool.{Bool, true, false, ◌&&◌}
use Prim.Native.Nat.{ℕ}
use native.Mathlib.Omega.{arith}
use lib.Dec.{leb}
use lib.ListN.{length}
use Rattle.definition.specs.Code.{macro_growth}
use Rattle.definition.specs.Out.{Out, refused, done, ◌>>=◌, given}
use Rattle.definition.specs.Tree.{Definition}
use Rattle.definition.specs.Write.{w_book}
use Rattle.definition.specs.Size.{levels_book, size_book}
use Rattle.definition.specs.Macros.{macros, expand_all}
use Rattle.laws.specs.Book.{IsBook}
use Rattle.std.specs.Prelude.{Result}
use Rattle.what_comes_back.specs.declared.Code.{Code}
use Rattle.expand_macros.specs.pass.Pass.{pass, fitting, Leaves, Passed}

pub fits_all : (ms ds : List Definition) → fitting 16384 (pass ms ds) ≡ pass ms ds
unfolding fitting pass
fits_all ms ds = go (expand_all ds (macros ms []))
  where
    one : (a b : Bool) (es : List Definition) → leb (size_book es) 16384 ≡ a → (given (a && b) macro_growth es >>= λ fs. given (leb (size_book fs) 16384) macro_growth fs) ≡ given (a && b) macro_growth es
    one true true es e = rw e
    one true false es e = refl
    one false b es e = refl

    go : (m : Out (List Definition)) → (m >>= λ es. given (leb (size_book es) 16384 && leb (levels_book es) 64) macro_growth es) >>= (λ es. given (leb (size_book es) 16384) macro_growth es)
        ≡ (m >>= λ es. given (leb (size_book es) 16384 && leb (levels_book es) 64) macro_growth es)
    go (refused k) = refl
    go (done es) = one (leb (size_book es) 16384) (leb (levels_book es) 64) es refl

pub passed_whole : {lib book areas out out' : List ℕ} {r : Result ℕ Code} → Passed lib book areas out out' r → (ms ds : List Definition) → lib ≡ w_book ms → IsBook ms → book ≡ w_book ds → IsBook ds
    → length areas ≡ 32768 → length out ≡ 16384 → Leaves (pass ms ds) out out' r
passed_whole {lib} {book} {areas} {out} {out'} {r} p ms ds el im eb id al ol =
    rw (ap (λ (n : ℕ). fitting n (pass ms ds)) ol ∙ fits_all ms ds) at (p.says ms ds el im eb id al (omega arith))
