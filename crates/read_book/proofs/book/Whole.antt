-- The book's verdict, by what its contents say.
use mathlib.Core.Path.{◌≡◌, sym, ◌∙◌}
use mathlib.Core.List.{List}
use Prim.Native.Nat.{ℕ, ◌+◌, ◌-◌}
use native.Mathlib.Omega.{arith}
use lib.ListN.{length, drop}
use Rattle.std.specs.Prelude.{Result, Err, IsErrAnd}
use Rattle.what_comes_back.specs.Codes.{code_of}
use Rattle.definition.specs.Res.{◌>>=◌}
use Rattle.definition.specs.Contents.{contents, book, bodies}
use Rattle.laws.proofs.Steps.{grouped}
use Rattle.read_book.specs.cursor.Ends.{Along}
use Rattle.read_book.specs.declared.cursor.Fault.{Fault}
use Rattle.read_book.proofs.cursor.Laws.{handed}
use Rattle.read_book.specs.body.Verdict.{verdict}
use Rattle.read_book.specs.contents.Table.{table, Tabled}
use Rattle.read_book.proofs.body.Judge.{unsound}

place_of : (s : List ℕ) (p : ℕ) → Along s 0 p → p ≡ length s - length (drop p s)
place_of s p a = omega arith

module _ (s : List ℕ) (more : ℕ) where
  book_as : book (6 + more) s ≡ (table (6 + more) s >>= λ y. bodies y.0)
  unfolding book table
  book_as = sym (grouped (contents (6 + more) s) _ _)

  -- a refusal of the contents is the book's
  bad_is : {f : Fault} → Tabled s (6 + more) (Err f) → Err f ≡ verdict (length s) (book (6 + more) s)
  unfolding verdict
  bad_is {f = f} t =
      let d = t.told in
      rw (book_as, d.fails) (unsound f.code (code_of d.kind) f.at _ (sym d.coded) (place_of s f.at d.along))

  pub book_bad : {f : Fault} {r : Result Unit Fault} → Tabled s (6 + more) (Err f) → IsErrAnd r (λ g. g ≡ f) → r ≡ verdict (length s) (book (6 + more) s)
  book_bad {r = r} t w = handed r w ∙ bad_is t
