-- From an expanded list, or a code, to what comes back, for any expansion.
-- Assumes nothing.
use mathlib.Core.Path.{◌≡◌, ap}
use mathlib.Core.List.{List}
use Prim.Native.Nat.{ℕ, ◌≤◌}
use native.Mathlib.Omega.{arith}
use lib.ListN.{length}
use Rattle.definition.specs.Code.{Code}
use Rattle.definition.specs.Out.{Out, refused, done, ◌>>=◌}
use Rattle.definition.specs.Tree.{Definition}
use Rattle.definition.specs.Write.{w_book}
use Rattle.definition.specs.Size.{size_book}
use Rattle.definition.specs.Answer.{all, filled}
use Rattle.laws.specs.Book.{IsBook}
use Rattle.laws.proofs.Steps.{yielded}
use Rattle.laws.proofs.Results.{lifted_book, lifted_yields}
use Rattle.std.specs.Prelude.{Result, Err}
use Rattle.what_comes_back.specs.declared.Elaborated.{Elaborated}
use Rattle.what_comes_back.specs.declared.Refusal.{Refusal}
use Rattle.what_comes_back.specs.declared.Code.{Code as CodeOf}
use Rattle.what_comes_back.specs.Codes.{code_of}
use Rattle.what_comes_back.specs.Elaborates.{elaborated_as, Reports, lifted, Expanded, Lifts}

-- no expanded book is longer than the input may be
pub expanded_short : {s : List ℕ} → Expanded s → length s ≤ 16384
unfolding size_book
expanded_short x = omega (arith, ap length x.book, x.is_book.short)

module _ {m : Out (List Definition)} {out : List ℕ} where
  pub reports_refused : {k : Code} → m ≡ refused k → {code : CodeOf} {at p : ℕ} → code ≡ code_of k → at ≡ p → Reports p (m >>= λ ds. lifted ds (length out)) out out (Err (record { code = code; at = at }))
  unfolding elaborated_as filled
  reports_refused e n a = record { answers = rw (e, n, a); fills = rw e }

  -- what was read has no item at fault
  pub reports_lifted : {p : ℕ} → p ≡ 0 → {ds : List Definition} → m ≡ done ds → {s : List ℕ} → s ≡ w_book ds → IsBook ds → {out' : List ℕ} {r : Result Elaborated Refusal} → Lifts s out out' r → Reports p (m >>= λ ds. lifted ds (length out)) out out' r
  reports_lifted z {ds} e w b l = rw (z, e) (l.lifts ds w b (λ q g. yielded {a = q} (lifted_yields (λ r. IsBook (all r)) ds (lifted_book ds b)) g))
