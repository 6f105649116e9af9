-- A body judged alone.
use mathlib.Core.Path.{◌≡◌, refl, ap, sym, ◌∙◌}
use mathlib.Core.List.{List, [], ◌∷◌}
use mathlib.Core.Logic.{◌⊎◌, ⊎_elim}
use Prim.Native.Nat.{ℕ, zero, suc, ◌+◌, ◌-◌, ◌≤◌, ◌<◌}
use native.Mathlib.Omega.{arith}
use borrow.Author.Tests.{le-leb, lt-leb}
use lib.ListN.{length, take, drop, get_or, length-drop}
use lib.Seq.{length-take-le, take-nil}
use Rattle.std.specs.Prelude.{Result, Ok, Err, IsErrAnd}
use Rattle.what_comes_back.specs.Codes.{code_of}
use Rattle.what_comes_back.specs.declared.Code.{Code as CodeOf}
use Rattle.what_comes_back.specs.declared.Code.TheVariants.{NotABook}
use Rattle.definition.specs.Code.{Code, not_a_book}
use Rattle.definition.specs.Res.{absent, just, Res, bad, ok}
use Rattle.definition.specs.Tree.{Kind}
use Rattle.definition.specs.Read.{known, kinds, definition}
use Rattle.definition.specs.Contents.{whole, at_end}
use Rattle.read_book.specs.cursor.Ends.{Along, Walked, Ends}
use Rattle.read_book.specs.declared.cursor.Cursor.{Cursor}
use Rattle.read_book.specs.declared.cursor.Fault.{Fault}
use Rattle.read_book.specs.body.Verdict.{verdict, of_kind, body_verdict}
use Rattle.read_book.proofs.cursor.Laws.{handed}

module _ {s : List ℕ} {p : ℕ} {r : Walked} (b : ℕ) where
  -- a byte that stands for a kind
  pub a_kind : (k : Kind) → get_or kinds b absent ≡ just k → Ends s p r (definition k (drop p s)) → Ends s p r (of_kind b (drop p s))
  unfolding of_kind known
  a_kind k e w = rw e w

no_kind_at : (b : ℕ) → (b ≡ 1 → ⊥) → (b ≡ 2 → ⊥) → (b ≡ 3 → ⊥) → (b ≡ 4 → ⊥) → get_or kinds b absent ≡ absent
no_kind_at zero f₁ f₂ f₃ f₄ = refl
no_kind_at (suc zero) f₁ f₂ f₃ f₄ = absurd (f₁ refl)
no_kind_at (suc (suc zero)) f₁ f₂ f₃ f₄ = absurd (f₂ refl)
no_kind_at (suc (suc (suc zero))) f₁ f₂ f₃ f₄ = absurd (f₃ refl)
no_kind_at (suc (suc (suc (suc zero)))) f₁ f₂ f₃ f₄ = absurd (f₄ refl)
no_kind_at (suc (suc (suc (suc (suc b))))) f₁ f₂ f₃ f₄ = refl

pub no_such_kind : {s : List ℕ} (p b : ℕ) → (b ≡ 1 → ⊥) → (b ≡ 2 → ⊥) → (b ≡ 3 → ⊥) → (b ≡ 4 → ⊥) → Ends s p (Err (record { code = NotABook; at = p })) (of_kind b (drop p s))
unfolding of_kind known
no_such_kind p b f₁ f₂ f₃ f₄ = rw (no_kind_at b f₁ f₂ f₃ f₄) (record { told = record { kind = not_a_book; coded = refl; fails = refl; along = refl } })

cut_out : (s : List ℕ) (from to : ℕ) → from ≤ to → drop from (take to s) ≡ take (to - from) (drop from s)
cut_out s zero to h = let e : to ≡ to - 0 = omega arith in ap (λ (n : ℕ). take n s) e
cut_out [] (suc from) to h = rw (take-nil to, take-nil (to - suc from))
cut_out (b ∷ s) (suc from) zero h = absurd (omega arith)
cut_out (b ∷ s) (suc from) (suc to) h = let e : to - from ≡ suc to - suc from = omega arith in cut_out s from to (omega arith) ∙ ap (λ (n : ℕ). take n (drop from s)) e

pub unsound : (c d : CodeOf) (p q : ℕ) → c ≡ d → p ≡ q → ◌≡◌ {A = Result Unit Fault} (Err (record { code = c; at = p })) (Err (record { code = d; at = q }))
unsound c d p q e h = rw (e, h)

-- what is left where a reading ended, of bytes that end at `to`
module _ {A : Type 0} (to : ℕ) (m : Res (List ℕ) A) where
  v_fails : (l : List ℕ) (f : Fault) (k : Code) → code_of k ≡ f.code → m ≡ bad k l → f.at + length l ≡ to → Err f ≡ verdict to (whole m)
  unfolding verdict whole
  v_fails l f k c e h = rw e (unsound f.code (code_of k) f.at (to - length l) (sym c) (omega arith))

  v_left : (l : List ℕ) (a : A) (q : ℕ) → m ≡ ok a l → q < to → q + length l ≡ to → Err (record { code = NotABook; at = q }) ≡ verdict to (whole m)
  unfolding verdict whole at_end
  v_left [] a q e h w = absurd (omega arith)
  v_left (b ∷ l) a q e h w = rw e (unsound NotABook NotABook q (to - length (b ∷ l)) refl (omega arith))

  v_sound : (l : List ℕ) (a : A) (q : ℕ) → m ≡ ok a l → to ≤ q → q + length l ≡ to → Ok tt ≡ verdict to (whole m)
  unfolding verdict whole at_end
  v_sound [] a q e h w = rw e
  v_sound (b ∷ l) a q e h w = absurd (omega arith)

module _ (s : List ℕ) (kind from to : ℕ) where
  pub no_range : (length s < to) ⊎ ((to ≤ length s) × (to < from)) → Err (record { code = NotABook; at = from }) ≡ body_verdict kind from to s
  unfolding body_verdict
  no_range o =
      ⊎_elim
      (λ (h : length s < to). rw (lt-leb to (length s) h))
      (λ (h : (to ≤ length s) × (to < from)). rw (le-leb to (length s) h.0, lt-leb from to h.1))
      o

  module _ (h : to ≤ length s) (g : from ≤ to) where
    in-book : body_verdict kind from to s ≡ verdict to (whole (of_kind kind (drop from (take to s))))
    unfolding body_verdict
    in-book = rw (le-leb to (length s) h, le-leb from to g, cut_out s from to g)

    at_end_of : (q : ℕ) → Along (take to s) from q → q + length (drop q (take to s)) ≡ to
    at_end_of q a = a ∙ simp (length-drop, length-take-le to s h) (omega arith)

    pub body_fails : {f : Fault} {r : Result Unit Fault} → Ends (take to s) from (Err f) (of_kind kind (drop from (take to s))) → IsErrAnd r (λ g. g ≡ f) → r ≡ body_verdict kind from to s
    body_fails {f} {r} e w = let d = e.told in handed r w ∙ v_fails to _ _ f d.kind d.coded d.fails (at_end_of f.at d.along) ∙ sym in-book

    module _ {c : Cursor} (e : Ends (take to s) from (Ok c) (of_kind kind (drop from (take to s)))) where
      pub body_left : c.at < to → Err (record { code = NotABook; at = c.at }) ≡ body_verdict kind from to s
      body_left l = let d = e.told in v_left to _ _ d.0 c.at d.1.gives l (at_end_of c.at d.1.along) ∙ sym in-book

      pub body_sound : to ≤ c.at → Ok tt ≡ body_verdict kind from to s
      body_sound l = let d = e.told in v_sound to _ _ d.0 c.at d.1.gives l (at_end_of c.at d.1.along) ∙ sym in-book
