-- Readings one after the other, where the answer of the first is known.
use mathlib.Core.Path.{◌≡◌, ◌∙◌}
use mathlib.Core.List.{List}
use Prim.Native.Nat.{ℕ}
use lib.ListN.{drop}
use Rattle.std.specs.Prelude.{Ok, Err, IsErrAnd}
use Rattle.definition.specs.Code.{Code}
use Rattle.definition.specs.Res.{Res, bad, ok, ◌>>=◌}
use Rattle.definition.specs.Read.{Reader, u16}
use Rattle.laws.proofs.Steps.{grouped}
use Rattle.read_book.specs.cursor.Ends.{Along, Gives, Fails, Walked, Took, Ends}
use Rattle.read_book.specs.declared.cursor.Cursor.{Cursor}
use Rattle.read_book.specs.declared.cursor.Fault.{Fault}
use Rattle.read_book.proofs.cursor.Only.{no_value}
pub use Rattle.read_book.proofs.cursor.Only.{walked}
use Rattle.read_book.proofs.cursor.Laws.{handed, fails_as}
use Rattle.read_book.specs.name_list.Rows.{counted}

pub same_bad : {A B : Type 0} {k k' : Code} {r r' : List ℕ} → ◌≡◌ {A = Res (List ℕ) A} (bad k r) (bad k' r') → ◌≡◌ {A = Res (List ℕ) B} (bad k r) (bad k' r')
same_bad {k = k} {k' = k'} {r = r} {r' = r'} e = let v : k ≡ k' = cc in let w : r ≡ r' = cc in rw (v, w)

module _ {A : Type 0} {s : List ℕ} {p : ℕ} {m : Res (List ℕ) A} where
  -- from an earlier place
  pub rebase : {q : ℕ} (r : Walked) → Along s p q → Ends s q r m → Ends s p r m
  rebase (Ok c) h e = record { told = (e.told.0, record { gives = e.told.1.gives; along = e.told.1.along ∙ h }) }
  rebase (Err f) h e = record { told = record { kind = e.told.kind; coded = e.told.coded; fails = e.told.fails; along = e.told.along ∙ h } }

module _ {A B : Type 0} {s : List ℕ} {p : ℕ} {m : Res (List ℕ) A} (g : A × List ℕ → Res (List ℕ) B) where
  pub after : {a : A} {q : ℕ} {r : Walked} → Gives s p a q m → Ends s q r (g (a, drop q s)) → Ends s p r (m >>= g)
  after {a} {q} {r} e n = rw e.gives (rebase r e.along n)

  pub stops : {f : Fault} → Fails s p f m → Ends s p (Err f) (m >>= g)
  stops e = record { told = fails_as (m >>= g) e (λ k w. rw w) }

  pub then : {r : Walked} {c : Cursor} → Ends s p (Ok c) m → ((a : A) → Ends s c.at r (g (a, drop c.at s))) → Ends s p r (m >>= g)
  then e n = let d = e.told in after d.1 (n d.0)

  -- what `?` hands on
  pub fails : {f : Fault} {r : Walked} → Ends s p (Err f) m → IsErrAnd r (λ h. h ≡ f) → Ends s p r (m >>= g)
  fails {r = r} e h = rw (handed r h) (stops e.told)

module _ {A B : Type 0} {s : List ℕ} {p : ℕ} {m : Res (List ℕ) A} (h : A → B) where
  -- the tree made of what was read
  pub made : {r : Walked} → Ends s p r m → Ends s p r (m >>= λ y. ok (h y.0) y.1)
  made {r = Ok c} e = record { told = (h e.told.0, record { gives = rw e.told.1.gives; along = e.told.1.along }) }
  made {r = Err f} e = stops _ e.told

-- a number or a byte first
module _ {B : Type 0} {s : List ℕ} {p : ℕ} {m : Res (List ℕ) ℕ} (g : ℕ × List ℕ → Res (List ℕ) B) where
  pub then_got : {n : ℕ} {c : Cursor} {r : Walked} → Took s p (Ok (n, c)) m → Ends s c.at r (g (n, drop c.at s)) → Ends s p r (m >>= g)
  then_got t w = after g t.told w

-- a row, and what stands behind it
module _ {A B : Type 0} (row : ℕ → Reader A) (g : A × List ℕ → Res (List ℕ) B) where
  pub counts : {s : List ℕ} {p : ℕ} {r : Walked} (l : List ℕ) → Ends s p r (counted row l >>= g) → Ends s p r (u16 l >>= λ x. row x.0 x.1 >>= g)
  unfolding counted
  counts l e = rw (← (grouped (u16 l) (λ x. row x.0 x.1) g)) e

-- a refusal says nothing of what would have been read
pub refuses : {A B : Type 0} {s : List ℕ} {p : ℕ} (r : Walked) {k : Code} {l : List ℕ} → Ends {A = A} s p r (bad k l) → Ends {A = B} s p r (bad k l)
refuses (Ok c) e = absurd (no_value e.told.1.gives)
refuses (Err f) e = record { told = fails_as _ e.told (λ j w. same_bad w) }

-- the tree made of two things that were read
pub made_in : {A B C : Type 0} {s : List ℕ} {p : ℕ} {r : Walked} (m : Res (List ℕ) A) (g : A × List ℕ → Res (List ℕ) B) (h : A → B → C)
    → Ends s p r (m >>= g) → Ends s p r (m >>= λ y. g y >>= λ z. ok (h y.0 z.0) z.1)
made_in {r = r} (bad k l) g h e = refuses r e
made_in (ok a l) g h e = made (h a) e
