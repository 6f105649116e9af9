-- Turns one after the other.
-- Assumes nothing.
use mathlib.Core.Path.{◌≡◌, refl, sym, ◌∙◌}
use mathlib.Core.Logic.{⊎_elim}
use mathlib.Core.List.{List, [], ◌∷◌}
use mathlib.Core.Bool.{Bool, true, false}
use Prim.Native.Nat.{ℕ, ◌-◌, ◌≤◌, ◌<◌, min}
use native.Mathlib.Omega.{arith}
use lib.Dec.{leb}
use Rattle.std.proofs.Common.{Option, None, Some}
use lib.ListN.{length}
use borrow.Author.Tests.{leb-true, leb-false}
use Rattle.definition.specs.Code.{macro_growth}
use Rattle.definition.specs.Out.{Out, refused, done, ◌>>=◌, given}
use Rattle.definition.specs.Tree.{Name, Combinator, Inners, no_inner, inner}
use Rattle.definition.specs.Write.{w_name, w_all, w_inners, count_a}
use Rattle.definition.specs.Size.{size, levels_a}
use Rattle.definition.specs.Macros.{subst, limited, instance}
use Rattle.layout.specs.items.Here.{Here}
use Rattle.laws.proofs.Steps.{no_done}
use Rattle.layout.proofs.lookup.Names.{yes_no, not_both}
use Rattle.walker.proofs.pieces.Room.{room_enough}
use Rattle.buffer.specs.areas.First.{first}
use Rattle.substitute.specs.declared.substitution.Turn.{Turn}
use Rattle.substitute.proofs.substitution.Turns.{over_size, roomy, cut_by}
use Rattle.substitute.specs.substitution.Turned.{Areas, Holds, marks_of, limited_by, Went, Turned}
use Rattle.substitute.specs.instance.Instance.{instance_by, Made, Instanced}

module _ {macros book areas marks : List ℕ} {t : Turn} where
  pub instanced_none : (left : ℕ) → left ≤ 0 → Instanced macros book areas marks t left areas marks (Some t)
  unfolding instance_by count_a
  instanced_none left k = record { says = λ ar ps xs c z y hp hx dx e hc. none ps xs c e hc }
    where
      none : (ps : List Name) (xs : Inners) (c : Combinator) → left ≡ min (length ps) (count_a xs) → Holds (first areas) marks t.len t.n c → Made (first areas) marks (Some t) (instance_by (length marks) ps xs c)
      none [] xs c e hc = hc
      none (p ∷ ps) no_inner c e hc = hc
      none (p ∷ ps) (inner x xs) c e hc = absurd (omega arith)

  pub instanced_stop : {areas₁ m₁ : List ℕ} {left : ℕ} → Turned macros book areas marks t areas₁ m₁ None → 0 < left → Instanced macros book areas marks t left areas₁ m₁ None
  unfolding instance_by count_a w_all w_inners levels_a
  instanced_stop {areas₁} {m₁} {left} v k = record { says = λ ar ps xs c z y hp hx dx e hc. stop ar ps xs c z y hp hx dx e hc }
    where
      refusal : (o : Out Combinator) (ps : List Name) (xs : Inners) (z y : List ℕ) → Went macros book (first areas₁) m₁ None z y o → Made (first areas₁) m₁ None (o >>= instance_by (length marks) ps xs)
      refusal (refused k) ps xs z y w = w
      refusal (done d) ps xs z y w = absurd w

      stop : Areas macros book areas → (ps : List Name) (xs : Inners) (c : Combinator) (z y : List ℕ) → Here macros t.param (w_all w_name ps z) → Here book t.arg (w_inners xs y) → levels_a xs ≤ 64
          → left ≡ min (length ps) (count_a xs) → Holds (first areas) marks t.len t.n c → Made (first areas₁) m₁ None (instance_by (length marks) ps xs c)
      stop ar [] xs c z y hp hx dx e hc = absurd (omega arith)
      stop ar (p ∷ ps) no_inner c z y hp hx dx e hc = absurd (omega arith)
      stop ar (p ∷ ps) (inner x xs) c z y hp hx dx e hc =
          refusal (limited_by (length marks) (subst c p x)) ps xs (w_all w_name ps z) (w_inners xs y) (v.says ar p x c (w_all w_name ps z) (w_inners xs y) hp hx (omega arith) hc)

  pub instanced_step : {areas₁ m₁ : List ℕ} {t₁ : Turn} {left : ℕ} → Turned macros book areas marks t areas₁ m₁ (Some t₁) → 0 < left → length areas₁ ≡ length areas → length m₁ ≡ length marks
      → {areas₂ m₂ : List ℕ} {r : Option Turn} → Instanced macros book areas₁ m₁ t₁ (left - 1) areas₂ m₂ r → Instanced macros book areas marks t left areas₂ m₂ r
  unfolding instance_by count_a w_all w_inners levels_a
  instanced_step {areas₁} {m₁} {t₁} {left} v k la lm {areas₂} {m₂} {r} next = record { says = λ ar ps xs c z y hp hx dx e hc. step ar ps xs c z y hp hx dx e hc }
    where
      go : Areas macros book areas → (o : Out Combinator) (ps : List Name) (xs : Inners) (z y : List ℕ) → levels_a xs ≤ 64 → left - 1 ≡ min (length ps) (count_a xs)
          → Went macros book (first areas₁) m₁ (Some t₁) (w_all w_name ps z) (w_inners xs y) o → Made (first areas₂) m₂ r (o >>= instance_by (length marks) ps xs)
      go ar (refused k) ps xs z y dx e w = not_both true refl w
      go ar (done d) ps xs z y dx e w =
          rw lm at (next.says (record { macros_short = ar.macros_short; book_short = ar.book_short; areas_long = la ∙ ar.areas_long }) ps xs d z y w.0 w.1 dx e w.2)

      step : Areas macros book areas → (ps : List Name) (xs : Inners) (c : Combinator) (z y : List ℕ) → Here macros t.param (w_all w_name ps z) → Here book t.arg (w_inners xs y) → levels_a xs ≤ 64
          → left ≡ min (length ps) (count_a xs) → Holds (first areas) marks t.len t.n c → Made (first areas₂) m₂ r (instance_by (length marks) ps xs c)
      step ar [] xs c z y hp hx dx e hc = absurd (omega arith)
      step ar (p ∷ ps) no_inner c z y hp hx dx e hc = absurd (omega arith)
      step ar (p ∷ ps) (inner x xs) c z y hp hx dx e hc =
          go ar (limited_by (length marks) (subst c p x)) ps xs z y (omega arith) (omega arith) (v.says ar p x c (w_all w_name ps z) (w_inners xs y) hp hx (omega arith) hc)

-- the loop of turns: whoever goes on from here has gone from the start
pub record Making (macros book areas₀ marks₀ : List ℕ) (t₀ : Turn) (left₀ : ℕ) (areas marks : List ℕ) (t : Turn) (left : ℕ) : Type 0 where
  pub areas_long : length areas ≡ length areas₀
  pub marks_long : length marks ≡ length marks₀
  pub goes : (a' m' : List ℕ) (r : Option Turn) → Instanced macros book areas marks t left a' m' r → Instanced macros book areas₀ marks₀ t₀ left₀ a' m' r

-- ---- what a row says of the rule itself
-- a row of 8,192 has room for every combinator within the limits
pub long_row : (k : ℕ) → 8192 ≤ k → (c : Combinator) → limited_by k c ≡ limited c
long_row k h c =
    ⊎_elim
    (λ (e : leb (size c) 16384 ≡ true). roomy c k (omega (arith, room_enough c 0, leb-true (size c) 16384 e)))
    (λ (e : leb (size c) 16384 ≡ false). let o = over_size c (leb-false (size c) 16384 e) in cut_by c k o ∙ sym o)
    (yes_no (leb (size c) 16384))

pub instance_long : (k : ℕ) → 8192 ≤ k → (ps : List Name) (xs : Inners) (c : Combinator) → instance_by k ps xs c ≡ instance ps xs c
unfolding instance instance_by
instance_long k h [] xs c = refl
instance_long k h (p ∷ ps) no_inner c = refl
instance_long k h (p ∷ ps) (inner a xs) c = rw (long_row k h (subst c p a)) (of (limited (subst c p a)) (λ d. instance_long k h ps xs d))
  where
    of : (o : Out Combinator) → ((d : Combinator) → instance_by k ps xs d ≡ instance ps xs d) → (o >>= instance_by k ps xs) ≡ (o >>= instance ps xs)
    of (refused j) f = refl
    of (done d) f = f d

-- what any row gives is what the rule gives
pub instance_given : (k : ℕ) (ps : List Name) (xs : Inners) (c d : Combinator) → instance_by k ps xs c ≡ done d → instance ps xs c ≡ done d
unfolding instance instance_by limited_by
instance_given k [] xs c d e = e
instance_given k (p ∷ ps) no_inner c d e = e
instance_given k (p ∷ ps) (inner a xs) c d e = of (limited (subst c p a)) refl (λ x q. instance_given k ps xs x d q)
  where
    test : (b : Bool) (x : Combinator) → (given b macro_growth x >>= instance_by k ps xs) ≡ done d → (instance_by k ps xs x ≡ done d → instance ps xs x ≡ done d) → instance ps xs x ≡ done d
    test true x q f = f q
    test false x q f = no_done q

    of : (o : Out Combinator) → limited (subst c p a) ≡ o → ((x : Combinator) → instance_by k ps xs x ≡ done d → instance ps xs x ≡ done d) → (o >>= instance ps xs) ≡ done d
    of (refused j) q f = no_done (rw q at e)
    of (done x) q f = test (leb (marks_of x) k) x (rw q at e) (f x)
