-- Names as the listing prints them.
-- Assumes nothing.
use mathlib.Core.Path.{◌≡◌, refl, sym}
use mathlib.Core.List.{List, [], ◌∷◌, ◌++◌, append-nil, append_assoc}
use mathlib.Core.Bool.{Bool, true, false, ◌&&◌}
use Prim.Native.Nat.{ℕ, zero, suc, ◌+◌, ◌<◌}
use native.Mathlib.Omega.{arith}
use lib.Dec.{eqb}
use lib.ListN.{length, take, get_or}
use lib.Seq.{take_all, take-suc}
use Rattle.std.proofs.Common.{add-one}
use Rattle.std.proofs.lemmas.Bool.{eqb-true, eqb-false}
use Rattle.std.specs.Prelude.{◌==◌}
use Rattle.std.specs.Str.{bytes_eq}
use Rattle.definition.specs.Listing.{shown_byte, shown_bytes, shown}
use Rattle.buffer.specs.writes.Buf.{Wrote}
use Rattle.buffer.proofs.writes.Wrote.{glue}
use Rattle.listing_lines.specs.shown.Dash.{is_dash_of}

pub dash_same : (n : List ℕ) → bytes_eq n (45 ∷ []) ≡ is_dash_of n
unfolding is_dash_of
dash_same [] = refl
dash_same (b ∷ []) = of (eqb b 45)
  where
    of : (t : Bool) → (t && true) ≡ t
    of true = refl
    of false = refl
dash_same (b ∷ c ∷ s) = of (eqb b 45)
  where
    of : (t : Bool) → (t && false) ≡ false
    of true = refl
    of false = refl

pub shown_none : (n : List ℕ) → (length n == 0) ≡ true → shown n ≡ 45 ∷ []
unfolding shown
shown_none [] h = refl
shown_none (b ∷ s) h = absurd (omega (arith, eqb-true (length (b ∷ s)) 0 h))

pub some_byte : (n : List ℕ) → (length n == 0) ≡ false → length n ≡ 0 → ⊥
some_byte n h e = eqb-false (length n) 0 h e

pub shown_dash : (n : List ℕ) → is_dash_of n ≡ true → shown n ≡ 37 ∷ 50 ∷ 68 ∷ []
unfolding shown is_dash_of
shown_dash [] h = let e : ◌≡◌ {A = ℕ} 0 1 = cc in absurd (omega arith)
shown_dash (b ∷ []) h = rw h
shown_dash (b ∷ c ∷ s) h = let e : ◌≡◌ {A = ℕ} 0 1 = cc in absurd (omega arith)

bytes_snoc : (a : List ℕ) (b : ℕ) → shown_bytes (a ++ (b ∷ [])) ≡ shown_bytes a ++ shown_byte b
unfolding shown_bytes
bytes_snoc [] b = append-nil (shown_byte b)
bytes_snoc (x ∷ a) b = rw (bytes_snoc a b) (sym (append_assoc (shown_byte x) (shown_bytes a) (shown_byte b)))

-- the first i bytes, if any
pub record Goes (n d : List ℕ) (o i : ℕ) (d₁ : List ℕ) (o₁ : ℕ) : Type 0 where
  pub none : i ≡ 0 → (d₁ ≡ d) × (o₁ ≡ o)
  pub some : 0 < i → Wrote d o (shown_bytes (take i n)) d₁ o₁

pub goes_start : (n d : List ℕ) (o : ℕ) → Goes n d o 0 d o
goes_start n d o = record { none = λ e. (refl, refl); some = λ h. absurd (omega arith) }

pub goes_on : {n d d₁ d₂ : List ℕ} {o o₁ o₂ i : ℕ} → i < length n → Goes n d o i d₁ o₁ → Wrote d₁ o₁ (shown_byte (get_or n i 0)) d₂ o₂ → Goes n d o (i + 1) d₂ o₂
unfolding shown_bytes
goes_on {n} {d} {d₁} {d₂} {o} {o₁} {o₂} {i} l g w = record { none = λ e. absurd (omega arith); some = λ h. rw (add-one i, take-suc n i 0 l) (of i l g w) }
  where
    of : (i : ℕ) → i < length n → Goes n d o i d₁ o₁ → Wrote d₁ o₁ (shown_byte (get_or n i 0)) d₂ o₂ → Wrote d o (shown_bytes (take i n ++ (get_or n i 0 ∷ []))) d₂ o₂
    of zero l g w = let e = g.none refl in rw (append-nil (shown_byte (get_or n 0 0))) (rw (e.0, e.1) at w)
    of (suc i) l g w = rw (bytes_snoc (take (suc i) n) (get_or n (suc i) 0)) (glue (g.some (omega arith)) w)

shown_other : (n : List ℕ) → (length n ≡ 0 → ⊥) → is_dash_of n ≡ false → shown_bytes n ≡ shown n
unfolding shown shown_bytes is_dash_of
shown_other [] h e = absurd (h refl)
shown_other (b ∷ []) h e = rw (e, append-nil (shown_byte b))
shown_other (b ∷ c ∷ s) h e = refl

pub goes_whole : {n d d₁ : List ℕ} {o o₁ i : ℕ} → (length n ≡ 0 → ⊥) → is_dash_of n ≡ false → i ≡ length n → Goes n d o i d₁ o₁ → Wrote d o (shown n) d₁ o₁
goes_whole {n} {d} {d₁} {o} {o₁} {i} h e k g =
    rw (← (shown_other n h e), ← (take_all i n (omega arith))) (g.some (omega (arith, λ (z : length n ≡ 0). h z)))
