-- Going over a range from left to right.
use mathlib.Core.Path.{◌≡◌, sym, ap, ◌∙◌}
use mathlib.Core.List.{List, [], ◌∷◌, ◌++◌}
use Prim.Native.Nat.{ℕ, zero, suc, ◌+◌, ◌-◌, ◌≤◌, ◌<◌}
use native.Mathlib.Omega.{arith}
use lib.ListN.{length, take, drop, get_or, length-take, length-drop, take-append-drop}
use lib.Seq.{drop-drop}
use Rattle.buffer.specs.writes.Buf.{part}
use Rattle.definition.specs.Res.{absent, just}
use Rattle.definition.specs.Write.{w_combinator}
use Rattle.lifting.specs.Records.{Record, find, call}
use Rattle.lifting.specs.Calls.{placed, going, with_calls}

module _ (s : List ℕ) (rs : List Record) where
  -- leaving out a number of places is going on after them
  skips : (k n at : ℕ) → going s rs n at k ≡ going s rs (n - k) (at + k) 0
  unfolding going
  skips zero n at = let e : n - 0 ≡ n = omega arith in let f : at + 0 ≡ at = omega arith in rw (e, f)
  skips (suc k) zero at = let e : 0 - suc k ≡ 0 = omega arith in rw e
  skips (suc k) (suc n) at =
      let e : suc n - suc k ≡ n - k = omega arith in
      let f : at + suc k ≡ suc at + k = omega arith in
      rw (e, f) (skips k n (suc at))

  pub calls_end : (from to : ℕ) → to ≤ from → with_calls s rs from to ≡ []
  unfolding with_calls going
  calls_end from to h = let e : to - from ≡ 0 = omega arith in rw e

  pub calls_copy : (from to : ℕ) → from < to → find rs from ≡ absent → with_calls s rs from to ≡ get_or s from 0 ∷ with_calls s rs (suc from) to
  unfolding with_calls going placed
  calls_copy from to p e = let n : to - from ≡ suc (to - suc from) = omega arith in rw (n, e)

  pub calls_call : (from to : ℕ) (r : Record) → from < to → find rs from ≡ just r → from < r.end → with_calls s rs from to ≡ w_combinator (call r) (with_calls s rs r.end to)
  unfolding with_calls going placed
  calls_call from to r p e q =
      let n : to - from ≡ suc (to - suc from) = omega arith in
      let k : (to - suc from) - (r.end - suc from) ≡ to - r.end = omega arith in
      let m : suc from + (r.end - suc from) ≡ r.end = omega arith in
      rw (n, e, skips (r.end - suc from) (to - suc from) (suc from), k, m)

  -- what stands from a place on, up to `to`, is r
  pub record Goes (to from : ℕ) (r : List ℕ) : Type 0 where
    pub before : from ≤ to
    pub is : with_calls s rs from to ≡ r

  pub ends : (to : ℕ) → Goes to to []
  ends to = record { before = omega arith; is = calls_end to to (omega arith) }

  pub copies : {to from : ℕ} {r : List ℕ} (b : ℕ) → find rs from ≡ absent → get_or s from 0 ≡ b → Goes to (suc from) r → Goes to from (b ∷ r)
  copies {to} {from} b e f g = record { before = let h = g.before in omega arith; is = calls_copy from to (let h = g.before in omega arith) e ∙ (rw (f, g.is)) }

  pub calls : {to from : ℕ} {r : List ℕ} (k : Record) → find rs from ≡ just k → from < k.end → Goes to k.end r → Goes to from (w_combinator (call k) r)
  calls {to} {from} k e p g = record { before = let h = g.before in omega arith; is = calls_call from to k (let h = g.before in omega arith) e p ∙ ap (w_combinator (call k)) g.is }

  -- the same from the second place on: at the first place of a body nothing is looked up
  pub record Opens (to from : ℕ) (r : List ℕ) : Type 0 where
    pub before : from < to
    pub is : r ≡ get_or s from 0 ∷ with_calls s rs (suc from) to

  pub opened : {to from : ℕ} {r : List ℕ} (b : ℕ) → get_or s from 0 ≡ b → Goes to (suc from) r → Opens to from (b ∷ r)
  opened {to} {from} b f g = record { before = let h = g.before in omega arith; is = rw (f, g.is) }

  pub goes_on : {to from : ℕ} {r : List ℕ} → find rs from ≡ absent → Opens to from r → Goes to from r
  goes_on {to} {from} e o = record { before = let h = o.before in omega arith; is = calls_copy from to o.before e ∙ sym o.is }

  -- bytes that stand at a place
  pub first_byte : (p : ℕ) (l : List ℕ) (b : ℕ) (z : List ℕ) → drop p l ≡ b ∷ z → (get_or l p 0 ≡ b) × (drop (suc p) l ≡ z)
  first_byte zero (x ∷ l) b z e = (cc, cc)
  first_byte (suc p) (x ∷ l) b z e = first_byte p l b z e
  first_byte zero [] b z e = let h : ◌≡◌ {A = ℕ} 0 1 = cc in absurd (omega arith)
  first_byte (suc p) [] b z e = let h : ◌≡◌ {A = ℕ} 0 1 = cc in absurd (omega arith)

  pub raw_goes : {to : ℕ} {r : List ℕ} (l : List ℕ) (p : ℕ) (z : List ℕ) → drop p s ≡ l ++ z → ((x : ℕ) → p ≤ x → x < p + length l → find rs x ≡ absent) → Goes to (p + length l) r → Goes to p (l ++ r)
  raw_goes {to} [] p z e h g = let f : p + 0 ≡ p = omega arith in rw f at g
  raw_goes {to} (b ∷ l) p z e h g =
      let w = first_byte p s b (l ++ z) e in
      let f : p + suc (length l) ≡ suc p + length l = omega arith in
      copies b (h p (omega arith) (omega arith)) w.0 (raw_goes l (suc p) z w.1 (λ x a c. h x (omega arith) (omega arith)) (rw f at g))

  pub raw_opens : {to : ℕ} {r : List ℕ} (l : List ℕ) (p : ℕ) (z : List ℕ) → 0 < length l → drop p s ≡ l ++ z → ((x : ℕ) → suc p ≤ x → x < p + length l → find rs x ≡ absent) → Goes to (p + length l) r → Opens to p (l ++ r)
  raw_opens [] p z n e h g = absurd (omega arith)
  raw_opens (b ∷ l) p z n e h g =
      let w = first_byte p s b (l ++ z) e in
      let f : p + suc (length l) ≡ suc p + length l = omega arith in
      opened b w.0 (raw_goes l (suc p) z w.1 (λ x a c. h x (omega arith) (omega arith)) (rw f at g))

  -- a stretch without a lift
  pub calls_stretch : (from mid to : ℕ) → from ≤ mid → mid ≤ to → mid ≤ length s → ((x : ℕ) → from ≤ x → x < mid → find rs x ≡ absent) → with_calls s rs from to ≡ part from mid s ++ with_calls s rs mid to
  unfolding part
  calls_stretch from mid to i j k h =
      let l = take (mid - from) (drop from s) in
      let n : length l ≡ mid - from = simp (length-take, length-drop) (omega arith) in
      let m : from + (mid - from) ≡ mid = omega arith in
      let e : drop from s ≡ l ++ drop mid s = sym (take-append-drop (mid - from) (drop from s)) ∙ ap (l ++◌) (drop-drop (mid - from) from s ∙ ap (λ x. drop x s) m) in
      let g : Goes to (from + length l) (with_calls s rs mid to) = record { before = omega arith; is = rw (n, m) } in
      (raw_goes l from (drop mid s) e (λ x a b. h x a (omega arith)) g).is
