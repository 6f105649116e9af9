-- A name in a buffer that grows by a write.
-- Assumes nothing.
use mathlib.Core.Path.{◌≡◌, sym, ap, ◌∙◌}
use mathlib.Core.Logic.{⊎_elim}
use mathlib.Core.List.{List, [], ◌∷◌, ◌++◌, append-nil}
use Prim.Native.Nat.{ℕ, suc, ◌+◌, ◌-◌, ◌≤◌, ◌<◌, min}
use native.Mathlib.Nat.{le_refl}
use native.Mathlib.Omega.{arith}
use lib.ListN.{length, take, drop, length-append, drop_of_length-le}
use lib.Seq.{take-take, take_all, take-append-le, take-append-add}
use Rattle.definition.specs.Tree.{Name}
use Rattle.definition.specs.Names.{child}
use Rattle.buffer.specs.writes.Buf.{put, Wrote}
use Rattle.buffer.proofs.writes.Put.{put_past, take_put, take_written, within}
use Rattle.buffer.proofs.writes.Wrote.{place_is, same_length}
use Rattle.generated_name.specs.child_name.Name.{Held, Child}

module _ {d : List ℕ} {at : ℕ} {name : Name} (h : Held d at name) where
  -- a name that the buffer has room for stands in it whole
  pub held_whole : at ≤ length d → take at d ≡ name
  held_whole k = h.bytes ∙ take_all (length d) name (omega (arith, h.place))

  module _ {p d' : List ℕ} {r : ℕ} (w : Wrote d at p d' r) where
    grown_place : r ≡ min (suc (length d')) (length (name ++ p))
    grown_place = rw (length-append, same_length w) (omega (arith, h.place, place_is w))

    grown_whole : length name + length p ≤ length d → take r d' ≡ take (length d) (name ++ p)
    grown_whole k =
        let a : at ≡ length name = omega (arith, h.place) in
        let e : r ≡ at + length p = omega (arith, place_is w) in
        rw (e, w.holds, take_written d at p (omega arith), held_whole (omega arith)) (sym (take_all (length d) (name ++ p) (rw length-append k)))

    grown_past : length d < length name → take r d' ≡ take (length d) (name ++ p)
    grown_past k =
        let a : at ≡ suc (length d) = omega (arith, h.place) in
        let e : r ≡ at = omega (arith, place_is w, a) in
        rw (e, w.holds, put_past d at p (omega arith), take-append-le (length d) name p (omega arith)) h.bytes

    grown_cut : length name ≤ length d → length d < length name + length p → take r d' ≡ take (length d) (name ++ p)
    unfolding put
    grown_cut k m =
        let a : at ≡ length name = omega (arith, h.place) in
        let long : length d' ≤ r = omega (arith, place_is w, same_length w) in
        let z : drop (at + length p) d ≡ [] = drop_of_length-le d {i = at + length p} (omega arith) in
        let n : length d ≡ length name + (length d - at) = omega arith in
        take_all r d' long ∙ w.holds
        ∙ rw (z, append-nil, held_whole (omega arith)) (sym (ap (λ (i : ℕ). take i (name ++ p)) n ∙ take-append-add name p (length d - at)))

    pub grown : Held d' r (name ++ p)
    grown = record {
      place = grown_place;
      bytes = rw (same_length w) (⊎_elim grown_whole
          (λ (k : length d < length name + length p). ⊎_elim (λ (m : length name ≤ length d). grown_cut m k) grown_past (within (length name) (length d)))
          (within (length name + length p) (length d)));
    }

-- "Children take the node's name, '_' and a segment"
pub extend : {d : List ℕ} {at : ℕ} {seg : Name} {d' : List ℕ} {r : ℕ} → Wrote d at (95 ∷ seg) d' r → Child d at seg d' r
unfolding child
extend w = record { wrote = w; named = λ name h. grown h w }

-- ---- the way back: a node's name stays where it is while names grow behind it
pub held_back : {d : List ℕ} {at : ℕ} {name : Name} → Held d at name → {d' : List ℕ} → length d' ≡ length d → take at d' ≡ take at d → Held d' at name
held_back h e k = record { place = rw e h.place; bytes = rw e (k ∙ h.bytes) }

pub stays : {d : List ℕ} {at : ℕ} {p d' : List ℕ} {r : ℕ} → Wrote d at p d' r → take at d' ≡ take at d
stays {d} {at} {p} w = ap (take at) w.holds ∙ take_put d at p at (le_refl at)

pub take_less : (d d' : List ℕ) (a at : ℕ) → a ≤ at → take at d' ≡ take at d → take a d' ≡ take a d
take_less d d' a at h e = sym (take-take a at d' h) ∙ ap (take a) e ∙ take-take a at d h
