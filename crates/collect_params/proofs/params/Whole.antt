-- The whole table, sorted and then each name once.
-- Assumes nothing.
use mathlib.Core.Path.{◌≡◌, sym, ap, ◌∙◌}
use mathlib.Core.List.{List, ◌++◌}
use mathlib.Core.Bool.{false}
use Prim.Native.Nat.{ℕ, ◌+◌, ◌-◌, min}
use native.Mathlib.Omega.{arith}
use lib.ListN.{length, take, drop, length-take, take-append-drop}
use Rattle.buffer.specs.writes.Buf.{put, part}
use Rattle.buffer.proofs.writes.Put.{length_part, part_written}
use Rattle.collect_params.specs.sort.Sort.{ordered, spared}
use Rattle.collect_params.proofs.sort.Sorting.{ordered-length, spare_short, put_front}
use Rattle.collect_params.proofs.sort.Tables.{put_whole}
use Rattle.collect_params.specs.params.Once.{once, sorted_by}
use Rattle.collect_params.proofs.params.Sorted.{once_short}

pub got {ℓ} : {A : Type ℓ} {r x y : A} → r ≡ x → r ≡ y → x ≡ y
got e g = sym e ∙ g

first_part : (end : ℕ) (u : List ℕ) → part 0 end u ≡ take end u
unfolding part
first_part end u = let e : end - 0 ≡ end = omega arith in rw e

pub sorted_is : (s u e u₁ e₁ u₂ : List ℕ) (n held end r : ℕ) → held ≡ min n (length u) → end ≡ min held (length e)
    → u₁ ≡ put u 0 (ordered 24 s (part 0 end u)) → e₁ ≡ put e 0 (spared false (part 0 end u) (ordered 24 s (part 0 end u)))
    → r ≡ length (once s (part 0 end u₁)) → u₂ ≡ put u₁ 0 (once s (part 0 end u₁))
    → (r ≡ (sorted_by s u n e).0) × (u₂ ≡ (sorted_by s u n e).1) × (e₁ ≡ (sorted_by s u n e).2)
unfolding sorted_by
sorted_is s u e u₁ e₁ u₂ n held end r h k o p c q =
    let m : List ℕ = ordered 24 s (part 0 end u) in
    let l : length m ≡ end = ordered-length 24 s (part 0 end u) ∙ length_part 0 end u (omega arith) (omega arith) ∙ (let z : end - 0 ≡ end = omega arith in z) in
    let whole : part 0 end u₁ ≡ m =
    ap (part 0 end) o ∙ ap (λ (i : ℕ). part 0 i (put u 0 m)) (let z : end ≡ 0 + length m = omega arith in z) ∙ part_written u 0 m (omega arith) in
    let bound : min (min n (length u)) (length e) ≡ end = rw (← h, ← k) in
    rw bound (c ∙ ap (λ (x : List ℕ). length (once s x)) whole, q ∙ ap (λ (x : List ℕ). put u₁ 0 (once s x)) whole ∙ ap (λ (x : List ℕ). put x 0 (once s m)) o, p)

-- the same where the first part alone was lent
pub sorted_front : (s u e x z y : List ℕ) (n held end r : ℕ) → held ≡ min n (length u) → end ≡ min held (length e)
    → x ≡ ordered 24 s (take end u) → z ≡ put (take end e) 0 (spared false (take end u) (ordered 24 s (take end u)))
    → r ≡ length (once s (take end (x ++ drop end u))) → y ≡ put (take end (x ++ drop end u)) 0 (once s (take end (x ++ drop end u)))
    → (r ≡ (sorted_by s u n e).0) × (y ++ drop end (x ++ drop end u) ≡ (sorted_by s u n e).1) × (z ++ drop end e ≡ (sorted_by s u n e).2)
sorted_front s u e x z y n held end r h k ex ez er ey =
    let m : List ℕ = ordered 24 s (take end u) in
    let u₁ : List ℕ = x ++ drop end u in
    let l : length m ≡ end = ordered-length 24 s (take end u) ∙ length-take end u ∙ (let g : min end (length u) ≡ end = omega arith in g) in
    let le : length (take end e) ≡ end = length-take end e ∙ (let g : min end (length e) ≡ end = omega arith in g) in
    let lu : length (take end u) ≡ end = length-take end u ∙ (let g : min end (length u) ≡ end = omega arith in g) in
    let a : u₁ ≡ put u 0 m =
    rw ex (ap (λ (q : List ℕ). q ++ drop end u) (sym (put_whole (take end u) m (l ∙ sym lu)))) ∙ put_front (take end u) m (drop end u) (omega arith) ∙ ap (λ (q : List ℕ). put q 0 m) (take-append-drop end u) in
    let b : z ++ drop end e ≡ put e 0 (spared false (take end u) m) =
    ap (λ (q : List ℕ). q ++ drop end e) ez ∙ put_front (take end e) (spared false (take end u) m) (drop end e) (omega (arith, spare_short false (take end u) m)) ∙ ap (λ (q : List ℕ). put q 0 (spared false (take end u) m)) (take-append-drop end e) in
    let o : List ℕ = once s (take end u₁) in
    let c : y ++ drop end u₁ ≡ put u₁ 0 o =
    ap (λ (q : List ℕ). q ++ drop end u₁) ey ∙ put_front (take end u₁) o (drop end u₁) (once_short s (take end u₁)) ∙ ap (λ (q : List ℕ). put q 0 o) (take-append-drop end u₁) in
    sorted_is s u e u₁ (z ++ drop end e) (y ++ drop end u₁) n held end r h k (rw (first_part end u) a) (rw (first_part end u) b) (rw (first_part end u₁) er) (rw (first_part end u₁) c)
