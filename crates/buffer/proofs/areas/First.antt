-- The first area after writes to either.
-- Assumes nothing.
use mathlib.Core.Path.{◌≡◌, sym, ap, ◌∙◌}
use mathlib.Core.Logic.{⊎_elim}
use mathlib.Core.List.{List, [], ◌∷◌, ◌++◌}
use Prim.Native.Nat.{ℕ, zero, suc, ◌+◌, ◌-◌, ◌≤◌, ◌<◌, min}
use native.Mathlib.Omega.{arith}
use lib.ListN.{length, take, drop}
use lib.Seq.{length-take-le, take-append-add, take-nil}
use Rattle.buffer.specs.writes.Buf.{put, Wrote}
use Rattle.buffer.proofs.writes.Put.{put_fits, put_past, take_put, within}
use Rattle.buffer.specs.areas.First.{first}

pub first_long : (l : List ℕ) → length l ≡ 32768 → length (first l) ≡ 16384
first_long l h = length-take-le 16384 l (omega arith)

-- a write to the second
pub first_kept : {d : List ℕ} {at : ℕ} {p e : List ℕ} {r : ℕ} → Wrote d at p e r → min 16384 (length d + 1) ≤ at → first e ≡ first d
first_kept {d} {at} {p} w h = rw w.holds (⊎_elim
    (λ (k : 16384 ≤ at). take_put d at p 16384 k)
    (λ (k : at < 16384). ap first (put_past d at p (omega arith)))
    (within 16384 at))

pub drop-take : (a m : ℕ) (l : List ℕ) → drop a (take m l) ≡ take (m - a) (drop a l)
drop-take zero m l = let e : m - 0 ≡ m = omega arith in rw e
drop-take (suc a) zero l = let e : 0 - suc a ≡ 0 = omega arith in rw e
drop-take (suc a) (suc m) [] = sym (take-nil (suc m - suc a))
drop-take (suc a) (suc m) (x ∷ l) = let e : suc m - suc a ≡ m - a = omega arith in rw e (drop-take a m l)

-- a write to its front
pub first-put : (d p : List ℕ) → length p ≤ 16384 → 16384 ≤ length d → first (put d 0 p) ≡ put (first d) 0 p
first-put d p h k =
    let n : ℕ = 16384 - length p in
    let m : length p + n ≡ 16384 = omega arith in
    let z : 0 + length p ≡ length p = omega arith in
    let l : length (first d) ≡ 16384 = length-take-le 16384 d k in
    rw (put_fits d 0 p (omega arith), put_fits (first d) 0 p (omega arith), z, drop-take (length p) 16384 d)
    (ap (λ (i : ℕ). take i (p ++ drop (length p) d)) (sym m) ∙ take-append-add p (drop (length p) d) n)
