-- Dropping repeats in place, step by step.
-- Assumes nothing.
use mathlib.Core.Path.{◌≡◌, refl, sym, ap, ◌∙◌}
use mathlib.Core.List.{List, [], ◌∷◌}
use mathlib.Core.Bool.{true, false}
use Prim.Native.Nat.{ℕ, ◌+◌, ◌-◌, ◌≤◌, ◌<◌}
use native.Mathlib.Omega.{arith}
use native.Mathlib.Nat.{add-zero}
use lib.ListN.{length, drop, get_or, set, length-set}
use lib.Seq.{take_all, set-get_or, drop-set-lt, get_or-drop, drop-drop}
use Rattle.definition.specs.Names.{eq_name}
use Rattle.buffer.specs.writes.Buf.{put, part}
use Rattle.buffer.proofs.writes.Put.{put-nil, part_back}
use Rattle.collect_params.specs.uses.Uses.{name_in}
use Rattle.collect_params.specs.params.Once.{once_after, once}
use Rattle.collect_params.proofs.sort.Tables.{part-cons, put_step}

-- whoever finishes from i and m has dropped all repeats
pub record Dropping (s : List ℕ) (n : ℕ) (uses₀ : List ℕ) (last m i : ℕ) (uses : List ℕ) : Type 0 where
  pub some : 1 ≤ m
  pub behind : m ≤ i
  pub low : i ≤ n
  pub long : length uses ≡ length uses₀
  pub same : drop i uses ≡ drop i uses₀
  pub rest : put uses m (once_after s last (part i n uses₀)) ≡ put uses₀ 0 (once s (part 0 n uses₀))
  pub count : m + length (once_after s last (part i n uses₀)) ≡ length (once s (part 0 n uses₀))

pub once_none : (s uses : List ℕ) → length uses ≡ 0 → (0 ≡ length (once s uses)) × (uses ≡ put uses 0 (once s uses))
unfolding once
once_none s [] e = (refl, sym (put-nil [] 0))
once_none s (x ∷ l) e = absurd (omega arith)

whole : (u : List ℕ) → part 0 (length u) u ≡ u
unfolding part
whole u = let e : length u - 0 ≡ length u = omega arith in rw e (take_all (length u) u (omega arith))

pub dropping_all : (s uses : List ℕ) (n : ℕ) → (n ≡ 0 → ⊥) → n ≤ length uses → Dropping s n uses (get_or uses 0 0) 1 1 uses
unfolding once
dropping_all s uses n e h =
    let first : part 0 n uses ≡ get_or uses 0 0 ∷ part (0 + 1) n uses = part-cons 0 n uses (omega arith) h in
    record {
      some = omega arith;
      behind = omega arith;
      low = omega arith;
      long = refl;
      same = refl;
      rest = rw first (sym (sym (put_step uses 0 (get_or uses 0 0) (once_after s (get_or uses 0 0) (part 1 n uses)) (omega arith)) ∙ ap (λ (d : List ℕ). put d 1 (once_after s (get_or uses 0 0) (part 1 n uses))) (set-get_or uses 0 0)));
      count = rw first (omega arith);
    }

module _ {s : List ℕ} {n : ℕ} {uses₀ : List ℕ} {last m i : ℕ} {uses : List ℕ} (p : Dropping s n uses₀ last m i uses) where
  pub dropping_done : n ≡ length uses₀ → n ≤ i → (m ≡ length (once s uses₀)) × (uses ≡ put uses₀ 0 (once s uses₀))
  unfolding once_after
  dropping_done e h =
      let none : part i n uses₀ ≡ [] = part_back i n uses₀ h in
      let all : part 0 n uses₀ ≡ uses₀ = rw e (whole uses₀) in
      (let c = rw (none, all) at p.count in omega arith, sym (put-nil uses m) ∙ (rw (none, all) at p.rest))

  module _ (h : i < n) (g : n ≤ length uses₀) where
    read : get_or uses i 0 ≡ get_or uses₀ i 0
    read = ap (λ (k : ℕ). get_or uses k 0) (sym (add-zero i)) ∙ sym (get_or-drop i uses 0 0) ∙ ap (λ (l : List ℕ). get_or l 0 0) p.same ∙ get_or-drop i uses₀ 0 0 ∙ ap (λ (k : ℕ). get_or uses₀ k 0) (add-zero i)

    next : part i n uses₀ ≡ get_or uses i 0 ∷ part (i + 1) n uses₀
    next = rw read (part-cons i n uses₀ h g)

    further : drop (i + 1) uses ≡ drop (i + 1) uses₀
    further = sym (drop-drop 1 i uses) ∙ ap (drop 1) p.same ∙ drop-drop 1 i uses₀

    pub drop_one : true ≡ eq_name (name_in s last) (name_in s (get_or uses i 0)) → Dropping s n uses₀ last m (i + 1) uses
    unfolding once_after
    drop_one e =
        let stays : once_after s last (part i n uses₀) ≡ once_after s last (part (i + 1) n uses₀) = rw (next, sym e) in
        record { some = p.some; behind = omega (arith, p.behind); low = omega arith; long = p.long; same = further; rest = sym (ap (put uses m) stays) ∙ p.rest; count = sym (ap (λ (l : List ℕ). m + length l) stays) ∙ p.count }

    pub keep_one : false ≡ eq_name (name_in s last) (name_in s (get_or uses i 0)) → Dropping s n uses₀ (get_or uses i 0) (m + 1) (i + 1) (set uses m (get_or uses i 0))
    unfolding once_after
    keep_one e =
        let x : ℕ = get_or uses i 0 in
        let more : once_after s last (part i n uses₀) ≡ x ∷ once_after s x (part (i + 1) n uses₀) = rw (next, sym e) in
        let c : m + length (x ∷ once_after s x (part (i + 1) n uses₀)) ≡ length (once s (part 0 n uses₀)) = sym (ap (λ (l : List ℕ). m + length l) more) ∙ p.count in
        record {
          some = omega arith;
          behind = omega (arith, p.behind);
          low = omega arith;
          long = length-set uses m x ∙ p.long;
          same = drop-set-lt (i + 1) uses m x (omega (arith, p.behind)) ∙ further;
          rest = put_step uses m x (once_after s x (part (i + 1) n uses₀)) (omega (arith, p.behind, p.long)) ∙ sym (ap (put uses m) more) ∙ p.rest;
          count = omega arith;
        }
