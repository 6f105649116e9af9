-- The parameters of a lift are the definition's: code 7 exactly where a macro call is left, else the free names, each once, in byte order.
-- Assumes nothing.
use mathlib.Core.Path.{◌≡◌, sym, ap, ◌∙◌}
use mathlib.Core.List.{List}
use mathlib.Core.Bool.{true, false}
use Prim.Native.Nat.{ℕ, ◌+◌, ◌-◌, ◌^◌, ◌≤◌, ◌<◌, min}
use native.Mathlib.Omega.{arith}
use lib.ListN.{length, take}
use lib.Seq.{length-take-le}
use Rattle.definition.specs.Tree.{Name, Combinator}
use Rattle.definition.specs.Write.{w_combinator}
use Rattle.definition.specs.Size.{levels}
use Rattle.definition.specs.Names.{sorted}
use Rattle.definition.specs.Collect.{free, leftover}
use Rattle.buffer.specs.writes.Buf.{put, part}
use Rattle.buffer.proofs.writes.Put.{length-put, take_written}
use Rattle.layout.specs.items.At.{byte_at}
use Rattle.layout.specs.items.Here.{Here}
use Rattle.layout.proofs.items.Here.{here_length}
use Rattle.collect_params.specs.uses.Uses.{names_in_of}
use Rattle.collect_params.specs.collect.Walk.{collect_at}
use Rattle.collect_params.proofs.collect.Room.{free_room}
use Rattle.collect_params.proofs.collect.Free.{length_names, collect_leftover, collect_uses, collect_names, uses_long}
use Rattle.what_comes_back.specs.declared.Code.TheVariants.{LeftoverMacro}
use Rattle.std.specs.Prelude.{Ok, Err}
use Rattle.collect_params.specs.sort.Sort.{ordered}
use Rattle.collect_params.specs.params.Once.{once, sorted_by}
use Rattle.collect_params.specs.params.Params.{sorted_or, params_at}
use Rattle.collect_params.proofs.sort.Sorting.{ordered-length}
use Rattle.collect_params.proofs.params.Sorted.{sorted_names, once_short}

-- the first n uses of a table
module _ (s uses spare : List ℕ) (n : ℕ) (room : n ≤ length uses) (other : n ≤ length spare) (few : n ≤ 2 ^ 24) where
  all : part 0 (min (min n (length uses)) (length spare)) uses ≡ take n uses
  unfolding part
  all = let e : min (min n (length uses)) (length spare) - 0 ≡ n = omega arith in rw e

  pub sorted_are : names_in_of s (take (sorted_by s uses n spare).0 (sorted_by s uses n spare).1) ≡ sorted (names_in_of s (take n uses))
  unfolding sorted_by
  sorted_are =
      let m : List ℕ = ordered 24 s (take n uses) in
      let long : length (take n uses) ≡ n = length-take-le n uses room in
      let fits : 0 + length (once s m) ≤ length (put uses 0 m) = rw (length-put uses 0 m) (omega (arith, once_short s m, ordered-length 24 s (take n uses))) in
      let e : length (once s m) ≡ 0 + length (once s m) = omega arith in
      rw all (ap (names_in_of s) (ap (λ (k : ℕ). take k (put (put uses 0 m) 0 (once s m))) e ∙ take_written (put uses 0 m) 0 (once s m) fits) ∙ sorted_names s (take n uses) (rw long few))

  pub sorted_count : (sorted_by s uses n spare).0 ≡ length (sorted (names_in_of s (take n uses)))
  unfolding sorted_by
  sorted_count = rw all (sym (length_names s (once s (ordered 24 s (take n uses)))) ∙ ap length (sorted_names s (take n uses) (rw (length-take-le n uses room) few)))

module _ (s : List ℕ) (p : ℕ) (c : Combinator) (z : List ℕ) (small : (i : ℕ) → byte_at s i < 256) (short : length s < 16777216) (deep : levels c ≤ 64) (h : Here s p (w_combinator c z)) where
  module _ (bound uses spare : List ℕ) (labels : length s + 64 ≤ length bound) where
    pub params_leftover : leftover c ≡ true → (params_at s p bound uses spare).0 ≡ Err LeftoverMacro
    unfolding params_at sorted_or
    params_leftover e = rw (collect_leftover s p c z small short deep h bound uses labels e)

    module _ (e : leftover c ≡ false) (room : length s ≤ length uses) (other : length s ≤ length spare) where
      some : length (free c) ≤ length s
      some = omega (arith, free_room c z, here_length h)

      long : length (collect_at s p bound uses).2 ≡ length uses
      long = uses_long s p c z small short deep h bound uses labels

      pub params_count : (params_at s p bound uses spare).0 ≡ Ok (length (sorted (free c)))
      unfolding params_at sorted_or
      params_count =
          rw (collect_uses s p c z small short deep h bound uses labels room e)
          (ap Ok (sorted_count s (collect_at s p bound uses).2 spare (length (free c)) (omega (arith, some, long)) (omega (arith, some)) (omega (arith, some))
          ∙ ap (λ (l : List Name). length (sorted l)) (collect_names s p c z small short deep h bound uses labels room)))

      pub params_names : names_in_of s (take (length (sorted (free c))) (params_at s p bound uses spare).2) ≡ sorted (free c)
      unfolding params_at sorted_or
      params_names =
          let n : ℕ = length (free c) in
          let u : List ℕ = (collect_at s p bound uses).2 in
          let same : names_in_of s (take n u) ≡ free c = collect_names s p c z small short deep h bound uses labels room in
          let count : (sorted_by s u n spare).0 ≡ length (sorted (free c)) = sorted_count s u spare n (omega (arith, some, long)) (omega (arith, some)) (omega (arith, some)) ∙ ap (λ (l : List Name). length (sorted l)) same in
          rw (collect_uses s p c z small short deep h bound uses labels room e, ← count)
          (sorted_are s u spare n (omega (arith, some, long)) (omega (arith, some)) (omega (arith, some)) ∙ ap sorted same)
