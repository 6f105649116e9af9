use Prim.Native.Nat.{ℕ, ◌-◌, ◌≤◌}
use Rattle.expand_macros.proofs.kept.Counting.{Counting}
use Rattle.expand_macros.proofs.kept.count_kept.Given as goal

abbrev pub invariant-loop : goal.invariant-loop
invariant-loop l = (l.n ≤ l.counter) × ((r : ℕ) → Counting l.book l.entry (l.all - l.counter) l.n r → Counting l.book l.initial.entry l.all l.initial.n r)
