use Prim.Native.Nat.{◌+◌, ◌-◌, ◌*◌, ◌≤◌}
use lib.ListN.{length, drop}
use Rattle.read_book.specs.cursor.Ends.{Walked, Ends}
use Rattle.read_book.specs.contents.Table.{row_of}
use Rattle.read_book.proofs.contents.row.Given as goal

abbrev pub invariant-loop : goal.invariant-loop
invariant-loop l =
    (l.here.at ≤ length l.s)
    × (l.n ≤ l.counter → l.want ≤ length l.s)
    × ((r : Walked) → Ends l.s l.here.at r (row_of (6 + l.more) l.s (l.n - l.counter) l.want (drop l.here.at l.s)) → Ends l.s 2 r (row_of (6 + l.more) l.s l.n (2 + (6 + l.more) * l.n) (drop 2 l.s)))
