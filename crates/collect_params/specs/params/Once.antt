-- Uses in the byte order of their names, and then the first of those that mean one name. That the names are then the definition's `sorted` is
-- shown in proofs/Sorted.antt.
-- Assumes nothing.
use Rattle.std.specs.Prelude.{List, [], ◌∷◌, ℕ, min, false, length}
use Rattle.definition.specs.Names.{eq_name}
use Rattle.buffer.specs.writes.Buf.{put, part}
use Rattle.layout.specs.items.At.{pick}
use Rattle.collect_params.specs.uses.Uses.{name_in}
use Rattle.collect_params.specs.sort.Sort.{ordered, spared}

-- of uses that mean one name and follow each other, the first; x came before
unfoldable pub once_after : List ℕ → ℕ → List ℕ → List ℕ
once_after s x [] = []
once_after s x (y ∷ l) =
    let a = once_after s x l in
    let b = y ∷ once_after s y l in
    pick (eq_name (name_in s x) (name_in s y)) a b

unfoldable pub once : List ℕ → List ℕ → List ℕ
once s [] = []
once s (x ∷ l) = x ∷ once_after s x l

-- how many are left of the first n uses, and the two tables then
unfoldable pub sorted_by : List ℕ → List ℕ → ℕ → List ℕ → ℕ × List ℕ × List ℕ
sorted_by s uses n spare =
    let l = part 0 (min (min n (length uses)) (length spare)) uses in
    let m = ordered 24 s l in
    (length (once s m), put (put uses 0 m) 0 (once s m), put spare 0 (spared false l m))
