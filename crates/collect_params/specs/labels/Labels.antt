-- The labels in force, in one table of numbers, total on any table. It mirrors the code; that a name is found exactly where it is one of them is
-- shown in proofs/Found.antt.
-- Assumes nothing.
use Rattle.std.specs.Prelude.{List, [], ◌∷◌, Bool, false, ℕ, zero, suc, ◌+◌, ◌*◌, ◌-◌, ◌/◌, ◌%◌, min, eqb, leb, length, get_or, set}
use Rattle.definition.specs.Tree.{Name}
use Rattle.definition.specs.Names.{eq_name}
use Rattle.layout.specs.lookup.Name.{name_at}
use Rattle.layout.specs.items.At.{pick}
use Rattle.layout.specs.hash.Hash.{hash_of, bit_at}

-- the first 64 numbers are heads: that of a name is told by the six highest bits of its hash
unfoldable pub head_of : Name → ℕ
head_of n = hash_of n / 67108864

-- a label has four numbers behind them: the place of its name, two that lead on, and where the number stands that leads to it
unfoldable pub label_at : List ℕ → List ℕ → ℕ → Name
label_at s t i = name_at s (get_or t (64 + 4 * i) 0)

-- the first so many labels, the last one first
unfoldable pub labels_in : List ℕ → List ℕ → ℕ → List Name
labels_in s t zero = []
labels_in s t (suc i) = label_at s t i ∷ labels_in s t i

-- what leads on at x: one more than the number of one of the first b labels, which says that it is led to from there; or 0. Whatever else the
-- table holds there leads nowhere, so that labels are taken back by counting fewer of them
unfoldable pub link_at : List ℕ → ℕ → ℕ → ℕ
link_at t b x = let v = get_or t x 0 in pick (leb v b) (pick (eqb (get_or t (67 + 4 * (v - 1)) 0) x) v 0) 0

-- which number of label i leads on for a name, by its bits behind these nine, as far as a name has some
unfoldable pub fork_at : Name → ℕ → ℕ → ℕ
fork_at n d i = 65 + 4 * i + bit_at n (min d 4096 + 6)

-- where the way of a name ends that has come to x after d steps, with k steps left: where nothing leads on, or to a label of that name
unfoldable pub way_of : List ℕ → Name → List ℕ → ℕ → ℕ → ℕ → ℕ → ℕ
way_of s n t b zero d x = x
way_of s n t b (suc k) d x =
    let v = link_at t b x in
    let on = way_of s n t b k (d + 1) (fork_at n d (v - 1)) in
    pick (eqb v 0) x (pick (eq_name n (label_at s t (v - 1))) x on)

unfoldable pub end_of : List ℕ → Name → List ℕ → ℕ → ℕ
end_of s n t b = way_of s n t b b 0 (head_of n)

-- whether a label of that name follows at x
unfoldable pub leads_to : List ℕ → Name → List ℕ → ℕ → ℕ → Bool
leads_to s n t b x = let v = link_at t b x in pick (eqb v 0) false (eq_name n (label_at s t (v - 1)))

-- whether a name is one of the first b labels
unfoldable pub is_label_of : List ℕ → Name → List ℕ → ℕ → Bool
is_label_of s n t b = leads_to s n t b (end_of s n t b)

-- where the number is to stand that leads to a new label of that name: where its way ends, or aside if there is one of its name already
unfoldable pub slot_of : List ℕ → Name → List ℕ → ℕ → ℕ → ℕ
slot_of s n t b aside = let x = end_of s n t b in pick (eqb (link_at t b x) 0) x aside

-- the label at a place becomes number b: how many there are then, and the table. Past the table's end nothing is bound
unfoldable pub bind_at : List ℕ → ℕ → List ℕ → ℕ → ℕ × List ℕ
bind_at s at t b =
    let first = 64 + 4 * b in
    let x = slot_of s (name_at s at) t b (first + 3) in
    pick (leb (length t) (first + 3)) (b, t)
    (b + 1, set (set (set (set (set t first (at % 4294967296)) (first + 1) 0) (first + 2) 0) x ((b + 1) % 4294967296)) (first + 3) (x % 4294967296))
