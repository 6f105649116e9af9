-- Uses in the byte order of their names: a merge sort by halves. That the names are then in order is shown in params' proofs/Sorted.antt.
-- Assumes nothing.
use Rattle.std.specs.Prelude.{List, [], ◌∷◌, Bool, true, false, ℕ, zero, suc, ◌/◌, ltb, length, take, drop}
use Rattle.definition.specs.Names.{before}
use Rattle.layout.specs.items.At.{pick}
use Rattle.collect_params.specs.uses.Uses.{name_in}

-- whether the next is the left list's: it has one, and the right list's first is not before it
unfoldable pub left_first : List ℕ → List ℕ → List ℕ → Bool
left_first s [] r = false
left_first s (x ∷ l) [] = true
left_first s (x ∷ l) (y ∷ r) = pick (before (name_in s y) (name_in s x)) false true

-- two lists in one, of so many
unfoldable pub merged : List ℕ → ℕ → List ℕ → List ℕ → List ℕ
merged s zero l r = []
merged s (suc n) [] [] = []
merged s (suc n) (x ∷ l) [] = x ∷ merged s n l []
merged s (suc n) [] (y ∷ r) = y ∷ merged s n [] r
merged s (suc n) (x ∷ l) (y ∷ r) =
    let a = x ∷ merged s n l (y ∷ r) in
    let b = y ∷ merged s n (x ∷ l) r in
    pick (before (name_in s y) (name_in s x)) b a

-- the two halves, each put in order by `deep`, in one; a list that is short, or that may not be halved, stays
unfoldable pub ordered_by : Bool → (List ℕ → List ℕ) → List ℕ → List ℕ → List ℕ
ordered_by none deep s l =
    let h = length l / 2 in
    let m = merged s (length l) (deep (take h l)) (deep (drop h l)) in
    pick none l (pick (ltb (length l) 2) l m)

-- halved so often at most
unfoldable pub ordered : ℕ → List ℕ → List ℕ → List ℕ
ordered zero s l = ordered_by true (λ m. m) s l
ordered (suc k) s l = ordered_by false (λ m. ordered k s m) s l

-- what the other table then holds of it: nothing where there was nothing to merge
unfoldable pub spared : Bool → List ℕ → List ℕ → List ℕ
spared none l m = pick none [] (pick (ltb (length l) 2) [] m)
