-- Names: equality, the byte order, segments, and the first free name. Document 01, "Bases".
use Rattle.std.specs.Prelude.{List, [], ◌∷◌, ◌++◌, Bool, true, false, cond, ◌&&◌, ◌||◌, ℕ, zero, suc, ◌+◌, ◌/◌, ◌%◌, eqb, leb, ltb, length}
use Rattle.definition.specs.Utf8.{ascii}
use Rattle.definition.specs.Tree.{Name, Shell, wrap, vec, option, array, CaseKind, enums, ints, arrays}

-- "Identifiers are equal when their names are" (reading 9, docs/READINGS.md)
unfoldable pub eq_name : Name → Name → Bool
eq_name [] [] = true
eq_name [] (y ∷ ys) = false
eq_name (x ∷ xs) [] = false
eq_name (x ∷ xs) (y ∷ ys) = let r = eq_name xs ys in cond (eqb x y) r false

unfoldable pub elem : Name → List Name → Bool
elem n [] = false
elem n (m ∷ ms) = let r = elem n ms in cond (eq_name n m) true r

-- names without one of them
unfoldable pub remove : Name → List Name → List Name
remove n [] = []
remove n (m ∷ ms) = let r = remove n ms in cond (eq_name n m) r (m ∷ r)

-- "each once, in byte order"
unfoldable pub before : Name → Name → Bool
before [] [] = false
before [] (y ∷ ys) = true
before (x ∷ xs) [] = false
before (x ∷ xs) (y ∷ ys) = let r = before xs ys in cond (eqb x y) r (ltb x y)

unfoldable pub insert : Name → List Name → List Name
insert n [] = n ∷ []
insert n (m ∷ ms) = let r = insert n ms in cond (eq_name n m) (m ∷ ms) (cond (before n m) (n ∷ m ∷ ms) (m ∷ r))

unfoldable pub sorted : List Name → List Name
sorted [] = []
sorted (n ∷ ns) = insert n (sorted ns)

-- "the part before the first '.'"
unfoldable pub root : Name → Name
root [] = []
root (b ∷ s) = let r = root s in cond (eqb b 46) [] (b ∷ r)

-- "ASCII letters lower-cased, digits kept, every other character one '_'": a character's first byte speaks for it, and its other bytes, 128 to 191, give none
-- (crate `laws`, `segment_by_characters`: of UTF-8 this is the rule for characters)
unfoldable pub letter : ℕ → List ℕ
letter b =
    cond (leb 65 b && leb b 90) ((b + 32) ∷ [])
    (cond (leb 97 b && leb b 122 || leb 48 b && leb b 57) (b ∷ [])
    (cond (leb 128 b && leb b 191) [] (95 ∷ [])))

unfoldable pub letters : List ℕ → List ℕ
letters [] = []
letters (b ∷ s) = letter b ++ letters s

abbrev pub anon : Name
anon = ascii "anon"

abbrev pub item : Name
item = ascii "item"

abbrev pub choice_word : Name
choice_word = ascii "choice"

-- "an empty label gives `anon`"
unfoldable pub segment : Name → Name
segment [] = anon
segment (b ∷ s) = letters (b ∷ s)

-- decimal digits; k bounds how many (crate `laws`, `decimal_reads_back`: their value is the number)
unfoldable pub digits : ℕ → ℕ → List ℕ → List ℕ
digits zero n acc = (48 + n) ∷ acc
digits (suc k) n acc = let r = digits k (n / 10) ((48 + n % 10) ∷ acc) in cond (ltb n 10) ((48 + n) ∷ acc) r

unfoldable pub decimal : ℕ → List ℕ
decimal n = digits n n []

-- "the node's name, '_' and a segment"
unfoldable pub child : Name → Name → Name
child n seg = n ++ (95 ∷ seg)

-- "field or Enums label; `choice0`, `choice1`.. for Ints and Arrays; `anon` for Wrap; `item` for Vec, Array, Option"
unfoldable pub case_segment : CaseKind → Name → ℕ → Name
case_segment enums l i = segment l
case_segment ints l i = choice_word ++ decimal i
case_segment arrays l i = choice_word ++ decimal i

unfoldable pub shell_segment : Shell → Name
shell_segment (wrap x y) = anon
shell_segment vec = item
shell_segment option = item
shell_segment (array l) = item

-- "The name is the base if free, else base_0, base_1.. first free." Of k + 1 tries from base_i on
unfoldable pub numbered : Name → ℕ → Name
numbered base i = base ++ (95 ∷ decimal i)

unfoldable pub first_free : (ℕ → Name) → ℕ → ℕ → List Name → Name
first_free cand zero i taken = cand i
first_free cand (suc k) i taken = let r = first_free cand k (suc i) taken in cond (elem (cand i) taken) r (cand i)

unfoldable pub fresh : Name → List Name → Name
fresh base taken = let r = first_free (numbered base) (length taken) 0 taken in cond (elem base taken) r base
