-- What a buffer holds after a write, and what a part of it is. The book under construction is a buffer and its next free place;
-- every write is cut where the buffer ends, and the place after a write that was cut is one past the buffer's end. So writes one after the other
-- need no test between them: the last place says whether all of them fit.
-- Assumes nothing.
use Rattle.std.specs.Prelude.{List, ◌∷◌, ◌++◌, ◌≡◌, ℕ, suc, ◌+◌, ◌-◌, ◌%◌, min, length, take, drop}

-- d with the elements of p from place at on, as far as d reaches; the rest as before
unfoldable pub put : {A : Type 0} → List A → ℕ → List A → List A
put d at p = take at d ++ (take (length d - at) p ++ drop (at + length p) d)

-- the place after p, or one past the end where p does not fit
unfoldable pub after : {A : Type 0} → List A → ℕ → List A → ℕ
after d at p = min (suc (length d)) (at + length p)

-- the elements from place a up to place e
unfoldable pub part : {A : Type 0} → ℕ → ℕ → List A → List A
part a e l = take (e - a) (drop a l)

-- p was written into d at a place: what d holds then, and the place after
pub record Wrote {A : Type 0} (d : List A) (at : ℕ) (p : List A) (d' : List A) (r : ℕ) : Type 0 where
  pub place : r ≡ after d at p
  pub holds : d' ≡ put d at p

-- "`name` = one length byte, then that many bytes". Of a name that is longer than 255 bytes the length byte tells the remainder
unfoldable pub name_bytes : List ℕ → List ℕ
name_bytes n = length n % 256 ∷ n
