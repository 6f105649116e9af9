-- UTF-8, from the Unicode standard, chapter 3: code points and their one encoding (crate `laws`, `one_encoding`).
-- Document 01, "The definition book": "`name` = one length byte, then that many bytes of UTF-8."
use Rattle.std.specs.Prelude.{List, [], ◌∷◌, ◌++◌, Bool, true, false, cond, ◌&&◌, ◌||◌, ◌≡◌, ℕ, ◌+◌, ◌/◌, ◌%◌, eqb, leb, ltb}
use Prim.Native.Char.{code}
use Prim.Native.String.{String}

-- definition D76: a scalar value is any code point but the surrogates
unfoldable pub scalar : ℕ → Bool
scalar c = ltb c 0xD800 || leb 0xE000 c && leb c 0x10FFFF

-- a byte 10xxxxxx with the last six bits of c
abbrev six : ℕ → ℕ
six c = 128 + c % 64

-- table 3-6: the bits of a scalar value, over the fewest bytes that hold them
unfoldable pub encode : ℕ → List ℕ
encode c =
    cond (ltb c 0x80) (c ∷ [])
    (cond (ltb c 0x800) ((192 + c / 64) ∷ six c ∷ [])
    (cond (ltb c 0x10000) ((224 + c / 4096) ∷ six (c / 64) ∷ six c ∷ [])
    ((240 + c / 262144) ∷ six (c / 4096) ∷ six (c / 64) ∷ six c ∷ [])))

-- "bytes of UTF-8": encodings of scalar values, one behind the other
pub data Utf8 : List ℕ → Type 0 where
  none : Utf8 []
  more : {s : List ℕ} (c : ℕ) → scalar c ≡ true → Utf8 s → Utf8 (encode c ++ s)

-- the bytes of a text written here
unfoldable pub utf8 : String → List ℕ
unfolding encode
utf8 String.[] = []
utf8 (String.◌∷◌ c s) = encode (code c) ++ utf8 s

-- the same of a text in ASCII, where a character is its own byte: the words of the definition, which compute wherever they stand
abbrev pub ascii : String → List ℕ
ascii String.[] = []
ascii (String.◌∷◌ c s) = code c ∷ ascii s

-- table 3-7, the well-formed byte sequences: for each first byte the ranges of the bytes behind it
pub record Range : Type 0 where
  pub low : ℕ
  pub high : ℕ

abbrev pub range : ℕ → ℕ → Range
range l h = record { low = l; high = h }

abbrev pub inside : Range → ℕ → Bool
inside r b = leb r.low b && leb b r.high

-- A byte that starts no character is followed by a byte in no range
unfoldable pub behind : ℕ → List Range
behind b =
    let tail = range 0x80 0xBF in
    let none = range 1 0 ∷ [] in
    cond (ltb b 0x80) []
    (cond (ltb b 0xC2) none
    (cond (ltb b 0xE0) (tail ∷ [])
    (cond (eqb b 0xE0) (range 0xA0 0xBF ∷ tail ∷ [])
    (cond (eqb b 0xED) (range 0x80 0x9F ∷ tail ∷ [])
    (cond (ltb b 0xF0) (tail ∷ tail ∷ [])
    (cond (eqb b 0xF0) (range 0x90 0xBF ∷ tail ∷ tail ∷ [])
    (cond (ltb b 0xF4) (tail ∷ tail ∷ tail ∷ [])
    (cond (eqb b 0xF4) (range 0x80 0x8F ∷ tail ∷ tail ∷ []) none))))))))

-- first the bytes of a character begun, then whole characters
unfoldable pub characters : List Range → List ℕ → Bool
characters [] [] = true
characters (r ∷ rs) [] = false
characters [] (b ∷ s) = characters (behind b) s
characters (r ∷ rs) (b ∷ s) = inside r b && characters rs s

-- the test, by the table. That it says the same as `Utf8` is proved in crate `laws`
unfoldable pub well_formed : List ℕ → Bool
well_formed s = characters [] s
