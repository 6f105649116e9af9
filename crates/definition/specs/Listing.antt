-- The lines of the listing, each with its newline (reading 16, docs/READINGS.md).
use Rattle.std.specs.Prelude.{List, [], ◌∷◌, ◌++◌, Bool, true, false, cond, not, ◌&&◌, ℕ, ◌+◌, ◌/◌, ◌%◌, eqb, leb, ltb, length}
use Rattle.definition.specs.Code.{number}
use Rattle.definition.specs.Utf8.{ascii}
use Rattle.definition.specs.Out.{Out, refused, done}
use Rattle.definition.specs.Tree.{Name, Definition, format, constant, byte_order, macro}
use Rattle.definition.specs.Names.{digits, decimal}
use Rattle.definition.specs.Contents.{read_book_of}
use Rattle.definition.specs.Macros.{expand_book}
use Rattle.definition.specs.Lift.{lift_book_of}
use Rattle.definition.specs.Answer.{Result, all, elaborated, fault_of}

unfoldable pub hex : ℕ → ℕ
hex d = cond (ltb d 10) (48 + d) (55 + d)

-- "Bytes outside 33..126 and '%' print as % and two upper-case hex digits"
unfoldable pub shown_byte : ℕ → List ℕ
shown_byte b = cond (leb 33 b && leb b 126 && not (eqb b 37)) (b ∷ []) (37 ∷ hex (b / 16) ∷ hex (b % 16) ∷ [])

unfoldable pub shown_bytes : List ℕ → List ℕ
shown_bytes [] = []
shown_bytes (b ∷ s) = shown_byte b ++ shown_bytes s

abbrev dash : Bool → ℕ → List ℕ
dash true b = ascii "%2D"
dash false b = shown_byte b

-- "the empty name prints `-`, the name "-" prints `%2D`"
unfoldable pub shown : Name → List ℕ
shown [] = ascii "-"
shown (b ∷ []) = dash (eqb b 45) b
shown (b ∷ c ∷ s) = shown_bytes (b ∷ c ∷ s)

-- a space and a number
unfoldable pub count : ℕ → List ℕ
count n = 32 ∷ decimal n

-- the words
abbrev w_ok : List ℕ
w_ok = ascii "ok"

abbrev w_refused : List ℕ
w_refused = ascii "refused"

abbrev pub w_at : List ℕ
w_at = ascii " at"

abbrev pub w_format : List ℕ
w_format = ascii "format"

abbrev pub w_lifted : List ℕ
w_lifted = ascii "lifted"

abbrev w_const : List ℕ
w_const = ascii "const"

abbrev w_order : List ℕ
w_order = ascii "order"

abbrev newline : List ℕ
newline = 10 ∷ []

-- "`format` or `lifted`, name, parameter count; `const` and name; `order` alone"
unfoldable pub line : List ℕ → Definition → List ℕ
line word (format n ps c) = word ++ (32 ∷ []) ++ shown n ++ count (length ps) ++ newline
line word (constant n x) = w_const ++ (32 ∷ []) ++ shown n ++ newline
line word (byte_order x) = w_order ++ newline
line word (macro n ps c) = []

unfoldable pub lines : List ℕ → List Definition → List ℕ
lines word [] = []
lines word (d ∷ ds) = line word d ++ lines word ds

-- document 02 a: "Codes 3, 4 and 5"
unfoldable pub has_place_of : ℕ → Bool
has_place_of n = leb 3 n && leb n 5

-- "`refused N at P` for the three"
unfoldable pub placed : ℕ → ℕ → List ℕ
placed n p = cond (has_place_of n) (w_at ++ count p) []

-- "It prints `refused N`, or `ok D L` (definitions, lifted) and a line per definition"
unfoldable pub listed : ℕ → Out Result → List ℕ
listed p (refused k) = w_refused ++ count (number k) ++ placed (number k) p ++ newline
listed p (done r) = w_ok ++ count (length (all r)) ++ count (length r.lifted) ++ newline ++ lines w_format r.kept ++ lines w_lifted r.lifted

unfoldable pub listing : List ℕ → List ℕ
unfolding hex shown_byte shown_bytes shown number count line lines has_place_of placed listed fault_of digits decimal elaborated read_book_of expand_book lift_book_of
listing book = listed (fault_of book) (elaborated book)
