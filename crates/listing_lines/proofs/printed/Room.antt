-- How long lines are: three bytes for each byte of a definition at the most. So 65,536 bytes hold every listing.
-- Assumes nothing.
use mathlib.Core.Path.{◌≡◌, refl}
use mathlib.Core.List.{List, [], ◌∷◌, ◌++◌}
use mathlib.Core.Bool.{Bool, true, false, cond, not, ◌&&◌}
use Prim.Native.Nat.{ℕ, zero, suc, ◌+◌, ◌*◌, ◌/◌, ◌%◌, ◌≤◌}
use native.Mathlib.Omega.{arith}
use lib.Dec.{leb, ltb, eqb}
use lib.ListN.{length, length-append}
use Rattle.definition.specs.Code.{Code, number, work_short, book_long, not_a_book, bad_name, too_deep_of, macro_growth, leftover_macro, no_binder, name_long, result_long, output_short, macro_left}
use Rattle.definition.specs.Out.{Out, done}
use Rattle.definition.specs.Tree.{Name, Param, Definition, format, constant, byte_order, macro}
use Rattle.definition.specs.Names.{digits, decimal}
use Rattle.definition.specs.Write.{w_u16, w_name, w_text, w_all, w_list, w_param, w_definition, size_of}
use Rattle.definition.specs.Answer.{Result, all}
use Rattle.definition.specs.Listing.{hex, shown_byte, shown_bytes, shown, count, w_format, w_lifted, line, lines, w_at, has_place_of, placed, listed}
use Rattle.laws.specs.Book.{IsBook}
use Rattle.laws.proofs.Splits.{s_param}
use Rattle.laws.proofs.Sizes.{adds, head, size-format, room, room-append, size_book_lem, size_some}
use Rattle.laws.proofs.Steps.{Yields, stops, yields}

byte_room : (b : ℕ) → length (shown_byte b) ≤ 3
unfolding shown_byte
byte_room b = of (leb 33 b && leb b 126 && not (eqb b 37))
  where
    of : (t : Bool) → length (cond t (b ∷ []) (37 ∷ hex (b / 16) ∷ hex (b % 16) ∷ [])) ≤ 3
    of true = omega arith
    of false = omega arith

bytes_room : (s : List ℕ) → length (shown_bytes s) ≤ 3 * length s
unfolding shown_bytes
bytes_room [] = omega arith
bytes_room (b ∷ s) = omega (arith, length-append (shown_byte b) (shown_bytes s), byte_room b, bytes_room s)

shown_room : (n : Name) → length (shown n) ≤ 1 + 3 * length n
unfolding shown
shown_room [] = omega arith
shown_room (b ∷ []) = of (eqb b 45) refl
  where
    of : (t : Bool) → eqb b 45 ≡ t → length (shown (b ∷ [])) ≤ 4
    of true e = rw e (omega arith)
    of false e = rw e (omega (arith, byte_room b))
shown_room (b ∷ c ∷ s) = omega (arith, bytes_room (b ∷ c ∷ s))

digits_room : (k n : ℕ) (acc : List ℕ) → length (digits k n acc) ≤ 1 + k + length acc
unfolding digits
digits_room zero n acc = omega arith
digits_room (suc k) n acc = of (ltb n 10) (digits_room k (n / 10) ((48 + n % 10) ∷ acc))
  where
    of : (t : Bool) → length (digits k (n / 10) ((48 + n % 10) ∷ acc)) ≤ 1 + k + suc (length acc) → length (cond t ((48 + n) ∷ acc) (digits k (n / 10) ((48 + n % 10) ∷ acc))) ≤ 1 + suc k + length acc
    of true h = omega arith
    of false h = omega arith

count_room : (n : ℕ) → length (count n) ≤ n + 2
unfolding count decimal
count_room n = omega (arith, digits_room n n [])

-- each parameter takes a byte or more
params_least : (ps : List Param) (r : List ℕ) → length ps ≤ length (w_all w_param ps r)
unfolding w_all w_param w_name
params_least [] r = omega arith
params_least (p ∷ ps) r = omega (arith, params_least ps r, adds (w_param p) (s_param p) (w_all w_param ps r))

line_room : (word : List ℕ) → length word ≡ 6 → (x : Definition) → length (line word x) ≤ 3 * size_of x
unfolding line head w_list w_u16 w_name w_text size_of w_definition
line_room word w (format n ps c) =
    let a = length-append (word ++ (32 ∷ []) ++ shown n ++ count (length ps)) (10 ∷ []) in
    let b = length-append (word ++ (32 ∷ []) ++ shown n) (count (length ps)) in
    let d = length-append (word ++ (32 ∷ [])) (shown n) in
    let e = length-append word (32 ∷ []) in
    omega (arith, a, b, d, e, shown_room n, count_room (length ps), size-format n ps c, params_least ps [], size_some c, length-append n [])
line_room word w (constant n x) = omega (arith, length-append (shown n) (10 ∷ []), shown_room n, length-append n (length x % 256 ∷ length x / 256 ∷ (x ++ [])))
line_room word w (byte_order x) = omega arith
line_room word w (macro n ps c) = omega arith

lines-room : (word : List ℕ) → length word ≡ 6 → (ds : List Definition) → length (lines word ds) ≤ 3 * room ds
unfolding lines room
lines-room word w [] = omega arith
lines-room word w (d ∷ ds) = omega (arith, length-append (line word d) (lines word ds), line_room word w d, lines-room word w ds)

result_room : (p : ℕ) (r : Result) → IsBook (all r) → length (listed p (done r)) ≤ 65536
unfolding listed
result_room p r i =
    let d = count (length (all r)) in
    let l = count (length r.lifted) in
    let k = lines w_format r.kept in
    let m = lines w_lifted r.lifted in
    let a = length-append ((111 ∷ 107 ∷ []) ++ d ++ l ++ (10 ∷ []) ++ k) m in
    let b = length-append ((111 ∷ 107 ∷ []) ++ d ++ l ++ (10 ∷ [])) k in
    let c = length-append ((111 ∷ 107 ∷ []) ++ d ++ l) (10 ∷ []) in
    let e = length-append ((111 ∷ 107 ∷ []) ++ d) l in
    omega (arith, a, b, c, e, count_room (length (all r)), count_room (length r.lifted), lines-room w_format refl r.kept, lines-room w_lifted refl r.lifted, room-append r.kept r.lifted, size_book_lem (all r), i.short, i.few, length-append r.kept r.lifted)

code_range : (k : Code) → (1 ≤ number k) × (number k ≤ 12)
unfolding number
code_range work_short = (omega arith, omega arith)
code_range book_long = (omega arith, omega arith)
code_range not_a_book = (omega arith, omega arith)
code_range bad_name = (omega arith, omega arith)
code_range too_deep_of = (omega arith, omega arith)
code_range macro_growth = (omega arith, omega arith)
code_range leftover_macro = (omega arith, omega arith)
code_range no_binder = (omega arith, omega arith)
code_range name_long = (omega arith, omega arith)
code_range result_long = (omega arith, omega arith)
code_range output_short = (omega arith, omega arith)
code_range macro_left = (omega arith, omega arith)

pub code_some : (k : Code) → 1 ≤ number k
code_some k = (code_range k).0

placed_room : (n p : ℕ) → length (placed n p) ≤ p + 5
unfolding placed
placed_room n p = of (has_place_of n)
  where
    of : (t : Bool) → length (cond t (w_at ++ count p) []) ≤ p + 5
    of true = omega (arith, length-append w_at (count p), count_room p)
    of false = omega arith

pub listed_room : {p : ℕ} → p ≤ 16384 → {m : Out Result} → Yields (λ r. IsBook (all r)) m → length (listed p m) ≤ 65536
unfolding listed
listed_room {p} b (stops {k = k}) =
    let s = placed (number k) p in
    let c = count (number k) in
    omega (arith, length-append ((114 ∷ 101 ∷ 102 ∷ 117 ∷ 115 ∷ 101 ∷ 100 ∷ []) ++ c ++ s) (10 ∷ []), length-append ((114 ∷ 101 ∷ 102 ∷ 117 ∷ 115 ∷ 101 ∷ 100 ∷ []) ++ c) s, count_room (number k), placed_room (number k) p, (code_range k).1)
listed_room {p} b (yields {a = r} i) = result_room p r i
