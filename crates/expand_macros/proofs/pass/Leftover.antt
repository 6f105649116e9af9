-- The book that is left: each definition that is kept, and its entry, one after the other.
-- Assumes nothing.
use mathlib.Core.Path.{◌≡◌, refl, sym, ap, ◌∙◌}
use mathlib.Core.Logic.{⊎_elim}
use mathlib.Core.List.{List, [], ◌∷◌, ◌++◌, map, append_assoc}
use mathlib.Core.Bool.{Bool, true, false}
use Prim.Native.Nat.{ℕ, suc, ◌+◌, ◌-◌, ◌*◌, ◌%◌, ◌≤◌, ◌<◌}
use native.Mathlib.Omega.{arith}
use lib.Dec.{leb}
use lib.ListN.{length, take, drop, length-append, take-append-drop}
use lib.Seq.{take_at, length-take-le, take-append-le, drop-append-le, drop-append-add}
use borrow.Author.Tests.{le-leb, lt-leb}
use Rattle.definition.specs.Out.{Out, refused, done, ◌>>=◌}
use Rattle.definition.specs.Tree.{Definition, format, constant, byte_order, macro}
use Rattle.definition.specs.Write.{w_u16, w_all, w_definition, kind_of, kind_byte, size_of, w_entries, entry_of}
use Rattle.definition.specs.Size.{levels_book}
use Rattle.definition.specs.Macros.{Macro, expand}
use Rattle.laws.proofs.Splits.{s_definition}
use Rattle.laws.proofs.Steps.{Yields, yields, next, yielded}
use Rattle.layout.specs.items.At.{past_at}
use Rattle.layout.specs.items.Here.{Here}
use Rattle.buffer.specs.writer.Entry.{entry_bytes}
use Rattle.buffer.specs.writes.Buf.{put, part, Wrote}
use Rattle.buffer.proofs.writes.Put.{put-nil, put-put, put_past, put_fits, length-put, within}
use Rattle.buffer.proofs.writes.Wrote.{fitted, place_fits, place_is, same_length}
use Rattle.walker.specs.declared.definitions.Definitions.{Definitions}
use Rattle.walker.specs.declared.definitions.Entry.{Entry}
use Rattle.walker.specs.definitions.Listed.{all_of, Left, First}
use Rattle.expand_macros.specs.replace_call.Call.{Puts}
use Rattle.expand_macros.specs.declared.known_macros.Macros.{Macros}
use Rattle.expand_macros.specs.kept.Kept.{kept_of}
use Rattle.expand_macros.specs.pass.Left.{shallow, expand_one, and_one_of, shallow_all, Whole, Formatted, Kept, WritesBy, Writes, Listing, Booked}
use Rattle.walker.proofs.pieces.Marked.{part_here}
use Rattle.walker.proofs.definitions.Listed.{past_is, listed_kind, listed_size, listed_body, listed_deep, entries_size, all_left, next_left, no_more, some_more}

-- one definition
module _ {x : Entry} {t : Macros} {book areas marks out : List ℕ} {o : ℕ} {out' : List ℕ} {r : ℕ} where
  pub kept_format : x.kind ≡ 1 → Formatted t book x.at areas marks out o out' r → Kept x t book areas marks out o out' r
  unfolding kind_byte kind_of levels_book
  kept_format e f = record { says = λ ms wh d z h k n s l. go ms wh d z h k l }
    where
      go : (ms : List Macro) → Whole t book areas marks out ms → (d : Definition) (z : List ℕ) → Here book x.at (w_definition d z) → x.kind ≡ kind_byte (kind_of d) → levels_book (d ∷ []) ≤ 64
          → Puts out o (expand_one d ms >>= λ y. done (w_definition y [])) out' r
      go ms wh (format n ps c) z h k l = f.says ms wh n ps c z h (omega arith) (omega arith)
      go ms wh (constant n y) z h k l = absurd (omega arith)
      go ms wh (byte_order y) z h k l = absurd (omega arith)
      go ms wh (macro n ps c) z h k l = absurd (omega arith)

  pub kept_copied : (x.kind ≡ 1 → ⊥) → {size : ℕ} → size ≡ x.size → {end : ℕ} → end ≡ past_at book x.at size → Wrote out o (part x.at end book) out' r → Kept x t book areas marks out o out' r
  unfolding kind_byte kind_of expand_one size_of
  kept_copied f {size} es {end} e w = record { says = λ ms wh d z h k n s l. go ms d z h k n (es ∙ s) }
    where
      copied : (d : Definition) (z : List ℕ) → Here book x.at (w_definition d z) → size ≡ size_of d → Wrote out o (w_definition d []) out' r
      copied d z h s =
          let g : Here book x.at (w_definition d [] ++ z) = rw (s_definition d [] z) at h in
          let i : part x.at end book ≡ w_definition d [] = rw (e, s, past_is (w_definition d []) z g) (part_here (w_definition d []) z g) in
          rw i at w

      go : (ms : List Macro) (d : Definition) (z : List ℕ) → Here book x.at (w_definition d z) → x.kind ≡ kind_byte (kind_of d) → (x.kind ≡ 4 → ⊥) → size ≡ size_of d → Puts out o (expand_one d ms >>= λ y. done (w_definition y [])) out' r
      go ms (format n ps c) z h k q s = absurd (f k)
      go ms (constant n y) z h k q s = copied (constant n y) z h s
      go ms (byte_order y) z h k q s = copied (byte_order y) z h s
      go ms (macro n ps c) z h k q s = absurd (q k)

-- two writes that do not meet
put_left : (x y : List ℕ) (at : ℕ) (p : List ℕ) → at + length p ≤ length x → put (x ++ y) at p ≡ put x at p ++ y
put_left x y at p h =
    put_fits (x ++ y) at p (simp length-append (omega arith))
    ∙ rw (take-append-le at x y (omega arith), drop-append-le (at + length p) x y h) (sym (append_assoc (take at x ++ p) (drop (at + length p) x) y))
    ∙ ap (λ (l : List ℕ). l ++ y) (sym (put_fits x at p h))

put_right : (x y : List ℕ) (p : List ℕ) → put (x ++ y) (length x) p ≡ x ++ put y 0 p
unfolding put
put_right x y p =
    let n : length (x ++ y) - length x ≡ length y - 0 = simp length-append (omega arith) in
    let z : length p ≡ 0 + length p = omega arith in
    rw (n, take_at x y (length x) refl, drop-append-add x y (length p)) (ap (λ (k : ℕ). x ++ (take (length y - 0) p ++ drop k y)) z)

pub put_swap : (d : List ℕ) (at : ℕ) (p : List ℕ) (o : ℕ) (q : List ℕ) → at + length p ≤ o → put (put d o q) at p ≡ put (put d at p) o q
put_swap d at p o q h = ⊎_elim
    (λ (k : o ≤ length d).
    let x = take o d in
    let y = drop o d in
    let l : length x ≡ o = length-take-le o d k in
    let e : d ≡ x ++ y = sym (take-append-drop o d) in
    let m : length (put x at p) ≡ o = length-put x at p ∙ l in
    let L : put (put d o q) at p ≡ put x at p ++ put y 0 q =
    ap (λ (v : List ℕ). put (put v o q) at p) e ∙ ap (λ (n : ℕ). put (put (x ++ y) n q) at p) (sym l) ∙ ap (λ (v : List ℕ). put v at p) (put_right x y q) ∙ put_left x (put y 0 q) at p (omega arith) in
    let R : put (put d at p) o q ≡ put x at p ++ put y 0 q =
    ap (λ (v : List ℕ). put (put v at p) o q) e ∙ ap (λ (v : List ℕ). put v o q) (put_left x y at p (omega arith)) ∙ ap (λ (n : ℕ). put (put x at p ++ y) n q) (sym m) ∙ put_right (put x at p) y q in
    L ∙ sym R)
    (λ (k : length d < o). ap (λ (v : List ℕ). put v at p) (put_past d o q (omega arith)) ∙ sym (put_past (put d at p) o q (omega (arith, length-put d at p))))
    (within o (length d))

-- a body and its entry, and then more of both
join_puts : (out out₂ P Q E B : List ℕ) (e o e₂ r₁ : ℕ) → out₂ ≡ put (put out o P) e Q → e₂ ≡ e + length Q → r₁ ≡ o + length P → e + length (Q ++ E) ≤ o → put (put out₂ e₂ E) r₁ B ≡ put (put out e (Q ++ E)) o (P ++ B)
join_puts out out₂ P Q E B e o e₂ r₁ h₁ h₂ h₃ k =
    rw (h₁, h₂, h₃)
    (ap (λ (v : List ℕ). put v (o + length P) B) (put-put (put out o P) e Q E) ∙ ap (λ (v : List ℕ). put v (o + length P) B) (put_swap out e (Q ++ E) o P k) ∙ put-put (put out e (Q ++ E)) o P B)

size_is : (x : Definition) → size_of x ≡ length (w_definition x [])
unfolding size_of
size_is x = refl

bodies_are : (x : Definition) (es : List Definition) → w_all w_definition (x ∷ es) [] ≡ w_definition x [] ++ w_all w_definition es []
unfolding w_all
bodies_are x es = s_definition x [] (w_all w_definition es [])

kind_kept : (d : Definition) (ms : List Macro) → Yields (λ x. kind_of x ≡ kind_of d) (expand_one d ms)
unfolding expand_one kind_of
kind_kept (format n ps c) ms = body (expand c ms)
  where
    last : (y : Out _) → Yields (λ x. kind_of x ≡ kind_of (format n ps c)) (y >>= λ e. done (format n ps e))
    last (refused k) = Yields.stops
    last (done e) = yields {a = format n ps e} refl

    body : (y : Out _) → Yields (λ x. kind_of x ≡ kind_of (format n ps c)) (y >>= λ d. shallow d >>= λ e. done (format n ps e))
    body (refused k) = Yields.stops
    body (done d) = last (shallow d)
kind_kept (constant n x) ms = yields {a = constant n x} refl
kind_kept (byte_order x) ms = yields {a = byte_order x} refl
kind_kept (macro n ps c) ms = yields {a = macro n ps c} refl

module _ {out out₁ out₂ : List ℕ} {e o r₁ e₂ : ℕ} (x : Definition) (lo : length out ≤ 16384) (w₁ : Wrote out o (w_definition x []) out₁ r₁) (k : r₁ ≤ length out)
    (w₂ : Wrote out₁ e (entry_bytes (kind_byte (kind_of x)) o (r₁ - o)) out₂ e₂) where
  r₁-is : r₁ ≡ o + size_of x
  unfolding size_of
  r₁-is = place_fits w₁ (fitted w₁ k)

  entry_is : entry_bytes (kind_byte (kind_of x)) o (r₁ - o) ≡ entry_bytes (kind_byte (kind_of x)) o (size_of x)
  entry_is = let z : r₁ - o ≡ size_of x = omega (arith, r₁-is) in rw z

  entries_are : (es : List Definition) → w_entries o (map entry_of (x ∷ es)) [] ≡ entry_bytes (kind_byte (kind_of x)) o (r₁ - o) ++ w_entries r₁ (map entry_of es) []
  unfolding w_entries entry_of entry_bytes w_u16
  entries_are es =
      let a : o % 65536 ≡ o = omega (arith, fitted w₁ k) in
      let b : (r₁ - o) % 65536 ≡ size_of x = omega (arith, r₁-is, fitted w₁ k) in
      rw (a, b, r₁-is)

  place_2 : e + 6 ≤ o → e₂ ≡ e + 6
  unfolding entry_bytes w_u16
  place_2 h = omega (arith, place_is w₂, same_length w₁, fitted w₁ k)

  joined : (es : List Definition) → e + 6 + 6 * length es ≤ o
      → put (put out₂ e₂ (w_entries r₁ (map entry_of es) [])) r₁ (w_all w_definition es []) ≡ put (put out e (w_entries o (map entry_of (x ∷ es)) [])) o (w_all w_definition (x ∷ es) [])
  unfolding size_of entry_bytes w_u16
  joined es room =
      let P = w_definition x [] in
      let Q = entry_bytes (kind_byte (kind_of x)) o (r₁ - o) in
      let E = w_entries r₁ (map entry_of es) [] in
      rw (entries_are es, bodies_are x es)
      (join_puts out out₂ P Q E (w_all w_definition es []) e o e₂ r₁ (w₂.holds ∙ ap (λ (v : List ℕ). put v e Q) w₁.holds) (place_2 (omega arith)) (place_fits w₁ (fitted w₁ k))
      (omega (arith, length-append Q E, entries_size r₁ es)))

  by_test : (es : List Definition) → e + 6 + 6 * length es ≤ o → (out' : List ℕ) (r : ℕ) (t : Bool) → WritesBy out₂ e₂ r₁ es out' r t → WritesBy out e o (x ∷ es) out' r t
  by_test es room out' r true w = (omega (arith, w.0, r₁-is, ap length (bodies_are x es), length-append (w_definition x []) (w_all w_definition es []), size_is x), w.1 ∙ joined es room)
  by_test es room out' r false w = omega (arith, same_length w₁, same_length w₂)

  same_test : (es : List Definition) → leb (r₁ + length (w_all w_definition es [])) (length out₂) ≡ leb (o + length (w_all w_definition (x ∷ es) [])) (length out)
  same_test es =
      let l : length out₂ ≡ length out = same_length w₂ ∙ same_length w₁ in
      let m : r₁ + length (w_all w_definition es []) ≡ o + length (w_all w_definition (x ∷ es) []) = omega (arith, r₁-is, ap length (bodies_are x es), length-append (w_definition x []) (w_all w_definition es []), size_is x) in
      rw (l, m)

  -- one more definition in front
  pub one_more : (n : ℕ) (t : Out (List Definition)) → Yields (λ es. length es ≡ n) t → e + 6 * suc n ≤ o → (out' : List ℕ) (r : ℕ) → Writes out₂ e₂ r₁ t out' r → Writes out e o (t >>= λ es. done (x ∷ es)) out' r
  one_more n (refused c) y h out' r w = omega (arith, same_length w₁, same_length w₂)
  one_more n (done es) y h out' r w =
      by_test es (omega (arith, yielded y refl)) out' r (leb (o + length (w_all w_definition (x ∷ es) [])) (length out)) (rw (same_test es) at w)

-- a definition that does not fit
too_long : (out out₁ : List ℕ) (o r e : ℕ) (v : Out Definition) (t : Out (List Definition)) → Puts out o (v >>= λ x. done (w_definition x [])) out₁ r → length out < r → Writes out e o (and_one_of v t) out₁ r
too_long out out₁ o r e (refused c) t p k = k
too_long out out₁ o r e (done x) (refused c) p k = k
too_long out out₁ o r e (done x) (done es) p k =
    rw (lt-leb (o + length (w_all w_definition (x ∷ es) [])) (length out) (omega (arith, place_is p, ap length (bodies_are x es), length-append (w_definition x []) (w_all w_definition es [])))) k

shallow_macro : (d : Definition) (ds : List Definition) (ms : List Macro) → kind_byte (kind_of d) ≡ 4 → (shallow_all (d ∷ ds) ms ≡ shallow_all ds ms) × (kept_of (d ∷ ds) ≡ kept_of ds)
unfolding shallow_all kept_of kind_byte kind_of
shallow_macro (format n ps c) ds ms e = absurd (omega arith)
shallow_macro (constant n x) ds ms e = absurd (omega arith)
shallow_macro (byte_order x) ds ms e = absurd (omega arith)
shallow_macro (macro n ps c) ds ms e = (refl, refl)

shallow_kept : (d : Definition) (ds : List Definition) (ms : List Macro) → (kind_byte (kind_of d) ≡ 4 → ⊥) → (shallow_all (d ∷ ds) ms ≡ and_one_of (expand_one d ms) (shallow_all ds ms)) × (kept_of (d ∷ ds) ≡ suc (kept_of ds))
unfolding shallow_all kept_of kind_byte kind_of
shallow_kept (format n ps c) ds ms f = (refl, refl)
shallow_kept (constant n x) ds ms f = (refl, refl)
shallow_kept (byte_order x) ds ms f = (refl, refl)
shallow_kept (macro n ps c) ds ms f = absurd (f refl)

and_one : (v : Out Definition) (t : Out (List Definition)) (n : ℕ) → Yields (λ es. length es ≡ n) t → Yields (λ es. length es ≡ suc n) (and_one_of v t)
and_one (refused k) t n y = Yields.stops
and_one (done x) (refused k) n y = Yields.stops
and_one (done x) (done es) n y = yields {a = x ∷ es} (ap suc (yielded y refl))

pub kept_count : (ds : List Definition) (ms : List Macro) → Yields (λ es. length es ≡ kept_of ds) (shallow_all ds ms)
unfolding shallow_all kept_of
kept_count [] ms = yields {a = []} refl
kept_count (format n ps c ∷ ds) ms = and_one (expand_one (format n ps c) ms) (shallow_all ds ms) (kept_of ds) (kept_count ds ms)
kept_count (constant n x ∷ ds) ms = and_one (expand_one (constant n x) ms) (shallow_all ds ms) (kept_of ds) (kept_count ds ms)
kept_count (byte_order x ∷ ds) ms = and_one (expand_one (byte_order x) ms) (shallow_all ds ms) (kept_of ds) (kept_count ds ms)
kept_count (macro n ps c ∷ ds) ms = kept_count ds ms

-- the first of those that are left
first : {n : Entry} {t : Macros} {book areas marks out : List ℕ} {o : ℕ} {out₁ : List ℕ} {r₁ : ℕ} {d d₁ : Definitions} → Kept n t book areas marks out o out₁ r₁ → First book d n d₁ → (n.kind ≡ 4 → ⊥)
    → (ms : List Macro) → Whole t book areas marks out ms → {x : Definition} {ds : List Definition} → Left book d (x ∷ ds) → Puts out o (expand_one x ms >>= λ y. done (w_definition y [])) out₁ r₁
first kp h f ms wh {x} l = let i = l.listed in kp.says ms wh x _ (rw (← h.at) at (listed_body i)) (h.kind ∙ listed_kind i) f (h.size ∙ listed_size i) (listed_deep i)

module _ {t : Macros} {book areas marks out : List ℕ} {d : Definitions} {e o : ℕ} where
  pub listing_none : d.left ≤ 0 → Listing t book areas marks out d e o out o
  unfolding shallow_all w_all w_entries
  listing_none k = record { says = λ ms wh ds l h ho. none ms ds l ho }
    where
      none : (ms : List Macro) (ds : List Definition) → Left book d ds → o ≤ length out → Writes out e o (shallow_all ds ms) out o
      none ms [] l ho = rw (le-leb (o + 0) (length out) (omega arith)) (omega arith, sym (put-nil (put out e []) o ∙ put-nil out e))
      none ms (x ∷ ds) l ho = absurd (no_more k l)

  module _ {n : Entry} {d₁ : Definitions} (fi : First book d n d₁) where
    pub listing_macro : n.kind ≡ 4 → {out' : List ℕ} {r : ℕ} → Listing t book areas marks out d₁ e o out' r → Listing t book areas marks out d e o out' r
    listing_macro f {out'} {r} next = record { says = λ ms wh ds l h ho. step ms wh ds l h ho }
      where
        step : (ms : List Macro) → Whole t book areas marks out ms → (ds : List Definition) → Left book d ds → e + 6 * kept_of ds ≤ o → o ≤ length out → Writes out e o (shallow_all ds ms) out' r
        step ms wh [] l h ho = absurd (some_more fi.some l)
        step ms wh (x ∷ ds) l h ho =
            let s = shallow_macro x ds ms (sym (fi.kind ∙ listed_kind l.listed) ∙ f) in
            rw s.0 (next.says ms wh ds (next_left fi.others l) (omega (arith, s.1)) ho)

    module _ (f : n.kind ≡ 4 → ⊥) {out₁ : List ℕ} {r₁ : ℕ} (kp : Kept n t book areas marks out o out₁ r₁) (lo : length out₁ ≡ length out) where
      pub listing_stop : length out₁ < r₁ → Listing t book areas marks out d e o out₁ r₁
      listing_stop g = record { says = λ ms wh ds l h ho. step ms wh ds l }
        where
          step : (ms : List Macro) → Whole t book areas marks out ms → (ds : List Definition) → Left book d ds → Writes out e o (shallow_all ds ms) out₁ r₁
          step ms wh [] l = absurd (some_more fi.some l)
          step ms wh (x ∷ ds) l = rw (shallow_kept x ds ms (λ q. f (fi.kind ∙ listed_kind l.listed ∙ q))).0 (too_long out out₁ o r₁ e (expand_one x ms) (shallow_all ds ms) (first kp fi f ms wh l) (omega arith))

      pub listing_step : r₁ ≤ length out₁ → {out₂ : List ℕ} {e₂ : ℕ} → Wrote out₁ e (entry_bytes n.kind o (r₁ - o)) out₂ e₂
          → {areas₁ marks₁ : List ℕ} → length areas₁ ≡ length areas → length marks₁ ≡ length marks
          → {out' : List ℕ} {r : ℕ} → Listing t book areas₁ marks₁ out₂ d₁ e₂ r₁ out' r → Listing t book areas marks out d e o out' r
      listing_step g {out₂} {e₂} w₂ {areas₁} {marks₁} la lm {out'} {r} next = record { says = λ ms wh ds l h ho. step ms wh ds l h }
        where
          still : (ms : List Macro) → Whole t book areas marks out ms → Whole t book areas₁ marks₁ out₂ ms
          still ms wh = record {
            sized = record { macros_short = wh.sized.macros_short; book_short = wh.sized.book_short; areas_long = la ∙ wh.sized.areas_long };
            marks-book = omega (arith, wh.marks-book);
            out_short = omega (arith, wh.out_short, same_length w₂);
            table = wh.table;
          }

          by_one : (ms : List Macro) → Whole t book areas marks out ms → (x : Definition) (ds : List Definition) → Left book d (x ∷ ds) → e + 6 * suc (kept_of ds) ≤ o
              → (v : Out Definition) → Yields (λ y. kind_of y ≡ kind_of x) v → Puts out o (v >>= λ y. done (w_definition y [])) out₁ r₁ → Writes out e o (and_one_of v (shallow_all ds ms)) out' r
          by_one ms wh x ds l h (refused c) i p = absurd (omega arith)
          by_one ms wh x ds l h (done y) i p =
              let q : n.kind ≡ kind_byte (kind_of y) = fi.kind ∙ listed_kind l.listed ∙ ap kind_byte (sym (yielded i refl)) in
              let w : Wrote out₁ e (entry_bytes (kind_byte (kind_of y)) o (r₁ - o)) out₂ e₂ = rw q at w₂ in
              let z = next.says ms (still ms wh) ds (next_left fi.others l)
              (omega (arith, place_2 y wh.out_short p (omega arith) w (omega arith), r₁-is y wh.out_short p (omega arith) w)) (omega (arith, same_length w₂)) in
              one_more y wh.out_short p (omega arith) w (kept_of ds) (shallow_all ds ms) (kept_count ds ms) h out' r z

          step : (ms : List Macro) → Whole t book areas marks out ms → (ds : List Definition) → Left book d ds → e + 6 * kept_of ds ≤ o → Writes out e o (shallow_all ds ms) out' r
          step ms wh [] l h = absurd (some_more fi.some l)
          step ms wh (x ∷ ds) l h =
              let s = shallow_kept x ds ms (λ q. f (fi.kind ∙ listed_kind l.listed ∙ q)) in
              rw s.0 (by_one ms wh x ds l (omega (arith, s.1)) (expand_one x ms) (kind_kept x ms) (first kp fi f ms wh l))

pub booked : {t : Macros} {book areas marks out : List ℕ} {d : Definitions} {o : ℕ} → d ≡ all_of book
    → {out' : List ℕ} {r : ℕ} → Listing t book areas marks out d 2 o out' r → Booked t book areas marks out o out' r
booked hd l = record { says = λ ms wh ds e b eo ho. l.says ms wh ds (all_left hd ds e b) (omega arith) ho }
