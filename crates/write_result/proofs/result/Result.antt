-- The book that is written is document 01's result, where the tables hold the records of the walk over the expanded book.
use mathlib.Core.Path.{◌≡◌, refl, sym, ap, subst, ◌∙◌}
use mathlib.Core.Logic.{◌⊎◌, inl, inr}
use mathlib.Core.Bool.{Bool, true, false}
use mathlib.Core.List.{List, [], ◌∷◌, ◌++◌, map}
use Prim.Native.Nat.{ℕ, suc, ◌+◌, ◌*◌, ◌%◌, ◌/◌, ◌≤◌, ◌<◌}
use native.Mathlib.Omega.{arith}
use lib.Dec.{eqb}
use borrow.Author.Tests.{eqb-true, eq-eqb}
use lib.ListN.{length, get_or, length-append, length-map}
use Rattle.definition.specs.Res.{Maybe, absent, just, ok}
use Rattle.definition.specs.Out.{Out, done}
use Rattle.definition.specs.Answer.{Result, all}
use Rattle.definition.specs.Tree.{Name, Kind, is_format, Definition}
use Rattle.definition.specs.Write.{w_u16, w_all, w_combinator, w_definition, kind_of, kind_byte, size_of, w_entries, w_parts, entry_of, w_book}
use Rattle.definition.specs.Size.{size, size_book}
use Rattle.laws.specs.Book.{GoodP, GoodD, GoodAll, IsBook}
use Rattle.laws.proofs.Splits.{s_comb}
use Rattle.laws.proofs.Sizes.{adds, size_book_lem, size_bodies, size_some}
use Rattle.laws.proofs.Steps.{gave}
use Rattle.layout.specs.items.At.{number_at}
use Rattle.layout.specs.items.Here.{Here}
use Rattle.layout.proofs.items.Here.{place, past_here, byte_here, number_here}
use Rattle.lift_tables.specs.tables.Rows.{row_of}
use Rattle.lifting.specs.Records.{Ref, Record, find}
use Rattle.lifting.specs.Laws.{Traced}
use Rattle.lifting.specs.After.{Lift, params_of, made_by, Stands, Found, definition_of, out_all, lifts_all, first_at, AllFound}
use Rattle.lifting.specs.Calls as by_records
use Rattle.lifting.specs.Calls.{with_calls, entries_of, joined, book_of}
use Rattle.lifting.specs.Trace.{Trace, tree_head, begin, trace_book, traced}
use Rattle.lifting.proofs.Refs.{WellTyped, AllTyped}
use Rattle.lifting.proofs.Standing.{Stood, AllWhole}
use Rattle.lifting.proofs.Book.{bodies, bodies-cons, elaborated_by, was_traced}
use Rattle.lifting.proofs.Written.{WholeAll, of_cons, inside_all, trace_all_types, found_typed, bodies_stand, written}
use Rattle.write_result.specs.result.Model as model
use Rattle.buffer.specs.writer.Entry.{entry_bytes}
use Rattle.write_result.specs.splice.Model.{Tables, row}
use Rattle.write_result.specs.lifted.Model.{lifted_bytes}
use Rattle.write_result.specs.result.Model.{Piece, entries, kept_from, lifted_from, book_bytes, result_bytes}
use Rattle.write_result.specs.result.Held.{Agrees, Held, Writes}
use Rattle.write_result.specs.result.Adds.{Filled}
use Rattle.write_result.proofs.result.Held.{Short, Known, Knows, room, spliced_goes, lifted_are}
use Rattle.write_result.proofs.result.Bodies.{body_some, first_clear}

-- kinds and bytes as definitions of a book
unfoldable pub pieces_of : List Kind → List (List ℕ) → List Piece
pieces_of [] bs = []
pieces_of (k ∷ ks) [] = []
pieces_of (k ∷ ks) (b ∷ bs) = record { kind = kind_byte k; bytes = b } ∷ pieces_of ks bs

pieces_append : (ks : List Kind) (bs : List (List ℕ)) (ls : List Kind) (ds : List (List ℕ)) → length ks ≡ length bs → pieces_of (ks ++ ls) (bs ++ ds) ≡ pieces_of ks bs ++ pieces_of ls ds
unfolding pieces_of
pieces_append [] [] ls ds e = refl
pieces_append [] (b ∷ bs) ls ds e = absurd (omega arith)
pieces_append (k ∷ ks) [] ls ds e = absurd (omega arith)
pieces_append (k ∷ ks) (b ∷ bs) ls ds e = ap (record { kind = kind_byte k; bytes = b } ∷◌) (pieces_append ks bs ls ds (omega arith))

entries_are : (ks : List Kind) (bs : List (List ℕ)) (at : ℕ) (r : List ℕ) → at + length (joined bs) ≤ 65535 → entries at (pieces_of ks bs) ++ r ≡ w_entries at (entries_of ks bs) r
unfolding entries pieces_of w_entries entries_of joined entry_bytes w_u16
entries_are [] bs at r h = refl
entries_are (k ∷ ks) [] at r h = refl
entries_are (k ∷ ks) (b ∷ bs) at r h =
    let n : length (b ++ joined bs) ≡ length b + length (joined bs) = length-append b (joined bs) in
    let e : at % 65536 ≡ at = omega arith in
    let f : length b % 65536 ≡ length b = omega arith in
    rw (e, f, entries_are ks bs (at + length b) r (omega arith))

bodies_are : (ks : List Kind) (bs : List (List ℕ)) → length ks ≡ length bs → model.bodies (pieces_of ks bs) ≡ joined bs
unfolding model.bodies pieces_of joined
bodies_are [] [] e = refl
bodies_are [] (b ∷ bs) e = absurd (omega arith)
bodies_are (k ∷ ks) [] e = absurd (omega arith)
bodies_are (k ∷ ks) (b ∷ bs) e = ap (b ++◌) (bodies_are ks bs (omega arith))

length-entries : (ks : List Kind) (bs : List (List ℕ)) (at : ℕ) (r : List ℕ) → length ks ≡ length bs → length (w_entries at (entries_of ks bs) r) ≡ 6 * length bs + length r
unfolding w_entries entries_of w_u16
length-entries [] [] at r e = omega arith
length-entries [] (b ∷ bs) at r e = absurd (omega arith)
length-entries (k ∷ ks) [] at r e = absurd (omega arith)
length-entries (k ∷ ks) (b ∷ bs) at r e = omega (arith, length-entries ks bs (at + length b) r (omega arith))

book_is : (ks : List Kind) (bs : List (List ℕ)) → length ks ≡ length bs → length (book_of ks bs) ≤ 65535 → book_bytes (length bs) (pieces_of ks bs) ≡ book_of ks bs
unfolding book_bytes book_of w_u16
book_is ks bs e h =
    let m = length-entries ks bs (2 + 6 * length bs) (joined bs) e in
    let f : length bs % 65536 ≡ length bs = omega arith in
    rw (f, bodies_are ks bs e, entries_are ks bs (2 + 6 * length bs) (joined bs) (omega arith))

-- further on
ahead : {s : List ℕ} {p : ℕ} (b : List ℕ) {z : List ℕ} → Here s p (b ++ z) → Here s (p + length b) z
ahead b h = let k = past_here b h in rw (place b h k) at k

module _ (t : Tables) (rs : List Record) (agree : (p : ℕ) → p < length t.book → Knows t (find rs p) (get_or t.number p 0)) where
  body : (i at o : ℕ) → number_at t.book (2 + 6 * i + 2) ≡ at → number_at t.book (2 + 6 * i + 4) ≡ o → at < at + o → at + o ≤ length t.book → find rs at ≡ absent → model.kept_bytes t i ≡ with_calls t.book rs at (at + o)
  unfolding model.kept_bytes
  body i at o e f a b c = rw (e, f) (spliced_goes t rs agree at (at + o) a b c)

  -- kept definitions: entry i of the contents is that of the i-th
  kept_are : (ds : List Definition) (i at : ℕ) (y z : List ℕ) → Here t.book (2 + 6 * i) (w_entries at (map entry_of ds) y ++ z) → WholeAll t.book rs ds at → at + bodies ds ≤ length t.book
      → kept_from t i (length ds) ≡ pieces_of (map kind_of ds) (by_records.kept_bytes t.book rs ds at)
  unfolding kept_from pieces_of by_records.kept_bytes w_entries entry_of w_u16
  kept_are [] i at y z h w b = refl
  kept_are (d ∷ ds) i at y z h w b =
      let k : ℕ = kind_byte (kind_of d) in
      let o : ℕ = size_of d in
      let p : ℕ = 2 + 6 * i in
      let q = of_cons t.book rs d ds at w in
      let m = bodies-cons d ds in
      let next : 2 + 6 * i + 6 ≡ 2 + 6 * suc i = omega arith in
      let h₂ : Here t.book (p + 2) (w_u16 at (w_u16 o (w_entries (at + o) (map entry_of ds) y ++ z))) = ahead (k ∷ 0 ∷ []) h in
      let h₄ : Here t.book (p + 4) (w_u16 o (w_entries (at + o) (map entry_of ds) y ++ z)) = ahead (k ∷ 0 ∷ at % 256 ∷ at / 256 ∷ []) h in
      let h₆ : Here t.book (p + 6) (w_entries (at + o) (map entry_of ds) y ++ z) = ahead (k ∷ 0 ∷ at % 256 ∷ at / 256 ∷ o % 256 ∷ o / 256 ∷ []) h in
      let e : model.kept_bytes t i ≡ with_calls t.book rs at (at + o) = body i at o (number_here at _ h₂) (number_here o _ h₄) (omega (arith, body_some d)) (omega arith) (first_clear t.book rs d at q.0) in
      rw (byte_here h, e, kept_are ds (suc i) (at + o) y z (rw next at h₆) q.1 (omega arith))

  -- lifted ones
  module _ (short : length t.book ≤ 65535) (order : List ℕ) where
    lift_is : (l : Lift) (i : ℕ) (m : Record) → suc (get_or order i 0) ≡ get_or t.number l.at 0 → Known t m (get_or t.number l.at 0) → lifted_bytes t (row_of m) ≡ by_records.lifted_bytes t.book rs (just m)
        → lifted_bytes t (row t (get_or order i 0)) ≡ by_records.lifted_bytes t.book rs (just m)
    lift_is l i m e a b = let f : get_or order i 0 ≡ a.numbers.of = omega (arith, a.numbers.is) in rw (f, a.numbers.holds) b

    lifted_all : (ls : List Lift) (i : ℕ) → AllFound rs ls → AllWhole t.book rs ls → AllTyped (Stood t.book rs) rs
        → ((k : ℕ) → k < length (map (λ l. l.at) ls) → suc (get_or order (i + k) 0) ≡ get_or t.number (get_or (map (λ l. l.at) ls) k 0) 0)
        → lifted_from t order i (length (map (λ l. l.at) ls)) ≡ pieces_of (map (λ x. is_format) (map (λ l. l.at) ls)) (map (λ x. by_records.lifted_bytes t.book rs (find rs x)) (map (λ l. l.at) ls))
    unfolding lifted_from pieces_of kind_byte size
    lifted_all [] i f w a o = refl
    lifted_all (l ∷ ls) i f w a o =
        let g = f.0 in
        let v = found_typed (Stood t.book rs) rs l.at g.of a g.found in
        let n : length (w_combinator l.what w.0.rest) ≡ size l.what + length w.0.rest = adds (w_combinator l.what) (s_comb l.what) w.0.rest in
        let m = room t.book l.at (w_combinator l.what w.0.rest) w.0.stands (omega (arith, size_some l.what)) in
        let c : Known t g.of (get_or t.number l.at 0) = rw g.found at (agree l.at (omega (arith, size_some l.what))) in
        let b = lifted_are t rs agree short g.of c.named c.needed v.refs (omega (arith, g.begins, g.ends, size_some l.what)) (omega (arith, g.ends)) in
        let zero_more : i + 0 ≡ i = omega arith in
        let e : suc (get_or order i 0) ≡ get_or t.number l.at 0 = rw zero_more at (o 0 (omega arith)) in
        rw (g.found, lift_is l i g.of e c b, lifted_all ls (suc i) f.1 w.1 a (λ k h. let x : suc i + k ≡ i + suc k = omega arith in rw x (o (suc k) (omega arith))))

length_kept : (s : List ℕ) (rs : List Record) (ds : List Definition) (p : ℕ) → length (by_records.kept_bytes s rs ds p) ≡ length ds
unfolding by_records.kept_bytes
length_kept s rs [] p = refl
length_kept s rs (d ∷ ds) p = ap suc (length_kept s rs ds (p + size_of d))

book_here : (t : Tables) (ds : List Definition) (z : List ℕ) → t.book ≡ w_book ds ++ z
    → (number_at t.book 0 ≡ length ds) × Here t.book (2 + 6 * 0) (w_entries (first_at ds) (map entry_of ds) (w_all w_definition ds []) ++ z)
unfolding w_book w_parts w_u16
book_here t ds z e =
    let k : length (map entry_of ds) ≡ length ds = length-map ds entry_of in
    let h : Here t.book 0 (w_u16 (length ds) (w_entries (first_at ds) (map entry_of ds) (w_all w_definition ds []) ++ z)) = record { is = rw k at e; reach = omega arith } in
    (number_here (length ds) _ h, ahead (length ds % 256 ∷ length ds / 256 ∷ []) h)

-- names of a book are short: those of a lift's parameters stand in its definition
module _ (rs : List Record) where
  short_params : (ns : List Name) (ts : List Ref) → length ts ≡ length ns → GoodP (params_of rs ns ts) → Short ns
  unfolding params_of
  short_params [] ts e g = tt
  short_params (n ∷ ns) [] e g = absurd (omega arith)
  short_params (n ∷ ns) (q ∷ ts) e g = (g.0.short, short_params ns ts (omega arith) g.1.1)

  made_short : (l : Lift) (f : Found rs l) (Q : Ref → Type 0) → WellTyped Q f.of → GoodD (definition_of rs l) → (length f.of.name ≤ 255) × Short f.of.params
  unfolding definition_of made_by
  made_short l f Q w g =
      let h : GoodD (made_by (just f.of) rs l) = rw f.found at g in
      (h.0.short, short_params f.of.params f.of.types w.count h.1.0)

  all_short : (ls : List Lift) (Q : Ref → Type 0) → AllFound rs ls → AllTyped Q rs → GoodAll (map (definition_of rs) ls) → (x : ℕ) (r : Record) → Stands x ls → find rs x ≡ just r → (length r.name ≤ 255) × Short r.params
  all_short [] Q f a g x r h e = elim h [ ]
  all_short (l ∷ ls) Q f a g x r (inl h) e =
      let k : ◌≡◌ {A = Maybe Record} (just f.0.of) (just r) = sym f.0.found ∙ (rw h e) in
      let same : f.0.of ≡ r = cc in
      rw same at (made_short l f.0 Q (found_typed Q rs l.at f.0.of a f.0.found) g.0)
  all_short (l ∷ ls) Q f a g x r (inr h) e = all_short ls Q f.1 a g.1 x r h e

good_right : (a b : List Definition) → GoodAll (a ++ b) → GoodAll b
good_right [] b g = g
good_right (d ∷ a) b g = good_right a b g.1

stands_or_not : (x : ℕ) (ls : List Lift) → Stands x ls ⊎ (Stands x ls → ⊥)
stands_or_not x [] = inr (λ h. h)
stands_or_not x (l ∷ ls) = of (eqb l.at x) (λ e. eqb-true l.at x e) (λ e h. let c : true ≡ false = sym (eq-eqb l.at x h) ∙ e in let z : ◌≡◌ {A = ℕ} 0 1 = cc in omega arith) (stands_or_not x ls)
  where
    of : (b : Bool) → (b ≡ true → l.at ≡ x) → (b ≡ false → l.at ≡ x → ⊥) → Stands x ls ⊎ (Stands x ls → ⊥) → Stands x (l ∷ ls) ⊎ (Stands x (l ∷ ls) → ⊥)
    of true f g m = inl (inl (f refl))
    of false f g (inl h) = inl (inr h)
    of false f g (inr n) = inr (λ k. neither (g refl) n k)
      where
        neither : (l.at ≡ x → ⊥) → (Stands x ls → ⊥) → Stands x (l ∷ ls) → ⊥
        neither p q (inl h) = p h
        neither p q (inr h) = q h

knows : (t : Tables) (rs : List Record) → ((x : ℕ) (r : Record) → find rs x ≡ just r → (length r.name ≤ 255) × Short r.params) → (p k : ℕ) (m : Maybe Record) → find rs p ≡ m → Agrees t m k → Knows t m k
knows t rs short p k absent e a = a
knows t rs short p k (just r) e a = let s = short p r e in record { numbers = a; named = s.0; needed = s.1 }

short_of : (ds : List Definition) (w : Trace) (Q : Ref → Type 0) → Traced ds w → AllTyped Q w.records → IsBook (out_all ds (first_at ds) w.records ++ map (definition_of w.records) (lifts_all ds (first_at ds)))
    → (x : ℕ) (r : Record) → find w.records x ≡ just r → (length r.name ≤ 255) × Short r.params
short_of ds w Q k a good x r e = of (stands_or_not x (lifts_all ds (first_at ds)))
  where
    of : Stands x (lifts_all ds (first_at ds)) ⊎ (Stands x (lifts_all ds (first_at ds)) → ⊥) → (length r.name ≤ 255) × Short r.params
    of (inl h) = all_short w.records (lifts_all ds (first_at ds)) Q k.found a (good_right (out_all ds (first_at ds) w.records) _ good.good) x r h e
    of (inr n) = let c : ◌≡◌ {A = Maybe Record} absent (just r) = sym (k.only x n) ∙ e in let z : ◌≡◌ {A = ℕ} 0 1 = cc in absurd (omega arith)

pub result_written : (t : Tables) (order : List ℕ) (n : ℕ) (ds : List Definition) (z : List ℕ) (w : Trace) → trace_book tree_head ds ≡ ok tt w → IsBook (out_all ds (first_at ds) w.records ++ map (definition_of w.records) (lifts_all ds (first_at ds))) → Held t order n ds z w
    → result_bytes t order n ≡ w_book (out_all ds (first_at ds) w.records ++ map (definition_of w.records) (lifts_all ds (first_at ds)))
unfolding trace_book begin result_bytes by_records.result_bytes size_book
result_written t order n ds z w e good held =
    let s = t.book in
    let rs = w.records in
    let k = was_traced ds w e in
    let all : WholeAll s rs ds (first_at ds) = record { rest = z; stands = rw held.book (bodies_stand ds z); clear = λ x i j h. k.only x h; found = k.found } in
    let a = gave (trace_all_types s rs tree_head ds (first_at ds) (begin ds) all tt) e in
    let h = book_here t ds z held.book in
    let agree : (p : ℕ) → p < length s → Knows t (find rs p) (get_or t.number p 0) = λ p b. knows t rs (short_of ds w (Stood s rs) k a good) p (get_or t.number p 0) (find rs p) refl (held.numbered p b) in
    let ks = map kind_of ds in
    let bs = by_records.kept_bytes s rs ds (first_at ds) in
    let ls = map (λ x. is_format) w.finished in
    let cs = map (λ x. by_records.lifted_bytes s rs (find rs x)) w.finished in
    let same : length ks ≡ length bs = length-map ds kind_of ∙ sym (length_kept s rs ds (first_at ds)) in
    let alike : length ls ≡ length cs = length-map w.finished (λ x. is_format) ∙ sym (length-map w.finished (λ x. by_records.lifted_bytes s rs (find rs x))) in
    let long : length (bs ++ cs) ≡ length ds + n = length-append bs cs ∙ rw (length_kept s rs ds (first_at ds), length-map w.finished (λ x. by_records.lifted_bytes s rs (find rs x)), held.count) in
    let fits : first_at ds + bodies ds ≤ length s = rw (held.book, length-append (w_book ds) z) (omega (arith, size_book_lem ds, size_bodies ds)) in
    let kept : kept_from t 0 (length ds) ≡ pieces_of ks bs = kept_are t rs agree ds 0 (first_at ds) (w_all w_definition ds []) z h.1 all fits in
    let lifted : lifted_from t order 0 n ≡ pieces_of ls cs =
    rw (held.count, k.finished)
    (lifted_all t rs agree held.short order (lifts_all ds (first_at ds)) 0 k.found (inside_all s rs ds (first_at ds) all) a
    (λ j o. let x : 0 + j ≡ j = omega arith in rw (x, ← k.finished) (held.ordered j (rw (held.count, k.finished) o)))) in
    let whole : w_book (out_all ds (first_at ds) rs ++ map (definition_of rs) (lifts_all ds (first_at ds))) ≡ book_of (ks ++ ls) (bs ++ cs) =
    written ds z w e ∙ ap (λ (x : List ℕ). by_records.result_bytes x ds rs w.finished) (sym held.book) in
    let short : length (book_of (ks ++ ls) (bs ++ cs)) ≤ 65535 = rw (← whole) (let b = good.short in omega arith) in
    let lens : length (ks ++ ls) ≡ length (bs ++ cs) = length-append ks ls ∙ rw (same, alike) (sym (length-append bs cs)) in
    rw (h.0, kept, lifted, ← long, ← (pieces_append ks bs ls cs same)) (book_is (ks ++ ls) (bs ++ cs) lens short ∙ sym whole)

pub writes : (t : Tables) (order : List ℕ) (n : ℕ) {d d' : List ℕ} {k : ℕ} → Filled d (result_bytes t order n) d' k → Writes t order n d d' k
unfolding traced
writes t order n f ds z w r e o good held =
    let x : Result = record { kept = out_all ds (first_at ds) w.records; lifted = map (definition_of w.records) (lifts_all ds (first_at ds)) } in
    let y : ◌≡◌ {A = Out Result} (done x) (done r) = sym (elaborated_by ds ∙ rw e) ∙ o in
    let same : x ≡ r = cc in
    let b : result_bytes t order n ≡ w_book (all r) = result_written t order n ds z w e (subst (λ (q : Result). IsBook (all q)) (sym same) good) held ∙ ap (λ (q : Result). w_book (all q)) same in
    rw b at f
