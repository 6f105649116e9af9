-- The entries, one after the other, and the bodies that they promise.
use mathlib.Core.Path.{◌≡◌, refl, ap, sym, ◌∙◌}
use mathlib.Core.List.{List, [], ◌∷◌}
use mathlib.Core.Bool.{Bool, true, false, cond}
use Prim.Native.Nat.{ℕ, zero, suc, ◌+◌, ◌-◌, ◌*◌, ◌≤◌, ◌<◌}
use native.Mathlib.Nat.{add_assoc, add-zero, mul-suc, mul-zero}
use native.Mathlib.Numerals.{sub-one}
use native.Mathlib.Omega.{arith}
use borrow.Author.Tests.{eq-eqb, ne_eqb, eqb-true, eqb-false}
use lib.Arith.{lt_of_le-ne}
use lib.Dec.{eqb}
use lib.ListN.{length, take, drop, length-drop}
use lib.Seq.{drop-cons, drop-length}
use Rattle.std.specs.Prelude.{Ok, Err}
use Rattle.what_comes_back.specs.declared.Code.TheVariants.{NotABook}
use Rattle.definition.specs.Code.{Code, not_a_book}
use Rattle.definition.specs.Res.{Res, bad, ok, ◌>>=◌}
use Rattle.definition.specs.Tree.{Entry}
use Rattle.definition.specs.Contents.{entry, entries, cut, whole, at_end, count, contents, Body}
use Rattle.read_book.specs.cursor.Ends.{Along, Walked, Ends}
use Rattle.read_book.specs.declared.cursor.Cursor.{Cursor}
use Rattle.read_book.specs.declared.cursor.Fault.{Fault}
use Rattle.read_book.proofs.cursor.Lists.{along, part_at}
use Rattle.read_book.proofs.cursor.Laws.{fails_as}
use Rattle.read_book.proofs.cursor.Only.{no_value}
use Rattle.read_book.proofs.name_list.Bind.{rebase, made, same_bad}
use Rattle.read_book.specs.entry.Found.{Found}
use Rattle.read_book.specs.contents.Table.{total, filled, row_of, Holds, table}
use Rattle.read_book.specs.declared.entry.ContentsEntry.{ContentsEntry}
use Rattle.read_book.proofs.entry.Entries.{opened}

module _ {B C : Type 0} (h : B → C) (c : C) (z : List ℕ) where
  part_one : (m : Res (List ℕ) B) → (m >>= λ w. ok (h w.0) w.1) ≡ ok c z → (b : B) × (m ≡ ok b z) × (h b ≡ c)
  part_one (bad k r) e = absurd (no_value e)
  part_one (ok b r) e = let v : h b ≡ c = cc in let w : r ≡ z = cc in (b, rw w, v)

-- the first of several entries that were read
pub record First (width all n at : ℕ) (l : List ℕ) (es : List Entry) (z : List ℕ) : Type 0 where
  pub first : Entry
  pub others : List Entry
  pub later : List ℕ
  pub reads : entry width all at l ≡ ok first later
  pub then : entries width all n (at + first.size) later ≡ ok others z
  pub both : first ∷ others ≡ es

first_by : (width all n at : ℕ) (l : List ℕ) (es : List Entry) (z : List ℕ) (m : Res (List ℕ) Entry) → entry width all at l ≡ m
    → (m >>= λ y. entries width all n (at + y.0.size) y.1 >>= λ w. ok (y.0 ∷ w.0) w.1) ≡ ok es z → First width all n at l es z
first_by width all n at l es z (bad k r) f e = absurd (no_value e)
first_by width all n at l es z (ok x r) f e =
    let o = part_one (λ (xs : List Entry). x ∷ xs) es z (entries width all n (at + x.size) r) e in
    record { first = x; others = o.0; later = r; reads = f; then = o.1; both = o.2 }

pub first_of : (width all n at : ℕ) (l : List ℕ) (es : List Entry) (z : List ℕ) → 0 < n → entries width all n at l ≡ ok es z → First width all (n - 1) at l es z
unfolding entries
first_of width all zero at l es z h e = absurd (omega arith)
first_of width all (suc n) at l es z h e = rw sub-one (first_by width all n at l es z (entry width all at l) refl e)

pub none_of : (width all n at : ℕ) (l : List ℕ) (es : List Entry) (z : List ℕ) → n ≤ 0 → entries width all n at l ≡ ok es z → [] ≡ es
unfolding entries
none_of width all zero at l es z h e = cc
none_of width all (suc n) at l es z h e = absurd (omega arith)

module _ (s : List ℕ) (more : ℕ) where
  -- where the entries end, and that the bodies lie in the book
  run : (n want p : ℕ) (es : List Entry) (z : List ℕ) → entries (6 + more) (length s) n want (drop p s) ≡ ok es z → (n ≡ 0 → want ≤ length s)
      → (z ≡ drop (p + (6 + more) * n) s) × (want + total es ≤ length s)
  unfolding entries total
  run zero want p es z e h =
      let v : [] ≡ es = cc in
      let w : drop p s ≡ z = cc in
      (rw (mul-zero, add-zero) (sym w), rw (← v, add-zero) (h refl))
  run (suc n) want p es z e h =
      let f = first_of (6 + more) (length s) (suc n) want (drop p s) es z (omega arith) e in
      let o = opened s p want more f.first f.later f.reads in
      let g = rw o.rest at f.then in
      let i = run n (want + f.first.size) (p + (6 + more)) f.others z (rw sub-one at g) (λ x. o.fits) in
      let a : p + (6 + more) + (6 + more) * n ≡ p + (6 + more) * suc n = rw mul-suc (omega arith) in
      (rw (← a) i.0, rw (← f.both) (omega (arith, i.1)))

  -- the bodies that entries promise
  pub cut_fits : (es : List Entry) (at : ℕ) → at + total es ≤ length s → (bs : List Body) × (cut es (drop at s) ≡ ok bs (drop (at + total es) s))
  unfolding cut total
  cut_fits [] at h = ([], rw add-zero)
  cut_fits (e ∷ es) at h =
      let i = cut_fits es (at + e.size) (omega arith) in
      let a : at + e.size + total es ≡ at + (e.size + total es) = omega arith in
      (record { kind = e.kind; own = take (at + e.size - at) (drop at s); later = drop (at + e.size) s } ∷ i.0, rw (part_at s at e.size (omega arith), i.1, a))

  -- one entry more
  filled_by : (at : ℕ) (e : Entry) (es : List Entry) (z : List ℕ) (t : Bool)
      → cond t (ok (e ∷ es) z) (bad not_a_book (drop at s)) ≡ (cond t (ok es z) (bad not_a_book (drop at s)) >>= λ y. ok (e ∷ y.0) y.1)
  filled_by at e es z true = refl
  filled_by at e es z false = refl

  filled_more : (at : ℕ) (e : Entry) (es : List Entry) (z : List ℕ) → filled s at (e ∷ es) z ≡ (filled s (at + e.size) es z >>= λ y. ok (e ∷ y.0) y.1)
  unfolding filled total
  filled_more at e es z = rw (← (add_assoc at e.size (total es))) (filled_by (at + e.size + total es) e es z (eqb (at + e.size + total es) (length s)))

  row_by : (at : ℕ) (e : Entry) (m : Res (List ℕ) (List Entry))
      → ((m >>= λ y. ok (e ∷ y.0) y.1) >>= λ y. filled s at y.0 y.1) ≡ ((m >>= λ y. filled s (at + e.size) y.0 y.1) >>= λ y. ok (e ∷ y.0) y.1)
  row_by at e (bad k r) = refl
  row_by at e (ok es r) = filled_more at e es r

  row_more : (n at : ℕ) (l : List ℕ) (e : Entry) (r : List ℕ) → entry (6 + more) (length s) at l ≡ ok e r
      → row_of (6 + more) s (suc n) at l ≡ (row_of (6 + more) s n (at + e.size) r >>= λ y. ok (e ∷ y.0) y.1)
  unfolding row_of entries
  row_more n at l e r w = rw w (row_by at e (entries (6 + more) (length s) n (at + e.size) r))

  row_bad : (n at : ℕ) (l : List ℕ) (k : Code) (r : List ℕ) → entry (6 + more) (length s) at l ≡ bad k r → row_of (6 + more) s (suc n) at l ≡ bad k r
  unfolding row_of entries
  row_bad n at l k r w = rw w

  -- the loop's invariant at its beginning
  pub r-begins : (n want : ℕ) {p : ℕ} (r : Walked) → Ends s p r (row_of (6 + more) s (n - 0) want (drop p s)) → Ends s p r (row_of (6 + more) s n want (drop p s))
  r-begins n want r e = let i : n - 0 ≡ n = omega arith in rw i at e

  module _ {p want : ℕ} (n k : ℕ) (h : k < n) where
    -- of n entries k are behind, and one is read
    pub r-more : {e : ContentsEntry} → Found s p want (6 + more) (Ok e) (entry (6 + more) (length s) want (drop p s)) → (r : Walked)
        → Ends s e.next.at r (row_of (6 + more) s (n - (k + 1)) e.end (drop e.next.at s)) → Ends s p r (row_of (6 + more) s (n - k) want (drop p s))
    r-more {e} f r w =
        let t = f.told in
        let i : n - k ≡ suc (n - (k + 1)) = omega arith in
        let g : p + (6 + more) ≤ length s = rw (← t.past) t.within in
        let a : Along s p e.next.at = rw t.past (along s p (6 + more) g) in
        rw (i, row_more (n - (k + 1)) want (drop p s) t.value (drop e.next.at s) t.gives)
        (made _ (rebase r a (rw t.sized at w)))

    pub r_none : {g : Fault} → Found s p want (6 + more) (Err g) (entry (6 + more) (length s) want (drop p s)) → Ends s p (Err g) (row_of (6 + more) s (n - k) want (drop p s))
    r_none f =
        let i : n - k ≡ suc (n - (k + 1)) = omega arith in
        rw i (record { told = fails_as _ f.told (λ c w. row_bad (n - (k + 1)) want (drop p s) c _ w) })

  -- no entry more
  module _ {p want : ℕ} (n k : ℕ) (h : n ≤ k) where
    pub r_left : p ≤ length s → want < length s → Ends s p (Err (record { code = NotABook; at = want })) (row_of (6 + more) s (n - k) want (drop p s))
    unfolding row_of entries filled total
    r_left z w =
        let i : n - k ≡ 0 = omega arith in
        rw (i, add-zero want, ne_eqb want (length s) (λ e. omega arith))
        (record { told = record { kind = not_a_book; coded = refl; fails = refl; along = simp length-drop (omega arith) } })

    pub r_end : (c : Cursor) → c.at ≡ p → length s ≤ want → want ≤ length s → Ends s p (Ok c) (row_of (6 + more) s (n - k) want (drop p s))
    unfolding row_of entries filled total
    r_end c q g w =
        let i : n - k ≡ 0 = omega arith in
        let e : want ≡ length s = omega arith in
        rw (i, add-zero want, eq-eqb want (length s) e) (record { told = ([], record { gives = rw q; along = rw q }) })

  -- the contents: what the entries say is what the definition's table says
  module _ (n : ℕ) (c : count s ≡ ok n (drop 2 s)) (h : 2 ≤ length s) where
    start : n ≡ 0 → 2 + (6 + more) * n ≤ length s
    start e = rw (e, mul-zero) h

    table_as : table (6 + more) s ≡ (entries (6 + more) (length s) n (2 + (6 + more) * n) (drop 2 s) >>= λ y. whole (cut y.0 y.1))
    unfolding table contents
    table_as = rw c

    whole_left : (bs : List Body) (q : ℕ) → q < length s → whole (ok bs (drop q s)) ≡ bad not_a_book (drop q s)
    unfolding whole at_end
    whole_left bs q w = rw (drop-cons s q 0 w)

    whole_full : (bs : List Body) (q : ℕ) → q ≡ length s → whole (ok bs (drop q s)) ≡ ok bs []
    unfolding whole at_end
    whole_full bs q e = rw (e, drop-length s)

    -- the end of the book, where the bodies have to end
    module _ (es : List Entry) (z : List ℕ) (w : entries (6 + more) (length s) n (2 + (6 + more) * n) (drop 2 s) ≡ ok es z) where
      abbrev ends : ℕ
      ends = 2 + (6 + more) * n + total es

      lies : (z ≡ drop (2 + (6 + more) * n) s) × (ends ≤ length s)
      lies = run n (2 + (6 + more) * n) 2 es z w start

      left_by : (t : Bool) → eqb ends (length s) ≡ t → (k : Code) (r : List ℕ) → filled s (2 + (6 + more) * n) es z ≡ bad k r → whole (cut es z) ≡ bad k r
      unfolding filled
      left_by true e k r f = absurd (no_value (sym (rw e at f)))
      left_by false e k r f =
          let i = lies in
          let u = cut_fits es (2 + (6 + more) * n) i.1 in
          let y = eqb-false ends (length s) e in
          let v : ends < length s = lt_of_le-ne i.1 y in
          rw (i.0, u.1) (whole_left u.0 ends v ∙ same_bad (rw e at f))

      full_by : (t : Bool) → eqb ends (length s) ≡ t → (es' : List Entry) (r : List ℕ) → filled s (2 + (6 + more) * n) es z ≡ ok es' r → (es ≡ es') × (z ≡ r) × (ends ≡ length s)
      unfolding filled
      full_by true e es' r f = let g = rw e at f in let v : es ≡ es' = cc in let y : z ≡ r = cc in (v, y, eqb-true ends (length s) e)
      full_by false e es' r f = absurd (no_value (rw e at f))

    table_by : (m : Res (List ℕ) (List Entry)) → entries (6 + more) (length s) n (2 + (6 + more) * n) (drop 2 s) ≡ m → (k : Code) (r : List ℕ)
        → (m >>= λ y. filled s (2 + (6 + more) * n) y.0 y.1) ≡ bad k r → (m >>= λ y. whole (cut y.0 y.1)) ≡ bad k r
    table_by (bad j x) e k r f = same_bad f
    table_by (ok es z) e k r f = left_by es z e _ refl k r f

    pub table-bad : (k : Code) (r : List ℕ) → row_of (6 + more) s n (2 + (6 + more) * n) (drop 2 s) ≡ bad k r → table (6 + more) s ≡ bad k r
    unfolding row_of
    table-bad k r f = table_as ∙ table_by _ refl k r f

    holds_by : n ≤ 512 → (m : Res (List ℕ) (List Entry)) → entries (6 + more) (length s) n (2 + (6 + more) * n) (drop 2 s) ≡ m → (es : List Entry) (z : List ℕ)
        → (m >>= λ y. filled s (2 + (6 + more) * n) y.0 y.1) ≡ ok es z → (Holds s (6 + more) n) × (z ≡ drop (2 + (6 + more) * n) s) × (2 + (6 + more) * n ≤ length s)
    holds_by few (bad j x) e es z f = absurd (no_value f)
    holds_by few (ok es' z') e es z f =
        let i = lies es' z' e in
        let u = cut_fits es' (2 + (6 + more) * n) i.1 in
        let v = full_by es' z' e _ refl es z f in (
          record {
            rows = es';
            bodies = u.0;
            counted = c;
            few = few;
            reads = e ∙ ap (ok es') i.0;
            full = v.2;
            cuts = rw u.1 (whole_full u.0 (ends es' z' e) v.2);
          },
          sym v.1 ∙ i.0,
          omega (arith, v.2),
        )

    pub table_holds : n ≤ 512 → (es : List Entry) (z : List ℕ) → row_of (6 + more) s n (2 + (6 + more) * n) (drop 2 s) ≡ ok es z
        → (Holds s (6 + more) n) × (z ≡ drop (2 + (6 + more) * n) s) × (2 + (6 + more) * n ≤ length s)
    unfolding row_of
    table_holds few es z f = holds_by few _ refl es z f

-- where the loop starts
pub start_row : (all more n : ℕ) → 2 ≤ all → n ≤ 0 → 2 + (6 + more) * n ≤ all
start_row all more n h z = let q : n ≡ 0 = omega arith in rw (q, mul-zero) h
