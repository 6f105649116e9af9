-- The bodies in order.
use mathlib.Core.Path.{◌≡◌, refl, sym, ◌∙◌}
use mathlib.Core.List.{List, [], ◌∷◌, ◌++◌}
use Prim.Native.Nat.{ℕ, ◌+◌, ◌-◌, ◌*◌, ◌≤◌, ◌<◌}
use native.Mathlib.Omega.{arith}
use borrow.Author.Tests.{le-leb}
use lib.ListN.{length, take, drop, length-drop, length-append, get_or}
use Rattle.std.specs.Prelude.{Result, Ok, Err, IsErrAnd}
use Rattle.layout.specs.items.At.{number_at}
use Rattle.layout.proofs.items.Laws.{number_inside}
use Rattle.definition.specs.Res.{absent, just, Res, bad, ok, ◌>>=◌}
use Rattle.definition.specs.Tree.{Entry, Definition}
use Rattle.definition.specs.Read.{known, kinds, definition}
use Rattle.definition.specs.Contents.{entries, contents, cut, whole, at_end, within, bodies, book}
use Rattle.read_book.specs.declared.cursor.Fault.{Fault}
use Rattle.read_book.proofs.cursor.Lists.{part_at}
use Rattle.read_book.proofs.cursor.Only.{no_value}
use Rattle.read_book.proofs.cursor.Laws.{handed}
use Rattle.read_book.specs.body.Verdict.{verdict, of_kind, body_verdict}
use Rattle.read_book.specs.contents.Table.{total, Holds}
use Rattle.read_book.proofs.entry.Entries.{Opened, opened}
use Rattle.read_book.proofs.contents.Rows.{First, first_of, none_of, cut_fits}

-- the bodies of entries, of which the first starts at `at`
unfoldable pub bodies_at : List ℕ → ℕ → List Entry → Res (List ℕ) (List Definition)
bodies_at s at es = do
  (bs, z) ← cut es (drop at s)
  bodies bs

sound_never : (f : Fault) → ◌≡◌ {A = Result Unit Fault} (Err f) (Ok tt) → ⊥
sound_never f e = let z : ◌≡◌ {A = ℕ} 0 1 = cc in omega arith

-- what a verdict on one body says of all from there on
module _ {A B C : Type 0} (s : List ℕ) (end : ℕ) (h : end ≤ length s) (m : Res (List ℕ) B) (g : A → B → C) where
  unfoldable rest : Res (List ℕ) A → Res (List ℕ) C
  rest d = within (drop end s) d >>= λ y. m >>= λ z. ok (g y.0 z.0) []

  made_verdict : (a : A) → verdict (length s) (m >>= λ z. ok (g a z.0) []) ≡ verdict (length s) m
  unfolding verdict
  made_verdict a = elim m as (λ x. verdict (length s) (x >>= λ z. ok (g a z.0) []) ≡ verdict (length s) x) [ bad k r ↦ refl | ok b r ↦ refl ]

  place : (r : List ℕ) → length s - length (r ++ drop end s) ≡ end - length r
  place r = simp (length-append, length-drop) (omega arith)

  one_bad : (d : Res (List ℕ) A) (f : Fault) → Err f ≡ verdict end d → Err f ≡ verdict (length s) (rest d)
  unfolding verdict within rest
  one_bad (bad k r) f e = e ∙ rw (place r)
  one_bad (ok a r) f e = absurd (sound_never f e)

  one_sound : (d : Res (List ℕ) A) → Ok tt ≡ verdict end d → verdict (length s) (rest d) ≡ verdict (length s) m
  unfolding verdict within rest
  one_sound (bad k r) e = absurd (sound_never _ (sym e))
  one_sound (ok a r) e = made_verdict a

-- one body and the others
module _ (s : List ℕ) (at : ℕ) (e : Entry) (es : List Entry) (h : at + e.size + total es ≤ length s) where
  abbrev own : Res (List ℕ) Definition
  own = whole (definition e.kind (take (at + e.size - at) (drop at s)))

  split : bodies_at s at (e ∷ es) ≡ (within (drop (at + e.size) s) own >>= λ y. bodies_at s (at + e.size) es >>= λ z. ok (y.0 ∷ z.0) [])
  unfolding bodies_at cut bodies
  split =
      let u = cut_fits s 0 es (at + e.size) h in
      rw (part_at s at e.size (omega arith), u.1)

  judged : (b : ℕ) → get_or kinds b absent ≡ just e.kind → body_verdict b at (at + e.size) s ≡ verdict (at + e.size) own
  unfolding body_verdict of_kind known
  judged b k = rw (le-leb (at + e.size) (length s) (omega arith), le-leb at (at + e.size) (omega arith), k)

  pub first_bad : (b : ℕ) (f : Fault) → get_or kinds b absent ≡ just e.kind → Err f ≡ body_verdict b at (at + e.size) s → Err f ≡ verdict (length s) (bodies_at s at (e ∷ es))
  unfolding rest
  first_bad b f k w = rw split (one_bad s (at + e.size) (omega arith) (bodies_at s (at + e.size) es) (λ x xs. x ∷ xs) own f (w ∙ judged b k))

  pub first_sound : (b : ℕ) → get_or kinds b absent ≡ just e.kind → Ok tt ≡ body_verdict b at (at + e.size) s → verdict (length s) (bodies_at s at (e ∷ es)) ≡ verdict (length s) (bodies_at s (at + e.size) es)
  unfolding rest
  first_sound b k w = rw split (one_sound s (at + e.size) (omega arith) (bodies_at s (at + e.size) es) (λ x xs. x ∷ xs) own (w ∙ judged b k))

whole_open : {A : Type 0} (m : Res (List ℕ) A) (a : A) (r : List ℕ) → whole m ≡ ok a r → (z : List ℕ) × (m ≡ ok a z)
unfolding whole at_end
whole_open (bad k x) a r e = absurd (no_value e)
whole_open (ok b []) a r e = let v : b ≡ a = cc in ([], rw v)
whole_open (ok b (x ∷ l)) a r e = absurd (no_value e)

-- the loop's invariant: the entries that are left, and that the verdict on their bodies is the book's
pub record Going (s : List ℕ) (more n k want here : ℕ) : Type 0 where
  pub rows : List Entry
  pub after : List ℕ
  pub reads : entries (6 + more) (length s) (n - k) want (drop here s) ≡ ok rows after
  pub full : want + total rows ≡ length s
  pub goes : (v : Result Unit Fault) → v ≡ verdict (length s) (bodies_at s want rows) → v ≡ verdict (length s) (book (6 + more) s)

pub begin : (s : List ℕ) (more n : ℕ) → Holds s (6 + more) n → Going s more n 0 (2 + (6 + more) * n) 2
unfolding book contents bodies_at
begin s more n h =
    let i : n - 0 ≡ n = omega arith in
    let o = whole_open (cut h.rows (drop (2 + (6 + more) * n) s)) h.bodies [] h.cuts in
    record {
      rows = h.rows;
      after = drop (2 + (6 + more) * n) s;
      reads = rw i h.reads;
      full = h.full;
      goes = λ v e. e ∙ rw (h.counted, h.reads, h.cuts, o.1);
    }

module _ (s : List ℕ) (more n k want here : ℕ) (g : Going s more n k want here) where
  pub go_end : n ≤ k → Ok tt ≡ verdict (length s) (book (6 + more) s)
  unfolding bodies_at cut bodies verdict
  go_end h = g.goes (Ok tt) (rw (← (none_of (6 + more) (length s) (n - k) want (drop here s) g.rows g.after (omega arith) g.reads)))

  module _ (h : k < n) where
    first : First (6 + more) (length s) (n - k - 1) want (drop here s) g.rows g.after
    first = first_of (6 + more) (length s) (n - k) want (drop here s) g.rows g.after (omega arith) g.reads

    taken : Opened s here want more first.first first.later
    taken = opened s here want more first.first first.later first.reads

    pub room : here + (6 + more) ≤ length s
    room = taken.room

    -- the size that the code reads
    size_is : number_at s (here + 4) ≡ first.first.size
    size_is = number_inside s (here + 4) (omega (arith, room)) ∙ sym taken.sized

    pub in-book : want + number_at s (here + 4) ≤ length s
    in-book = rw size_is taken.fits

    ends : want + first.first.size + total first.others ≡ length s
    unfolding total
    ends = let e = g.full in let w = first.both in omega (arith, rw (← w) at e)

    pub go_bad : (t : ℕ) (f : Fault) {r : Result Unit Fault} → t ≡ number_at s (here + 4) → Err f ≡ body_verdict (get_or s here 0) want (want + t) s → IsErrAnd r (λ x. x ≡ f)
        → r ≡ verdict (length s) (book (6 + more) s)
    go_bad t f {r} e w u =
        let o = taken in
        let d = first in
        let i = ends in
        handed r u ∙ g.goes (Err f) (rw (← d.both) (first_bad s want d.first d.others (omega arith) (get_or s here 0) f o.kinded (rw (e ∙ size_is) at w)))

    pub go_on : (t : ℕ) → t ≡ number_at s (here + 4) → Ok tt ≡ body_verdict (get_or s here 0) want (want + t) s → Going s more n (k + 1) (want + t) (here + (6 + more))
    go_on t e v =
        let o = taken in
        let d = first in
        let i = ends in
        let y : Ok tt ≡ body_verdict (get_or s here 0) want (want + d.first.size) s = rw (e ∙ size_is) at v in
        let j : n - (k + 1) ≡ n - k - 1 = omega arith in
        rw (e ∙ size_is)
        (record {
          rows = d.others;
          after = g.after;
          reads = rw (j, ← o.rest) d.then;
          full = i;
          goes = λ x u. g.goes x (rw (← d.both) (u ∙ sym (first_sound s want d.first d.others (omega arith) (get_or s here 0) o.kinded y)));
        })
