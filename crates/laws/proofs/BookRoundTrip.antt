-- A book that is written is read back.
use mathlib.Core.Path.{◌≡◌, refl, ap, ◌∙◌}
use mathlib.Core.List.{List, [], ◌∷◌, map}
use mathlib.Core.Bool.{true}
use Prim.Native.Nat.{ℕ, zero, suc, ◌+◌, ◌*◌, ◌≤◌}
use native.Mathlib.Omega.{arith}
use lib.Dec.{eqb, leb}
use lib.ListN.{length, length-map}
use borrow.Author.Tests.{eq-eqb, le-leb}
use Rattle.definition.specs.Res.{ok}
use Rattle.definition.specs.Tree.{Kind, is_format, is_constant, is_byte_order, is_macro, Entry, Inner, Param, Definition, format, constant, byte_order, macro}
use Rattle.definition.specs.Read.{part, undotted, byte, known, one_of, combinator, arg, params, kinds, definition}
use Rattle.definition.specs.Contents.{entry, entries, contents, Body, cut, at_end, whole, within, bodies, count, book}
use Rattle.definition.specs.Write.{w_u16, w_all, w_list, w_inner, w_param, w_definition, kind_of, kind_byte, size_of, w_entries, w_parts, entry_of, w_book}
use Rattle.definition.specs.Size.{size_book, levels_i, levels_p, levels_book}
use Rattle.laws.specs.Book.{IsBook, GoodI, GoodP, GoodD, GoodAll}
use Rattle.laws.proofs.Levels.{levels_append}
use Rattle.laws.proofs.Splits.{s_definition}
use Rattle.laws.proofs.Sizes.{room, size_book_lem, room_least}
use Rattle.laws.proofs.RoundTrip.{r-u16, r-part, r-text, r-name, r_names, r-combinator, r-level}

r-arg : (i : Inner) → GoodI i → (k : ℕ) → suc (levels_i i) ≤ k → (r : List ℕ) → arg k (w_inner i r) ≡ ok i r
unfolding combinator
r-arg i g zero h r = absurd (omega arith)
r-arg i g (suc k) h r = r-level i g k (omega arith) r

r-params : (ps : List Param) → GoodP ps → levels_p ps ≤ 64 → (r : List ℕ) → params (length ps) (w_all w_param ps r) ≡ ok ps r
unfolding params w_all w_param levels_p
r-params [] g h r = refl
r-params (p ∷ ps) g h r = simp (r-name p.name g.0, r-arg p.type g.1.0 64 (omega arith) (w_all w_param ps r), r-params ps g.1.1 (omega arith) r)

r-definition : (d : Definition) → GoodD d → levels_book (d ∷ []) ≤ 64 → (r : List ℕ) → definition (kind_of d) (w_definition d r) ≡ ok d r
unfolding definition kind_of w_definition w_list levels_book
r-definition (format n ps c) g h r = simp (r-name n g.0, r-u16, r-params ps g.1.0 (omega arith), r-combinator c g.1.1 64 (omega arith) r)
r-definition (constant n x) g h r = simp (r-name n g.0, r-text)
r-definition (byte_order x) g h r = simp r-text
r-definition (macro n ps c) g h r = simp (r-name n g.0, r-u16, r_names undotted ps g.1.0, r-combinator c g.1.1 64 (omega arith) r)

bodies_of : List Definition → List Body
bodies_of [] = []
bodies_of (d ∷ ds) = record { kind = kind_of d; own = w_definition d []; later = w_all w_definition ds [] } ∷ bodies_of ds

r_kind : (k : Kind) (r : List ℕ) → one_of kinds (kind_byte k ∷ r) ≡ ok k r
unfolding one_of known kind_byte
r_kind is_format r = refl
r_kind is_constant r = refl
r_kind is_byte_order r = refl
r_kind is_macro r = refl

r-entries : (all : ℕ) (ds : List Definition) (at : ℕ) → at + room ds ≤ all + 6 * length ds → (r : List ℕ) → entries 6 all (length (map entry_of ds)) at (w_entries at (map entry_of ds) r) ≡ ok (map entry_of ds) r
unfolding entries entry entry_of w_entries byte part room
r-entries all [] at h r = refl
r-entries all (d ∷ ds) at h r =
    let a : eqb at at ≡ true = eq-eqb at at refl in
    let b : leb (at + size_of d) all ≡ true = le-leb (at + size_of d) all (omega (arith, room_least ds)) in
    simp (r_kind, r-u16, a, b, r-entries all ds (at + size_of d) (omega arith) r)

r_cut : (ds : List Definition) → cut (map entry_of ds) (w_all w_definition ds []) ≡ ok (bodies_of ds) []
unfolding cut entry_of bodies_of w_all size_of
r_cut [] = refl
r_cut (d ∷ ds) =
    let p : part (length (w_definition d [])) (w_definition d (w_all w_definition ds [])) ≡ ok (w_definition d []) (w_all w_definition ds []) = ap (part (length (w_definition d []))) (s_definition d [] (w_all w_definition ds [])) ∙ r-part (w_definition d []) (w_all w_definition ds []) in
    rw (p, r_cut ds)

r_bodies : (ds : List Definition) → GoodAll ds → levels_book ds ≤ 64 → bodies (bodies_of ds) ≡ ok ds []
unfolding bodies bodies_of within whole at_end
r_bodies [] g h = refl
r_bodies (d ∷ ds) g h =
    let w = levels_append (d ∷ []) ds in
    simp (r-definition d g.0 (omega arith) [], r_bodies ds g.1 (omega arith))

r-count : (n : ℕ) → n ≤ 512 → (r : List ℕ) → count (w_u16 n r) ≡ ok n r
unfolding count
r-count n h r = let a : leb n 512 ≡ true = le-leb n 512 h in simp (r-u16, a)

-- the parts, put together
joined : (s : List ℕ) (n : ℕ) (t : List ℕ) (es : List Entry) (u : List ℕ) (bs : List Body) (ds : List Definition)
    → count s ≡ ok n t → entries 6 (length s) n (2 + 6 * n) t ≡ ok es u → cut es u ≡ ok bs [] → bodies bs ≡ ok ds [] → book 6 s ≡ ok ds []
unfolding book contents whole at_end
joined s n t es u bs ds a b c d = rw (a, b, c, d)

pub r_book : (ds : List Definition) → IsBook ds → book 6 (w_book ds) ≡ ok ds []
unfolding w_book w_parts size_book
r_book ds b =
    let l = length-map ds entry_of in
    joined (w_book ds) (length (map entry_of ds)) _ (map entry_of ds) (w_all w_definition ds []) (bodies_of ds) ds
    (r-count (length (map entry_of ds)) (omega (arith, b.few)) _)
    (r-entries (length (w_book ds)) ds (2 + 6 * length (map entry_of ds)) (omega (arith, size_book_lem ds)) (w_all w_definition ds []))
    (r_cut ds) (r_bodies ds b.good b.deep)
