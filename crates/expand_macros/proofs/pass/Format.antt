-- A format: its bytes up to its body, and its body expanded.
-- Assumes nothing.
use mathlib.Core.Path.{◌≡◌, refl, ap, ◌∙◌}
use mathlib.Core.List.{List, [], ◌∷◌, ◌++◌, append_assoc}
use mathlib.Core.Bool.{Bool, true, false}
use Prim.Native.Nat.{ℕ, suc, ◌+◌, ◌-◌, ◌≤◌, ◌<◌, min}
use native.Mathlib.Omega.{arith}
use lib.Dec.{leb}
use lib.ListN.{length, drop, take}
use lib.Seq.{drop_at, length-take-le}
use borrow.Author.Tests.{le-leb, lt-leb}
use Rattle.definition.specs.Code.{macro_growth}
use Rattle.definition.specs.Out.{Out, refused, done, ◌>>=◌, given}
use Rattle.definition.specs.Tree.{Name, Combinator, Param, Definition, format, constant, byte_order, macro}
use Rattle.definition.specs.Write.{w_name, w_param, w_list, w_combinator, w_definition, kind_of, kind_byte}
use Rattle.definition.specs.Size.{size, levels, levels_p, levels_book}
use Rattle.definition.specs.Macros.{Macro, macros as macrosOf, expand}
use Rattle.laws.proofs.Splits.{s_list, s_param, s_name}
use Rattle.layout.specs.items.At.{name_past_of}
use Rattle.layout.specs.items.Here.{Here}
use Rattle.layout.proofs.items.Here.{place, name_here}
use Rattle.buffer.specs.writes.Buf.{part, Wrote}
use Rattle.buffer.proofs.writes.Put.{part_none, put_fits, take_written}
use Rattle.buffer.proofs.writes.Wrote.{fitted, place_is, same_length, glue}
use Rattle.walker.specs.declared.walk.Walk.{Walk}
use Rattle.walker.specs.walk.Steps.{walk}
use Rattle.walker.specs.calls.Walk.{combinator_at}
use Rattle.walker.specs.calls.Walked.{Walked}
use Rattle.walker.specs.pieces.Pieces.{pieces, places, written, expanded}
use Rattle.laws.proofs.Splits.{s_comb}
use Rattle.walker.proofs.pieces.Written.{written_is}
use Rattle.walker.proofs.pieces.Expanded.{expansion}
use Rattle.walker.proofs.calls.Link.{gone, walked}
use Rattle.expand_macros.specs.in_combinator.Deep.{DeepM}
use Rattle.name_table.specs.kinds.Rows.{keep, of_kinds, InRows}
use Rattle.expand_macros.specs.declared.known_macros.Macros.{Macros}
use Rattle.expand_macros.specs.known_macros.Table.{Rows}
use Rattle.walker.specs.definitions.Params.{ParamsPast}
use Rattle.expand_macros.specs.replace_call.Call.{Puts}
use Rattle.expand_macros.specs.in_combinator.Expand.{front, Expanding}
use Rattle.expand_macros.specs.pass.Left.{shallow, expand_one, Whole, Formatted}
use Rattle.walker.proofs.pieces.Marked.{part_here}
use Rattle.walker.proofs.pieces.Room.{size_here, room_enough}
use Rattle.expand_macros.proofs.in_combinator.Depth.{expand_deep, pieces_deep}
use Rattle.expand_macros.proofs.in_combinator.Next.{front_none}

-- the table tells how deep the macros are
in-rows-deep : (s pl : List ℕ) (n : ℕ) (ds : List Definition) → InRows s pl n (of_kinds 4 4 ds) → (ms : List Macro) → DeepM ms → DeepM (macrosOf ds ms)
unfolding macrosOf of_kinds keep InRows kind_byte kind_of levels_book
in-rows-deep s pl n [] r ms k = k
in-rows-deep s pl n (format m ps c ∷ ds) r ms k = in-rows-deep s pl n ds r ms k
in-rows-deep s pl n (constant m x ∷ ds) r ms k = in-rows-deep s pl n ds r ms k
in-rows-deep s pl n (byte_order x ∷ ds) r ms k = in-rows-deep s pl n ds r ms k
in-rows-deep s pl n (macro m ps c ∷ ds) r ms k = in-rows-deep s pl (n - 1) ds r.2 (record { name = m; params = ps; body = c } ∷ ms) (let d = r.1.deep in (omega arith, k))

rows_deep : (s pl hs : List ℕ) (n : ℕ) (ms : List Macro) → Rows s pl hs n ms → DeepM ms
rows_deep s pl hs n ms r = rw r.are (in-rows-deep s pl n r.of r.in_rows [] tt)

-- what was written stands there
pub wrote_here : {d d' p : List ℕ} {at r : ℕ} → Wrote d at p d' r → r ≤ length d → Here d' at (p ++ drop (at + length p) d)
wrote_here {d} {d'} {p} {at} {r} w k =
    let f : at + length p ≤ length d = fitted w k in
    record {
      is = rw (w.holds, put_fits d at p f, append_assoc) (drop_at (take at d) (p ++ drop (at + length p) d) at (length-take-le at d (omega arith)));
      reach = omega (arith, same_length w);
    }

-- the bytes of a format up to its body
head_bytes : Name → List Param → List ℕ
head_bytes n ps = w_name n (w_list w_param ps [])

format_apart : (n : Name) (ps : List Param) (c : Combinator) (z : List ℕ) → w_definition (format n ps c) z ≡ head_bytes n ps ++ w_combinator c z
unfolding w_definition head_bytes
format_apart n ps c z = rw (s_list w_param s_param ps [] (w_combinator c z)) (s_name n (w_list w_param ps []) (w_combinator c z))

part_upto : {s : List ℕ} {p q : ℕ} (b z : List ℕ) → Here s p (b ++ z) → Here s q z → part p q s ≡ b
part_upto b z h k = rw (place b h k) (part_here b z h)

module _ {t : Macros} {book : List ℕ} {at : ℕ} {areas marks out : List ℕ} {o : ℕ} {params body : ℕ} (ep : params ≡ name_past_of book at) (pp : ParamsPast book params body)
    {out₁ : List ℕ} {q : ℕ} (wo : Wrote out o (part at body book) out₁ q) (m₁ : List ℕ) (lm : length m₁ ≡ length marks) (w : Walk) {m₂ : List ℕ} (hw : w ≡ (combinator_at 64 book (walk body 0 64 true) m₁).0)
    (hm : m₂ ≡ (combinator_at 64 book (walk body 0 64 true) m₁).1) {fm : List ℕ} (ef : fm ≡ take w.n m₂) {out₂ : List ℕ} {r : ℕ} (ex : Expanding t book w.at fm areas out₁ body q out₂ r)
    (lo : length out₂ ≡ length out₁) where
  module _ {ms : List Macro} (wh : Whole t book areas marks out ms) (n : Name) (ps : List Param) (c : Combinator) (z : List ℕ) (h : Here book at (w_definition (format n ps c) z))
      (dp : levels_p ps ≤ 64) (dc : levels c ≤ 64) where
    body_here : Here book body (w_combinator c z)
    unfolding w_definition
    body_here = pp.says wh.sized.book_short ps (w_combinator c z) (rw ep (name_here n h)) dp

    head : part at body book ≡ head_bytes n ps
    head = part_upto (head_bytes n ps) (w_combinator c z) (rw (format_apart n ps c z) at h) body_here

    over_body : Walked book c 64 z (walk body 0 64 true) m₁ w m₂
    over_body = rw (hw, hm) (walked book (omega (arith, wh.sized.book_short)) c 64 dc (walk body 0 64 true) m₁ z body_here (omega (arith, room_enough c body, size_here c z body_here, wh.marks-book)))

    marks_are : fm ≡ places body (pieces c [])
    marks_are = ef ∙ rw (over_body.count, over_body.marks) (take_written m₁ 0 (places body (pieces c [])) (omega (arith, room_enough c body, size_here c z body_here, wh.marks-book)))

    got : Puts out₁ q (expand c ms >>= λ d. done (w_combinator d [])) out₂ r
    unfolding written size
    got =
        let e : front (part body body book) (expanded ms (pieces c []) []) ≡ (expand c ms >>= λ d. done (w_combinator d [])) = rw (part_none body book) (front_none (expanded ms (pieces c []) []) ∙ expansion ms c []) in
        rw e at (ex.says wh.sized ms wh.table body (pieces c []) z (rw (written_is c [] z) body_here) (omega arith) marks_are (over_body.place ∙ rw (written_is c [] [])) (pieces_deep c [] dc tt))

    -- the head and the body
    both : (d : Combinator) → Wrote out₁ q (w_combinator d []) out₂ r → Wrote out o (w_definition (format n ps d) []) out₂ r
    both d v = rw (format_apart n ps d []) (glue (rw head at wo) v)

    deep : (d : Combinator) → expand c ms ≡ done d → levels d ≤ 127
    deep d e = omega (arith, expand_deep ms (rows_deep t.book.now t.places.now t.ways.now t.rows ms wh.table) c d e)

    -- how many levels the walk over the finished body leaves
    left_is : (d : Combinator) → levels d ≤ 127 → Wrote out₁ q (w_combinator d []) out₂ r → r ≤ length out₂ → (m₃ : List ℕ) (v : Walk) → v ≡ (combinator_at 129 out₂ (walk q 0 129 true) m₃).0
        → v.left ≡ min 129 (129 - levels d)
    left_is d dd wd k m₃ v hv =
        let l : length out₂ ≡ length out = lo ∙ same_length wo in
        let s : Here out₂ q (w_combinator d (drop (q + length (w_combinator d [])) out₁)) = rw (s_comb d [] (drop (q + length (w_combinator d [])) out₁)) (wrote_here wd (omega arith)) in
        rw hv (gone out₂ (omega (arith, wh.out_short)) d 129 (omega arith) (walk q 0 129 true) m₃ (drop (q + length (w_combinator d [])) out₁) s (omega arith)).deep

  -- by what the expansion of the body is
  by_body : (out' : List ℕ) (r' : ℕ) → (r ≡ suc (length out₁) → r' ≡ suc (length out))
      → ((n : Name) (ps : List Param) (d : Combinator) → levels d ≤ 127 → Wrote out₁ q (w_combinator d []) out₂ r → Wrote out o (w_definition (format n ps d) []) out₂ r
      → ((m₃ : List ℕ) (v : Walk) → r ≤ length out₂ → v ≡ (combinator_at 129 out₂ (walk q 0 129 true) m₃).0 → v.left ≡ min 129 (129 - levels d))
      → Puts out o (shallow d >>= λ e. done (w_definition (format n ps e) [])) out' r')
      → Formatted t book at areas marks out o out' r'
  unfolding expand_one shallow
  by_body out' r' f g = record { says = λ ms wh n ps c z h dp dc. go wh n ps c z h dp dc (expand c ms) refl (got wh n ps c z h dp dc) }
    where
      flat : (t : Bool) (n : Name) (ps : List Param) (d : Combinator) → Puts out o (given t macro_growth d >>= λ e. done (w_definition (format n ps e) [])) out' r'
          → Puts out o ((given t macro_growth d >>= λ e. done (format n ps e)) >>= λ e. done (w_definition e [])) out' r'
      flat true n ps d p = p
      flat false n ps d p = p

      go : {ms : List Macro} (wh : Whole t book areas marks out ms) (n : Name) (ps : List Param) (c : Combinator) (z : List ℕ) (h : Here book at (w_definition (format n ps c) z)) (dp : levels_p ps ≤ 64) (dc : levels c ≤ 64)
          → (x : Out Combinator) → expand c ms ≡ x → Puts out₁ q (x >>= λ d. done (w_combinator d [])) out₂ r → Puts out o (expand_one (format n ps c) ms >>= λ e. done (w_definition e [])) out' r'
      go wh n ps c z h dp dc (refused k) e p = rw e (f p)
      go wh n ps c z h dp dc (done d) e p =
          let dd = deep wh n ps c z h dp dc d e in
          rw e (flat (leb (levels d) 64) n ps d (g n ps d dd p (both wh n ps c z h dp dc d p) (λ m₃ v k hv. left_is wh n ps c z h dp dc d dd p k m₃ v hv)))

  pub formatted_cut : length out₂ < r → Formatted t book at areas marks out o out₂ r
  unfolding shallow
  formatted_cut k = by_body out₂ r (λ e. e ∙ ap suc (same_length wo)) (λ n ps d dd wd wf le. by_level (leb (levels d) 64) n ps d wd wf)
    where
      by_level : (t : Bool) (n : Name) (ps : List Param) (d : Combinator) → Wrote out₁ q (w_combinator d []) out₂ r → Wrote out o (w_definition (format n ps d) []) out₂ r
          → Puts out o (given t macro_growth d >>= λ e. done (w_definition (format n ps e) [])) out₂ r
      by_level true n ps d wd wf = wf
      by_level false n ps d wd wf = omega (arith, place_is wd, lo, same_length wo)

  module _ (k : r ≤ length out₂) (m₃ : List ℕ) (v : Walk) (hv : v ≡ (combinator_at 129 out₂ (walk q 0 129 true) m₃).0) where
    pub formatted_deep : v.left < 65 → {x : ℕ} → x ≡ suc (length out₂) → Formatted t book at areas marks out o out₂ x
    unfolding shallow
    formatted_deep l {x} e = by_body out₂ x (λ f. e ∙ ap suc (lo ∙ same_length wo)) (λ n ps d dd wd wf le. rw (lt-leb (levels d) 64 (omega (arith, le m₃ v k hv))) (e ∙ ap suc (lo ∙ same_length wo)))

    pub formatted_done : 65 ≤ v.left → Formatted t book at areas marks out o out₂ r
    unfolding shallow
    formatted_done l = by_body out₂ r (λ e. e ∙ ap suc (same_length wo)) (λ n ps d dd wd wf le. rw (le-leb (levels d) 64 (omega (arith, le m₃ v k hv))) wf)
