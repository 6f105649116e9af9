-- A child: its frame, and that the pass goes on with it.
-- Assumes nothing.
use mathlib.Core.Path.{◌≡◌, refl, sym, ap, ◌∙◌}
use mathlib.Core.Bool.{true, false}
use mathlib.Core.List.{List, [], ◌∷◌, ◌++◌}
use Prim.Native.Nat.{ℕ, ◌+◌, ◌*◌, ◌≤◌, ◌<◌}
use native.Mathlib.Omega.{arith}
use lib.ListN.{length, take, length-set, length-append}
use Rattle.definition.specs.Code.{Code}
use Rattle.definition.specs.Res.{Res, bad, ok}
use Rattle.definition.specs.Tree.{Combinator, plain, chained, Inner, leaf, struct, choice, shell, bytes, invocation, macro_invocation}
use Rattle.definition.specs.Write.{w_u16, w_name, w_text, w_len, w_list, count_a, w_inner, w_combinator, w_inners}
use Rattle.definition.specs.Size.{size, levels}
use Rattle.laws.proofs.Sizes.{adds, open-some, size_i, size_struct, size_choice, size-shell, size-plain, size-chained}
use Rattle.laws.proofs.Splits.{s_comb, s_inner}
use Rattle.lifting.proofs.Ranges.{size_i_some}
use Rattle.layout.specs.items.Here.{Here}
use Rattle.layout.proofs.items.Here.{here_length, byte_here, next_here}
use Rattle.expand_combinator.specs.anonymous.Anonymous.{anonymous_at}
use Rattle.expand_combinator.proofs.anonymous.Anonymous.{anonymous_here}
use Rattle.generated_name.specs.child_name.Name.{Held}
use Rattle.lift_tables.specs.tables.Rows.{rows_of}
use Rattle.lift_tables.specs.declared.enter_lift.Counts.{Counts}
use Rattle.lift_tables.specs.enter_lift.Bound.{bound_from}
use Rattle.lift_tables.specs.enter_lift.Sheet.{Sheet, sheet_of}
use Rattle.walker.proofs.ends.Ends.{inner_rest, inner_end_lem}
use Rattle.lift_combinator.specs.declared.frames.Frame.{Frame}
use Rattle.lift_combinator.specs.frames.Frames.{combinator_end_of, Stands, frame_at}
use Rattle.lift_combinator.proofs.frames.Ends.{combinator_end_lem}
use Rattle.lift_combinator.specs.declared.naming.Lift.{Lift}
use Rattle.lift_combinator.specs.naming.Walk.{Start}
use Rattle.lift_combinator.specs.naming.Nodes.{walked, lifted, node_of, run}
use Rattle.lift_combinator.specs.naming.Frames.{OwnIs}
use Rattle.lift_combinator.specs.naming.Lifts.{Whole, Answers, Lifts}
use Rattle.lift_combinator.proofs.naming.Begins.{begins}
use Rattle.lift_combinator.proofs.naming.Opened.{size_rest_lem, frame_opens}
use Rattle.lift_combinator.proofs.naming.Machine.{steps_walked, steps_lifted, steps_refused}
use Rattle.expand_combinator.specs.open_child.Steps.{Sound, weight, ChildIs, Comes}
use Rattle.std.specs.Prelude.{Result, Ok, Err}
use Rattle.what_comes_back.specs.declared.Code.{Code as CodeOf}
use Rattle.what_comes_back.specs.Codes.{code_of}
use Rattle.expand_combinator.proofs.open_child.Started.{started, rows-length, numbered_on}

-- ---- sizes
some_size : (c : Combinator) → 2 ≤ size c
some_size (plain i) = omega (arith, size-plain i, size_i_some i)
some_size (chained i c) = omega (arith, size-chained i c, size_i_some i)

pub inner_least : (i : Inner) → 3 ≤ size_i i
unfolding size_i w_combinator w_text w_u16 w_len w_list w_name
inner_least (leaf k x) = omega arith
inner_least (struct f) = omega (arith, size_struct f)
inner_least (choice x k f) = omega (arith, size_choice x k f)
inner_least (shell x c) = omega (arith, size-shell x c, some_size c, open-some x)
inner_least (bytes l) = omega arith
inner_least (invocation n a) = omega (arith, length-append n (w_list w_name a []))
inner_least (macro_invocation n a) = omega (arith, length-append n (w_u16 (count_a a) (w_inners a [])))

pub size_least : (c : Combinator) → 4 ≤ size c
size_least (plain i) = omega (arith, size-plain i, inner_least i)
size_least (chained i c) = omega (arith, size-chained i c, inner_least i)

pub levels_some : (c : Combinator) → 1 ≤ levels c
unfolding levels
levels_some (plain i) = omega arith
levels_some (chained i c) = omega arith

-- ---- the frame of a node that is opened
module _ {s : List ℕ} {at : ℕ} (small : length s ≤ 16384) where
  inner_frame : (i : Inner) (z : List ℕ) (last len bound own call : ℕ) → levels (plain i) ≤ 64 → Here s at (w_inner i z) → last ≤ length s → own ≤ 512 → (0 < own → 5 ≤ call) → call ≤ 16384 → Sound s (frame_at s at last len bound own call)
  unfolding frame_at levels size_i
  inner_frame i z last len bound own call d h in-book small-own least most =
      let e = inner_end_lem (omega arith) i z h in
      let l = inner_least i in
      let b = begins i z h in
      let r = size_rest_lem i in
      record {
        least = omega arith;
        call = least;
        own = small-own;
        child = omega arith;
        ends = omega (arith, here_length h, adds (w_inner i) (s_inner i) z);
        place_most = h.reach;
        last_most = in-book;
        left_most = omega (arith, b.few, here_length h, adds (w_inner i) (s_inner i) z);
        done_most = omega (arith, b.here, r, here_length h, adds (w_inner i) (s_inner i) z);
        link_most = omega arith;
        call_most = most;
      }

  in-book : (c : Combinator) (z : List ℕ) {last : ℕ} → Here s at (w_combinator c z) → last ≡ at + size c → last ≤ length s
  unfolding size
  in-book c z h e = omega (arith, here_length h, adds (w_combinator c) (s_comb c) z)

  pub frame_sound : (c : Combinator) (z : List ℕ) (last len bound own call : ℕ) → levels c ≤ 64 → Here s at (w_combinator c z) → last ≡ at + size c → own ≤ 512 → (0 < own → 5 ≤ call) → call ≤ 16384 → Sound s (frame_at s at last len bound own call)
  unfolding w_combinator levels
  frame_sound (plain i) z last len bound own call d h e o l m = inner_frame i (0 ∷ z) last len bound own call (omega arith) h (in-book (plain i) z h e) o l m
  frame_sound (chained i c) z last len bound own call d h e o l m = inner_frame i (1 ∷ w_combinator c z) last len bound own call (omega arith) h (in-book (chained i c) z h e) o l m

  pub frame_light : (c : Combinator) (z : List ℕ) (last len bound own call : ℕ) → levels c ≤ 64 → Here s at (w_combinator c z) → weight s (frame_at s at last len bound own call) + 2 ≤ 3 * size c
  unfolding w_combinator levels weight frame_at
  frame_light (plain i) z last len bound own call d h =
      let b = begins i (0 ∷ z) h in
      let q = inner_rest (omega arith) i (0 ∷ z) h in
      let e = inner_end_lem (omega arith) i (0 ∷ z) h in
      rw (byte_here q) (omega (arith, b.here, size-plain i))
  frame_light (chained i c) z last len bound own call d h =
      let b = begins i (1 ∷ w_combinator c z) h in
      let q = inner_rest (omega arith) i (1 ∷ w_combinator c z) h in
      let e = inner_end_lem (omega arith) i (1 ∷ w_combinator c z) h in
      let a = combinator_end_lem (omega arith) c 64 z (omega arith) (omega arith) (next_here q) in
      rw (byte_here q) (omega (arith, b.here, size-chained i c, a))

-- ---- the answers of a lift
record Entry (m : Res Sheet Start) (l : Lift) (path : List ℕ) (sheet : Counts → Sheet) (good : Counts → Type 0) : Type 0 where
  start : Start
  after : Sheet
  is : m ≡ ok start after
  held : Held path l.len start.name
  size : l.call ≡ start.call
  says : after ≡ sheet l.counts
  right : good l.counts

entry : (m : Res Sheet Start) (l : Lift) (path : List ℕ) (sheet : Counts → Sheet) (good : Counts → Type 0) → Answers m (Ok l) path sheet good → Entry m l path sheet good
unfolding Answers
entry (bad k t) l path sheet good h = absurd h
entry (ok b t) l path sheet good h = record { start = b; after = t; is = refl; held = h.0; size = h.1; says = h.2; right = h.3 }

record Refusal (m : Res Sheet Start) (x : CodeOf) : Type 0 where
  code : Code
  after : Sheet
  is : m ≡ bad code after
  tells : x ≡ code_of code

refusal : (m : Res Sheet Start) (x : CodeOf) (path : List ℕ) (sheet : Counts → Sheet) (good : Counts → Type 0) → Answers m (Err x) path sheet good → Refusal m x
unfolding Answers
refusal (bad k t) x path sheet good h = record { code = k; after = t; is = refl; tells = h }
refusal (ok b t) x path sheet good h = absurd h

pub whole_of : {s : List ℕ} {at last : ℕ} (c : Combinator) → length s ≤ 16384 → Stands s at c → levels c ≤ 64 → last ≡ combinator_end_of 64 s at → Whole s at last c
whole_of c small st d e = record { after = st.after; is = st.is; deep = d; ends = e ∙ combinator_end_lem (omega arith) c 64 st.after d (omega arith) st.is }

-- ---- the three ways
module _ {s : List ℕ} {at : ℕ} {path : List ℕ} {len : ℕ} {binders : List ℕ} {b : ℕ} {made places ways hints rows params number : List ℕ} {w : Counts} (small : length s ≤ 16384) {last : ℕ} (ends : last ≡ combinator_end_of 64 s at) where
  pub child_walked : {g : Frame ℕ} → anonymous_at 64 s at ≡ false → g ≡ frame_at s at last len b 0 0
      → Comes s at path len binders b made places ways hints rows params number w path made places ways hints rows params number (Ok (record { frame = g; counts = w }))
  unfolding ChildIs frame_at OwnIs
  child_walked {g} an e = record {
    kept = refl;
    comes = λ c base k n wait order m st deep kd held op env few good.
        let wh = whole_of {last = last} c small st (omega arith) ends in (
          rw e (record {
            node = node_of c at base n.env walked;
            frame = frame_opens (omega arith) c st.after k at last len b 0 0 base n.env walked st.is deep kd held env refl few;
            same = λ ws. steps_walked op ws _ (sym (anonymous_here c 64 (omega arith) st.after st.is) ∙ an);
            place = refl;
            last = wh.ends;
            longer = omega arith;
            bound = refl;
            sound = frame_sound small c st.after last len b 0 0 (omega arith) st.is wh.ends (omega arith) (λ h. absurd (omega arith)) (omega arith);
            counted = omega arith;
            light = frame_light small c st.after last len b 0 0 (omega arith) st.is;
          }),
          good,
        );
  }

  module _ {path' made' places' ways' hints' rows' params' number' : List ℕ} {r : Result Lift CodeOf} (an : anonymous_at 64 s at ≡ true)
      (lift : Lifts s at last path len (bound_from s binders 0 b) made places rows params number w path' made' places' ways' hints' rows' params' number' r) where
    pub child_refused : (x : CodeOf) → r ≡ Err x → Comes s at path len binders b made places ways hints rows params number w path' made' places' ways' hints' rows' params' number' (Err x)
    unfolding ChildIs
    child_refused x e = record {
      kept = lift.kept;
      comes = λ c base k n wait order m st deep kd held op env few good ws.
          let t = sheet_of s made places rows params (take m order) w in
          let y = refusal _ x _ _ _ (rw (e, env) at (lift.lifts c base (take m order) (whole_of c small st (omega arith) ends) held)) in
          record { code = y.code; sheet = y.after; is = steps_refused op ws t y.code y.after (sym (anonymous_here c 64 (omega arith) st.after st.is) ∙ an) y.is; tells = y.tells };
    }

    pub child_lifted : {l : Lift} {own : ℕ} {g : Frame ℕ} → r ≡ Ok l → own ≡ w.lifts + 1 → g ≡ frame_at s at last l.len b own l.call → length path' ≡ length path
        → Comes s at path len binders b made places ways hints rows params number w path' made' places' ways' hints' rows' params' number' (Ok (record { frame = g; counts = l.counts }))
    unfolding ChildIs frame_at OwnIs sheet_of
    child_lifted {l} {own} {g} e eo eg long = record {
      kept = lift.kept;
      comes = λ c base k nd wait order m st deep kd held op env few good.
          let t = sheet_of s made places rows params (take m order) w in
          let wh = whole_of {last = last} c small st (omega arith) ends in
          let y = entry _ l _ _ _ (rw (e, env) at (lift.lifts c base (take m order) wh held)) in
          let q = started c at base nd.env t y.is in
          let bytes : y.after.bytes ≡ l.counts.bytes = ap (λ (z : Sheet). z.bytes) y.says in
          let after-rows : rows_of s made' rows' params' l.counts.lifts ≡ rows_of s made rows params w.lifts ++ (q.row ∷ []) = sym (ap (λ (z : Sheet). z.rows) y.says) ∙ q.rows in
          let tb = y.right.0 in
          let len-rows = rows-length s made rows params w.lifts in
          let own-few : own ≤ 512 = omega (arith, y.right.2, tb.few.0, tb.defns_most) in (
            rw eg (record {
              node = node_of c at y.start.name nd.env (lifted (length t.rows) y.start.call);
              frame = frame_opens (omega arith) c st.after k at last l.len b own l.call y.start.name nd.env (lifted (length t.rows) y.start.call) st.is deep kd y.held env (omega (arith, eo, len-rows), y.size) few;
              same = λ ws. steps_lifted op ws t y.start y.after (sym (anonymous_here c 64 (omega arith) st.after st.is) ∙ an) y.is ∙ ap (λ (z : Sheet). run (node_of c at y.start.name nd.env (lifted (length t.rows) y.start.call)) (wait ∷ ws) z) y.says;
              place = refl;
              last = wh.ends;
              longer = omega (arith, held.place, y.held.place, q.longer);
              bound = refl;
              sound = frame_sound small c st.after last l.len b own l.call (omega arith) st.is wh.ends own-few (λ h. omega (arith, y.size, q.least)) (omega (arith, y.size, q.most, tb.bytes_most));
              counted = omega (arith, y.right.2);
              light = frame_light small c st.after last l.len b own l.call (omega arith) st.is;
            }),
            record {
              tables = tb;
              number_long = rw y.right.1 (simp length-set good.number_long);
              numbered = λ p h. rw y.right.1 (numbered_on (rows_of s made rows params w.lifts) (rows_of s made' rows' params' l.counts.lifts) q.row number at w.lifts p after-rows q.at len-rows (omega (arith, good.number_long)) (good.numbered p h));
              order_long = good.order_long;
              finished = omega (arith, good.finished, y.right.2);
            },
          );
    }
