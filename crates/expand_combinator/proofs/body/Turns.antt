-- One turn of the loop.
-- Assumes nothing.
use mathlib.Core.Path.{◌≡◌, refl, sym, ◌∙◌}
use mathlib.Core.Logic.{⊎_elim}
use mathlib.Core.Bool.{Bool, true, false}
use mathlib.Core.List.{List, [], ◌∷◌}
use Prim.Native.Nat.{ℕ, ◌+◌, ◌-◌, ◌*◌, ◌≤◌, ◌<◌, min}
use native.Mathlib.Omega.{arith}
use native.Mathlib.Nat.{eq-or-lt_of_le}
use lib.Dec.{eqb}
use lib.ListN.{length, take, set, length-set}
use lib.Seq.{get_or-set_same}
use Rattle.definition.specs.Res.{Res, ok}
use Rattle.definition.specs.Write.{w_combinator}
use Rattle.definition.specs.Size.{size, levels}
use Rattle.laws.proofs.Tests.{by_test}
use Rattle.laws.proofs.Sizes.{adds}
use Rattle.laws.proofs.Splits.{s_comb}
use Rattle.layout.specs.items.At.{byte_at, past_at, pick}
use Rattle.layout.proofs.items.Here.{here_length}
use Rattle.generated_name.proofs.child_name.Held.{take_less}
use Rattle.lift_tables.specs.tables.Numbers.{plus}
use Rattle.lift_tables.specs.tables.Rows.{with_param}
use Rattle.lift_tables.proofs.tables.Params.{Same, param_before, param_length, param_own}
use Rattle.lift_combinator.specs.declared.frames.Frame.{Frame}
use Rattle.lift_combinator.proofs.frames.Ends.{combinator_end_lem}
use Rattle.lift_combinator.specs.done.Done.{passed, are_fields, binding, bind_by, bound_after, delivered, closed_of, order_of}
use Rattle.lift_tables.specs.declared.enter_lift.Counts.{Counts}
use Rattle.lift_tables.specs.enter_lift.Bound.{Sized}
use Rattle.lift_tables.specs.enter_lift.Sheet.{Sheet, sheet_of}
use Rattle.lift_combinator.specs.naming.Walk.{Extent}
use Rattle.lift_combinator.specs.naming.Nodes.{Node, go_on, Wait, deliver, run}
use Rattle.lift_combinator.specs.naming.Frames.{Closing, Passing}
use Rattle.lift_combinator.proofs.naming.Machine.{steps_back, steps_last}
use Rattle.expand_combinator.specs.open_child.Good.{Good}
use Rattle.expand_combinator.specs.body.Walks.{Ends}
use Rattle.expand_combinator.specs.open_child.Steps.{Sound, weight, Refuses, Opened}
use Rattle.std.specs.Prelude.{Err}
use Rattle.what_comes_back.specs.declared.Code.{Code}
use Rattle.expand_combinator.specs.waiters.Waiters.{no_frame, waiter}
use Rattle.expand_combinator.proofs.open_child.Named.{Reached}
use Rattle.expand_combinator.proofs.open_child.Children.{size_least, levels_some}
use Rattle.expand_combinator.proofs.body.Stack.{frame_kept, Waits, Stack, stack_kept, stack_more, after, waiting, set_below, waiting_more, lifting_more, waiting_less, lifting_less, Going, closed_size, order-length, closed_is}

-- ---- a Const field is passed
pass_sound : {s path binders : List ℕ} {k : ℕ} {f : Frame ℕ} {n : Node} {e : ℕ} → Sound s f → Passing s path binders k f n e → Sound s (passed f e)
unfolding passed plus
pass_sound x p = record {
  least = omega (arith, x.least);
  call = x.call;
  own = x.own;
  child = omega (arith, x.child, p.ahead);
  ends = x.ends;
  place_most = x.place_most;
  last_most = x.last_most;
  left_most = omega (arith, x.left_most);
  done_most = omega arith;
  link_most = x.link_most;
  call_most = x.call_most;
}

pub less_pass : {s path binders : List ℕ} {k : ℕ} {f : Frame ℕ} {n : Node} {e : ℕ} → Passing s path binders k f n e → weight s (passed f e) < weight s f
unfolding passed weight
less_pass p = omega (arith, p.ahead, p.frame.ends)

module _ {s path binders bound uses spare made places ways hints rows params number order : List ℕ} {frames : List (Frame ℕ)} {f : Frame ℕ} {d : ℕ} {w : Counts} {n : ℕ} {whole : Res Sheet Extent}
    (g : Going s path binders bound uses spare made places ways hints rows params number order frames f d w n whole) where
  pub goes_pass : {e : ℕ} → Passing s path binders (63 - d) f g.node e → Going s path binders bound uses spare made places ways hints rows params number order frames (passed f e) d w n whole
  unfolding passed
  goes_pass p = record {
    node = p.next;
    waits = g.waits;
    top = p.frame;
    stack = g.stack;
    same = sym (p.same g.waits (sheet_of s made places rows params (take n order) w)) ∙ g.same;
    good = g.good;
    scratch = g.scratch;
    path_long = g.path_long;
    binders_long = g.binders_long;
    frames_long = g.frames_long;
    sized = g.sized;
    sound = pass_sound g.sound p;
    deep = g.deep;
    open-lifts = g.open-lifts;
  }

-- ---- a child is opened
stack_push : (s path binders : List ℕ) (frames : List (Frame ℕ)) (f : Frame ℕ) (d place last len bound : ℕ) (w : Wait) (ws : List Wait) → d < length frames → Waits s path binders (63 - d) f place last len bound w
    → Stack s path binders (set frames d f) d f.place f.last f.len f.bound ws → Stack s path binders (set frames d f) (d + 1) place last len bound (w ∷ ws)
unfolding Stack
stack_push s path binders frames f d place last len bound w ws h x y =
    let a : d + 1 - 1 ≡ d = omega arith in
    let b : 64 - (d + 1) ≡ 63 - d = omega arith in
    rw (a, b, get_or-set_same frames d f no_frame h) (omega arith, x, y)

module _ {s path binders bound uses spare made places ways hints rows params number order : List ℕ} {frames : List (Frame ℕ)} {f : Frame ℕ} {d : ℕ} {w : Counts} {n : ℕ} {whole : Res Sheet Extent}
    (g : Going s path binders bound uses spare made places ways hints rows params number order frames f d w n whole) {path₁ : List ℕ} {at len : ℕ} (r : Reached s (63 - d) f g.node path₁ at len) where
  pub child_deep : d < 63
  child_deep = omega (arith, r.opening.deep, levels_some r.opening.child)

  pub child-levels : levels r.opening.child ≤ 63 - (d + 1) + 1
  child-levels = omega (arith, r.opening.deep, levels_some r.opening.child)

  pub child_few : 4 * f.bound ≤ at
  child_few = omega (arith, g.top.few, r.opening.behind)

  module _ {path₂ : List ℕ} {u : Sheet} {h : Frame ℕ} {v : Counts}
      (o : Opened s path₂ binders (63 - (d + 1)) at len f.bound r.opening.child g.node r.opening.wait (sheet_of s made places rows params (take n order) w) u w.lifts h v) where
    pub goes_open : {bound' uses' spare' made' places' ways' hints' rows' params' number' : List ℕ} → u ≡ sheet_of s made' places' rows' params' (take n order) v → Good s made' places' ways' hints' rows' params' number' order v n → length path₁ ≡ length path → length path₂ ≡ length path → take f.len path₁ ≡ take f.len path → take len path₂ ≡ take len path₁
        → length bound' ≡ length bound → length uses' ≡ length uses → length spare' ≡ length spare
        → Going s path₂ binders bound' uses' spare' made' places' ways' hints' rows' params' number' order (set frames d f) h (d + 1) v n whole
    goes_open eu good l₁ l₂ k₁ k₂ lb lu ls =
        let few = child_deep in
        let room : d < length frames = omega (arith, g.frames_long) in
        let kept : take f.len path₂ ≡ take f.len path = take_less path₁ path₂ f.len len r.longer k₂ ∙ k₁ in
        record {
          node = o.node;
          waits = r.opening.wait ∷ g.waits;
          top = o.frame;
          stack = stack_push s path₂ binders frames f d h.place h.last h.len h.bound r.opening.wait g.waits room
              (rw (o.place, o.bound) (record {
                node = g.node;
                base = r.base;
                frame = frame_kept l₂ g.top kept (λ i q. refl);
                opening = r.opening;
                wait = refl;
                ends = o.last;
                sound = g.sound;
                shorter = omega (arith, r.longer, o.longer);
                fewer = omega arith;
              }))
              (stack_kept s path binders path₂ binders frames (set frames d f) d f.place f.last f.len f.bound g.waits l₂ kept (λ i q. refl) (set_below frames d f) g.stack);
          same = rw (← eu) (sym (o.same g.waits) ∙ g.same);
          good = good;
          scratch = let x = g.scratch in record { small = x.small; labels = omega (arith, x.labels); uses_long = omega (arith, x.uses_long); spare_long = omega (arith, x.spare_long) };
          path_long = l₂ ∙ g.path_long;
          binders_long = g.binders_long;
          frames_long = length-set frames d f ∙ g.frames_long;
          sized = rw o.bound g.sized;
          sound = o.sound;
          deep = omega arith;
          open-lifts = omega (arith, g.open-lifts, o.counted, lifting_more frames d f room);
        }

    less_chain : f.chained ≡ true → weight s h + after f h.last < weight s f
    unfolding weight after
    less_chain e =
        let st = r.opening.stands in
        let q = combinator_end_lem {s = s} (omega (arith, g.good.tables.source)) r.opening.child 64 st.after (omega (arith, r.opening.deep)) (omega arith) st.is in
        let z = o.light in
        rw (e, ← (r.chain e)) (omega (arith, q))

    less_child : f.chained ≡ false → weight s h + after f h.last < weight s f
    unfolding weight after delivered
    less_child e =
        let y = (rw e at (r.opening.back path binders g.top g.binders_long (record { whole = 0; inner = 0 }) (omega arith))).ends in
        let z = o.light in
        rw e (omega (arith, o.last, r.opening.behind, y))

    pub less_open : weight s h + waiting (set frames d f) (d + 1) h.last < weight s f + waiting frames d f.last
    less_open =
        let few = child_deep in
        let m = waiting_more frames d f (omega (arith, g.frames_long)) h.last in
        let l = by_test f.chained less_chain less_child in
        omega arith

  pub ends_refused : {x : Code} (sheet : Counts → ℕ → Sheet) (right : Counts → ℕ → Type 0) → Refuses (run g.node g.waits (sheet_of s made places rows params (take n order) w)) x → Ends whole (Err x) sheet right
  unfolding Ends
  ends_refused sheet right y = rw (sym g.same ∙ y.is) y.tells

-- ---- a node is done, and the one that waits for it goes on
record Keeps (p q : Frame ℕ) : Type 0 where
  place : q.place ≡ p.place
  last : q.last ≡ p.last
  len : q.len ≡ p.len
  own : q.own ≡ p.own
  bound : p.bound ≤ q.bound

bound_on : (s : List ℕ) (p : Frame ℕ) → p.bound ≤ bound_after s p
unfolding bound_after
bound_on s p = by_test (binding s p) (λ (e : binding s p ≡ true). rw e (omega arith)) (λ (e : binding s p ≡ false). rw e (omega arith))

delivered_keeps : (p : Frame ℕ) (at e whole b : ℕ) → p.bound ≤ b → Keeps p (delivered p at e whole b)
unfolding delivered
delivered_keeps p at e whole b h = by_test p.chained
    (λ (q : p.chained ≡ true). rw q (record { place = refl; last = refl; len = refl; own = refl; bound = omega arith }))
    (λ (q : p.chained ≡ false). rw q (record { place = refl; last = refl; len = refl; own = refl; bound = h }))

delivered-weight : (s : List ℕ) (p : Frame ℕ) (at e whole b : ℕ) → weight s (delivered p at e whole b) ≡ after p e
unfolding delivered weight after
delivered-weight s p at e whole b = by_test p.chained
    (λ (q : p.chained ≡ true). rw q (omega arith))
    (λ (q : p.chained ≡ false). rw q (omega arith))

delivered_sound : (s : List ℕ) (p : Frame ℕ) (at e whole b : ℕ) → Sound s p → p.here ≤ at → at < e → 3 ≤ whole → whole ≤ 65535 → Sound s (delivered p at e whole b)
unfolding delivered plus
delivered_sound s p at e whole b x h l k m = by_test p.chained
    (λ (q : p.chained ≡ true). rw q (record {
      least = x.least;
      call = x.call;
      own = x.own;
      child = x.child;
      ends = x.ends;
      place_most = x.place_most;
      last_most = x.last_most;
      left_most = x.left_most;
      done_most = x.done_most;
      link_most = m;
      call_most = x.call_most;
    }))
    (λ (q : p.chained ≡ false). rw q (record {
      least = omega arith;
      call = x.call;
      own = x.own;
      child = omega (arith, x.child);
      ends = x.ends;
      place_most = x.place_most;
      last_most = x.last_most;
      left_most = omega (arith, x.left_most);
      done_most = omega arith;
      link_most = x.link_most;
      call_most = x.call_most;
    }))

-- the binders then
bind_length : (s : List ℕ) (p : Frame ℕ) (at inner : ℕ) (binders : List ℕ) → length (bind_by s p at inner binders) ≡ length binders
unfolding bind_by
bind_length s p at inner binders = by_test (binding s p)
    (λ (e : binding s p ≡ true). rw e (param_length binders p.bound (min (past_at s p.here 1) 65535) (min at 65535) 0 (min inner 65535)))
    (λ (e : binding s p ≡ false). rw e refl)

bind_before : (s : List ℕ) (p : Frame ℕ) (at inner : ℕ) (binders : List ℕ) → Same (4 * p.bound) (bind_by s p at inner binders) binders
unfolding bind_by
bind_before s p at inner binders i h = by_test (binding s p)
    (λ (e : binding s p ≡ true). rw e (param_before binders p.bound (min (past_at s p.here 1) 65535) (min at 65535) 0 (min inner 65535) i h))
    (λ (e : binding s p ≡ false). rw e refl)

sized_more : (binders : List ℕ) (b name at own size : ℕ) → Sized binders b → 4 * (b + 1) ≤ length binders → 3 ≤ size → Sized (with_param binders b name at own size) (b + 1)
sized_more binders b name at own size x room h j l = ⊎_elim
    (λ (e : j ≡ b). rw (e, param_own binders b name at own size room) h)
    (λ (m : j < b). rw (param_before binders b name at own size (4 * j + 3) (omega arith)) (x j m))
    (eq-or-lt_of_le {n = j} {m = b} (omega arith))

delivered_sized : (s : List ℕ) (p : Frame ℕ) (at e whole inner : ℕ) (binders : List ℕ) → Sized binders p.bound → 4 * (p.bound + 1) ≤ length binders → 3 ≤ inner
    → Sized (bind_by s p at inner binders) (delivered p at e whole (bound_after s p)).bound
unfolding delivered bind_by bound_after binding
delivered_sized s p at e whole inner binders x room h = by_test p.chained
    (λ (q : p.chained ≡ true). rw q x)
    (λ (q : p.chained ≡ false). rw q (of (pick (are_fields p.kind) (eqb (byte_at s p.here) 2) false)))
  where
    of : (b : Bool) → Sized (pick b (with_param binders p.bound (min (past_at s p.here 1) 65535) (min at 65535) 0 (min inner 65535)) binders) (pick b (p.bound + 1) p.bound)
    of true = sized_more binders p.bound (min (past_at s p.here 1) 65535) (min at 65535) 0 (min inner 65535) x room (omega arith)
    of false = x

module _ {s path binders bound uses spare made places ways hints rows params number order : List ℕ} {frames : List (Frame ℕ)} {f : Frame ℕ} {d : ℕ} {w : Counts} {n : ℕ} {whole : Res Sheet Extent}
    (g : Going s path binders bound uses spare made places ways hints rows params number order frames f d w n whole) where
  abbrev z : Extent
  z = record { whole = (closed_of f n).whole; inner = (closed_of f n).inner }

  abbrev sheet : Sheet
  sheet = sheet_of s made places rows params (take (closed_of f n).finished (order_of f order n)) w

  pub good_closed : Good s made places ways hints rows params number (order_of f order n) w (closed_of f n).finished
  good_closed = record {
    tables = g.good.tables;
    number_long = g.good.number_long;
    numbered = g.good.numbered;
    order_long = omega (arith, g.good.order_long, order-length f order n);
    finished = omega (arith, (closed_size s f n g.sound).4, g.open-lifts);
  }

  closes : Closing f g.node → go_on g.node (sheet_of s made places rows params (take n order) w) ≡ ok z sheet
  closes c =
      let t = g.good.tables in
      c.closes (sheet_of s made places rows params (take n order) w)
      ∙ closed_is s made places rows params order w f n g.node.own g.top.own g.sound.own (omega (arith, g.open-lifts, t.few.0, t.defns_most, g.good.order_long))

  last_by : (ws : List Wait) → Closing f g.node → d ≡ 0 → Stack s path binders frames d f.place f.last f.len f.bound ws → run g.node ws (sheet_of s made places rows params (take n order) w) ≡ whole → ok z sheet ≡ whole
  unfolding Stack
  last_by [] c e x h = sym (steps_last g.node (sheet_of s made places rows params (take n order) w) (closes c)) ∙ h
  last_by (y ∷ ws) c e x h = let q = x.0 in absurd (omega arith)

  pub ends_last : Closing f g.node → d ≡ 0 → ok z sheet ≡ whole
  ends_last c e = last_by g.waits c e g.stack g.same

  abbrev p : Frame ℕ
  p = waiter frames d

  abbrev q : Frame ℕ
  q = delivered p f.place f.last (closed_of f n).whole (bound_after s p)

  back_by : (ws : List Wait) → Closing f g.node → 0 < d → Stack s path binders frames d f.place f.last f.len f.bound ws → run g.node ws (sheet_of s made places rows params (take n order) w) ≡ whole
      → Going s path (bind_by s p f.place (closed_of f n).inner binders) bound uses spare made places ways hints rows params number (order_of f order n) frames q (d - 1) w (closed_of f n).finished whole
  unfolding Stack size
  back_by [] c e x h = absurd (omega arith)
  back_by (y ∷ ws) c e x h =
      let v = x.1 in
      let k = closed_size s f n g.sound in
      let a : 64 - d ≡ 63 - (d - 1) = omega (arith, g.deep) in
      let m = delivered_keeps p f.place f.last (closed_of f n).whole (bound_after s p) (bound_on s p) in
      let st = v.opening.stands.is in
      let sz = size_least v.opening.child in
      let long = adds (w_combinator v.opening.child) (s_comb v.opening.child) v.opening.stands.after in
      let room : 4 * (p.bound + 1) ≤ length binders = omega (arith, v.frame.few, v.opening.behind, here_length st, g.binders_long) in
      let same-before = bind_before s p f.place (closed_of f n).inner binders in
      record {
        node = deliver y z;
        waits = ws;
        top = rw (a, ← v.ends, v.wait) at (v.opening.back path binders v.frame g.binders_long z k.1);
        stack = rw (m.place, m.last, m.len) (stack_more s path (bind_by s p f.place (closed_of f n).inner binders) frames (d - 1) p.place p.last p.len p.bound q.bound ws m.bound
            (stack_kept s path binders path (bind_by s p f.place (closed_of f n).inner binders) frames frames (d - 1) p.place p.last p.len p.bound ws refl refl same-before (λ i l. refl) x.2));
        same = sym (steps_back g.node (sheet_of s made places rows params (take n order) w) (closes c) y ws) ∙ h;
        good = good_closed;
        scratch = g.scratch;
        path_long = g.path_long;
        binders_long = omega (arith, g.binders_long, bind_length s p f.place (closed_of f n).inner binders);
        frames_long = g.frames_long;
        sized = delivered_sized s p f.place f.last (closed_of f n).whole (closed_of f n).inner binders (λ j l. g.sized j (omega (arith, v.fewer))) room k.0;
        sound = delivered_sound s p f.place f.last (closed_of f n).whole (bound_after s p) v.sound v.opening.behind (omega (arith, v.ends)) k.2 k.3;
        deep = omega (arith, g.deep);
        open-lifts = omega (arith, g.open-lifts, k.4, lifting_less frames d e, m.own);
      }

  pub goes_back : Closing f g.node → 0 < d
      → Going s path (bind_by s p f.place (closed_of f n).inner binders) bound uses spare made places ways hints rows params number (order_of f order n) frames q (d - 1) w (closed_of f n).finished whole
  goes_back c e = back_by g.waits c e g.stack g.same

  pub less_back : 0 < d → weight s q + waiting frames (d - 1) q.last < weight s f + waiting frames d f.last
  unfolding weight
  less_back e =
      let m = delivered_keeps p f.place f.last (closed_of f n).whole (bound_after s p) (bound_on s p) in
      let v = delivered-weight s p f.place f.last (closed_of f n).whole (bound_after s p) in
      let u = waiting_less frames d f.last e in
      rw m.last (omega arith)
