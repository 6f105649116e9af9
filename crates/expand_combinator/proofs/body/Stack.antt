-- The nodes that wait, by their frames, and one turn of the loop.
-- Assumes nothing.
use mathlib.Core.Path.{◌≡◌, refl, ap, ◌∙◌}
use mathlib.Core.Bool.{true, false}
use mathlib.Core.List.{List, [], ◌∷◌, ◌++◌}
use Prim.Native.Nat.{ℕ, zero, suc, ◌+◌, ◌-◌, ◌*◌, ◌≤◌, ◌<◌, min}
use native.Mathlib.Omega.{arith}
use native.Mathlib.Numerals.{add-one}
use lib.Dec.{eqb}
use lib.ListN.{length, take, get_or, set, length-set}
use lib.Seq.{get_or-set_same, get_or-set_other}
use borrow.Author.Tests.{eq-eqb, ne_eqb, eqb-true, eqb-false}
use Rattle.definition.specs.Res.{Res, ok}
use Rattle.definition.specs.Tree.{Name}
use Rattle.definition.specs.Size.{size}
use Rattle.laws.proofs.Tests.{by_test}
use Rattle.layout.specs.items.At.{pick}
use Rattle.buffer.proofs.writes.Put.{put_first, take_written}
use Rattle.generated_name.proofs.child_name.Held.{held_back, take_less}
use Rattle.lift_tables.specs.tables.Numbers.{plus}
use Rattle.lift_tables.proofs.tables.Params.{Same}
use Rattle.lift_combinator.specs.declared.frames.Frame.{Frame}
use Rattle.lift_combinator.specs.done.Done.{closed_of, order_of}
use Rattle.lift_tables.specs.declared.enter_lift.Counts.{Counts}
use Rattle.lift_tables.specs.enter_lift.Bound.{Sized}
use Rattle.lift_tables.specs.enter_lift.Sheet.{Sheet, sheet_of}
use Rattle.lift_combinator.specs.naming.Walk.{Extent, finish}
use Rattle.lift_combinator.specs.naming.Nodes.{Own, walked, lifted, Node, close, Wait, run}
use Rattle.lift_combinator.specs.naming.Frames.{OwnIs, FrameIs, Opening}
use Rattle.lift_combinator.specs.naming.Lifts.{Scratch}
use Rattle.lift_combinator.proofs.naming.Bound.{bound_kept}
use Rattle.expand_combinator.specs.open_child.Good.{Good}
use Rattle.expand_combinator.specs.open_child.Steps.{Sound}
use Rattle.expand_combinator.specs.waiters.Waiters.{no_frame}

-- ---- a frame where path and binders change behind it
module _ {s path binders path' binders' : List ℕ} (long : length path' ≡ length path) where
  pub frame_kept : {k : ℕ} {f : Frame ℕ} {n : Node} → FrameIs s path binders k f n → take f.len path' ≡ take f.len path → Same (4 * f.bound) binders' binders → FrameIs s path' binders' k f n
  frame_kept {k} {f} {n} g p b = record {
    after = g.after;
    rest = g.rest;
    ends = g.ends;
    here = g.here;
    done = g.done;
    link = g.link;
    name = held_back g.name long p;
    env = bound_kept s binders' binders 0 f.bound (λ i h. b i (omega arith)) ∙ g.env;
    own = g.own;
    few = g.few;
    deep = g.deep;
    deep_link = g.deep_link;
  }

-- ---- the nodes that wait
-- a frame that waits for the node from `place` up to `last`, whose frame has `len` bytes of the path and `bound` binders
pub record Waits (s path binders : List ℕ) (k : ℕ) (f : Frame ℕ) (place last len bound : ℕ) (w : Wait) : Type 0 where
  pub node : Node
  pub base : Name
  pub frame : FrameIs s path binders k f node
  pub opening : Opening s k f node place base
  pub wait : opening.wait ≡ w
  pub ends : last ≡ place + size opening.child
  pub sound : Sound s f
  pub shorter : f.len ≤ len
  pub fewer : f.bound ≤ bound

unfoldable pub Stack : List ℕ → List ℕ → List ℕ → List (Frame ℕ) → ℕ → ℕ → ℕ → ℕ → ℕ → List Wait → Type 0
Stack s path binders frames d place last len bound [] = d ≡ 0
Stack s path binders frames d place last len bound (w ∷ ws) =
    let f = get_or frames (d - 1) no_frame in
    (0 < d) × Waits s path binders (64 - d) f place last len bound w × Stack s path binders frames (d - 1) f.place f.last f.len f.bound ws

abbrev Below : ℕ → List (Frame ℕ) → List (Frame ℕ) → Type 0
Below d a b = (i : ℕ) → i < d → get_or a i no_frame ≡ get_or b i no_frame

waits_kept : {s path binders path' binders' : List ℕ} {k : ℕ} {f : Frame ℕ} {place last len bound : ℕ} {w : Wait} → length path' ≡ length path → take len path' ≡ take len path → Same (4 * bound) binders' binders
    → Waits s path binders k f place last len bound w → Waits s path' binders' k f place last len bound w
waits_kept {path = path} {path' = path'} {f = f} {len = len} long p b x =
    let l = x.shorter in
    let m = x.fewer in
    record {
      node = x.node;
      base = x.base;
      frame = frame_kept long x.frame (take_less path path' f.len len l p) (λ i h. b i (omega arith));
      opening = x.opening;
      wait = x.wait;
      ends = x.ends;
      sound = x.sound;
      shorter = x.shorter;
      fewer = x.fewer;
    }

-- they stay as they are where path, binders and frames change behind them
pub stack_kept : (s path binders path' binders' : List ℕ) (frames frames' : List (Frame ℕ)) (d place last len bound : ℕ) (ws : List Wait) → length path' ≡ length path → take len path' ≡ take len path → Same (4 * bound) binders' binders → Below d frames' frames
    → Stack s path binders frames d place last len bound ws → Stack s path' binders' frames' d place last len bound ws
unfolding Stack
stack_kept s path binders path' binders' frames frames' d place last len bound [] long p b o x = x
stack_kept s path binders path' binders' frames frames' d place last len bound (w ∷ ws) long p b o x =
    let f = get_or frames (d - 1) no_frame in
    let some = x.0 in
    let l = x.1.shorter in
    let m = x.1.fewer in
    rw (o (d - 1) (omega arith)) (
      x.0,
      waits_kept long p b x.1,
      stack_kept s path binders path' binders' frames frames' (d - 1) f.place f.last f.len f.bound ws long (take_less path path' f.len len l p) (λ i h. b i (omega arith)) (λ i h. o i (omega arith)) x.2,
    )

-- more binders above them
pub stack_more : (s path binders : List ℕ) (frames : List (Frame ℕ)) (d place last len bound bound' : ℕ) (ws : List Wait) → bound ≤ bound' → Stack s path binders frames d place last len bound ws → Stack s path binders frames d place last len bound' ws
unfolding Stack
stack_more s path binders frames d place last len bound bound' [] h x = x
stack_more s path binders frames d place last len bound bound' (w ∷ ws) h x =
    let y = x.1 in
    let m = y.fewer in
    (x.0, record { node = y.node; base = y.base; frame = y.frame; opening = y.opening; wait = y.wait; ends = y.ends; sound = y.sound; shorter = y.shorter; fewer = omega arith }, x.2)

-- ---- numbers of the frames that wait: what is left to walk when their child is done, and how many are lifts
unfoldable pub after : Frame ℕ → ℕ → ℕ
after f last = 3 * (f.end - pick f.chained f.here last) + 1

unfoldable pub waiting : List (Frame ℕ) → ℕ → ℕ → ℕ
waiting frames zero last = 0
waiting frames (suc d) last = let f = get_or frames d no_frame in after f last + waiting frames d f.last

unfoldable pub lifting : List (Frame ℕ) → ℕ → ℕ
lifting frames zero = 0
lifting frames (suc d) = min (get_or frames d no_frame).own 1 + lifting frames d

waiting_below : (a b : List (Frame ℕ)) (d last : ℕ) → Below d a b → waiting a d last ≡ waiting b d last
unfolding waiting
waiting_below a b zero last h = refl
waiting_below a b (suc d) last h = rw (h d (omega arith), waiting_below a b d (get_or b d no_frame).last (λ i l. h i (omega arith)))

lifting_below : (a b : List (Frame ℕ)) (d : ℕ) → Below d a b → lifting a d ≡ lifting b d
unfolding lifting
lifting_below a b zero h = refl
lifting_below a b (suc d) h = rw (h d (omega arith), lifting_below a b d (λ i l. h i (omega arith)))

module _ (frames : List (Frame ℕ)) (d : ℕ) (f : Frame ℕ) where
  pub set_below : Below d (set frames d f) frames
  set_below i h = get_or-set_other frames d i f no_frame (λ (e : i ≡ d). absurd (omega arith))

  module _ (h : d < length frames) where
    pub waiting_more : (last : ℕ) → waiting (set frames d f) (d + 1) last ≡ after f last + waiting frames d f.last
    unfolding waiting
    waiting_more last = rw (add-one d, get_or-set_same frames d f no_frame h, waiting_below (set frames d f) frames d f.last set_below)

    pub lifting_more : lifting (set frames d f) (d + 1) ≡ min f.own 1 + lifting frames d
    unfolding lifting
    lifting_more = rw (add-one d, get_or-set_same frames d f no_frame h, lifting_below (set frames d f) frames d set_below)

pub waiting_less : (frames : List (Frame ℕ)) (d last : ℕ) → 0 < d → waiting frames d last ≡ after (get_or frames (d - 1) no_frame) last + waiting frames (d - 1) (get_or frames (d - 1) no_frame).last
unfolding waiting
waiting_less frames zero last h = absurd (omega arith)
waiting_less frames (suc d) last h = let e : suc d - 1 ≡ d = omega arith in rw e

pub lifting_less : (frames : List (Frame ℕ)) (d : ℕ) → 0 < d → lifting frames d ≡ min (get_or frames (d - 1) no_frame).own 1 + lifting frames (d - 1)
unfolding lifting
lifting_less frames zero h = absurd (omega arith)
lifting_less frames (suc d) h = let e : suc d - 1 ≡ d = omega arith in rw e

-- ---- the loop: `whole` is what the pass over the body answers
pub record Going (s path binders bound uses spare made places ways hints rows params number order : List ℕ) (frames : List (Frame ℕ)) (f : Frame ℕ) (d : ℕ) (w : Counts) (n : ℕ) (whole : Res Sheet Extent) : Type 0 where
  pub node : Node
  pub waits : List Wait
  pub top : FrameIs s path binders (63 - d) f node
  pub stack : Stack s path binders frames d f.place f.last f.len f.bound waits
  pub same : run node waits (sheet_of s made places rows params (take n order) w) ≡ whole
  pub good : Good s made places ways hints rows params number order w n
  pub scratch : Scratch s bound uses spare
  pub path_long : length path ≡ 255
  pub binders_long : length s ≤ length binders
  pub frames_long : length frames ≡ 64
  pub sized : Sized binders f.bound
  pub sound : Sound s f
  pub deep : d ≤ 63
  pub open-lifts : n + lifting frames d + min f.own 1 ≤ w.lifts

-- ---- numbers of the end of a node
pub closed_size : (s : List ℕ) (f : Frame ℕ) (n : ℕ) → Sound s f → (3 ≤ (closed_of f n).inner) × ((closed_of f n).inner ≤ 65535) × (3 ≤ (closed_of f n).whole) × ((closed_of f n).whole ≤ 65535) × ((closed_of f n).finished ≡ n + min f.own 1)
unfolding closed_of plus
closed_size s f n x = by_test (eqb f.own 0)
    (λ (e : eqb f.own 0 ≡ true). let z = eqb-true f.own 0 e in let l = x.least in rw e (omega arith, omega arith, omega arith, omega arith, omega arith))
    (λ (e : eqb f.own 0 ≡ false). let z = some f.own (eqb-false f.own 0 e) in let l = x.call z in let m = x.call_most in rw e (omega arith, omega arith, omega arith, omega arith, omega arith))
  where
    some : (a : ℕ) → (a ≡ 0 → ⊥) → 0 < a
    some zero h = absurd (h refl)
    some (suc a) h = omega arith

pub order-length : (f : Frame ℕ) (order : List ℕ) (n : ℕ) → length (order_of f order n) ≡ length order
unfolding order_of
order-length f order n = by_test (eqb f.own 0) (λ (e : eqb f.own 0 ≡ true). rw e refl) (λ (e : eqb f.own 0 ≡ false). rw e (length-set order n (min (f.own - 1) 65535)))

take_snoc : (l : List ℕ) (n x : ℕ) → n < length l → take (n + 1) (set l n x) ≡ take n l ++ (x ∷ [])
take_snoc l n x h = ap (take (n + 1)) (put_first l n x h) ∙ take_written l n (x ∷ []) (omega arith)

-- what a node that closes gives, and what is finished then
pub closed_is : (s made places rows params order : List ℕ) (w : Counts) (f : Frame ℕ) (n : ℕ) (o : Own) → OwnIs f.own f.call o → f.own ≤ 512 → n + min f.own 1 ≤ length order
    → close o (plus f.done (f.end - f.here)) f.link (sheet_of s made places rows params (take n order) w)
    ≡ ok (record { whole = (closed_of f n).whole; inner = (closed_of f n).inner }) (sheet_of s made places rows params (take (closed_of f n).finished (order_of f order n)) w)
unfolding close closed_of order_of OwnIs finish sheet_of
closed_is s made places rows params order w f n walked e few room = rw (eq-eqb f.own 0 e) refl
closed_is s made places rows params order w f n (lifted i call) e few room =
    let z : eqb f.own 0 ≡ false = ne_eqb f.own 0 (λ (q : f.own ≡ 0). absurd (omega (arith, e.0))) in
    let m : min (f.own - 1) 65535 ≡ i = omega (arith, e.0) in
    rw (z, m, take_snoc order n i (omega (arith, e.0)), e.1) refl
