-- The loop over a body: for every tree that may stand there and every name that the path may hold.
-- Assumes nothing.
use mathlib.Core.Path.{◌≡◌, refl, sym, ◌∙◌}
use mathlib.Core.Logic.{⊎_elim}
use mathlib.Core.List.{List, [], ◌∷◌, ◌++◌}
use Prim.Native.Nat.{ℕ, ◌+◌, ◌-◌, ◌≤◌, ◌<◌}
use native.Mathlib.Omega.{arith}
use lib.ListN.{length, take, set, length-append}
use lib.Seq.{take_all, take-append-le}
use Rattle.definition.specs.Tree.{Name, Combinator}
use Rattle.definition.specs.Size.{levels}
use Rattle.buffer.proofs.writes.Put.{within}
use Rattle.generated_name.specs.child_name.Name.{Held}
use Rattle.walker.specs.ends.Ends.{inner_end_of, Right}
use Rattle.lift_combinator.specs.declared.frames.Frame.{Frame}
use Rattle.lift_combinator.specs.frames.Frames.{combinator_past_of, Stands, Standing, frame_at, Narrow}
use Rattle.lift_combinator.proofs.frames.Ends.{end_past}
use Rattle.lift_combinator.specs.declared.children.Step.{Step}
use Rattle.lift_combinator.specs.declared.children.Step.TheVariants as step
use Rattle.lift_combinator.specs.children.Next.{next_of}
use Rattle.lift_combinator.specs.children.Steps.{StepAt}
use Rattle.lift_combinator.specs.declared.done.Closed.{Closed}
use Rattle.lift_combinator.specs.done.Done.{passed, bind_by, bound_after, delivered, closed_of, order_of}
use Rattle.lift_tables.specs.tables.Parts.{order_in, rows_in_of, params_in, made_in, Parts}
use Rattle.lift_tables.specs.declared.enter_lift.Counts.{Counts}
use Rattle.lift_tables.specs.enter_lift.Bound.{bound_from, Sized}
use Rattle.lift_tables.specs.enter_lift.Sheet.{sheet_of, Tables}
use Rattle.lift_tables.proofs.enter_lift.Entered.{cut_length}
use Rattle.lift_combinator.specs.naming.Walk.{walk}
use Rattle.lift_combinator.specs.naming.Nodes.{walked, node_of, Wait}
use Rattle.lift_combinator.specs.naming.Frames.{OwnIs, Closing, Passing}
use Rattle.lift_combinator.specs.naming.Lifts.{Scratch}
use Rattle.lift_combinator.proofs.naming.Machine.{run_root}
use Rattle.lift_combinator.proofs.naming.Opened.{frame_opens}
use Rattle.expand_combinator.specs.open_child.Good.{Good}
use Rattle.expand_combinator.specs.body.Walks.{Ready, Ends, Walks}
use Rattle.expand_combinator.specs.open_child.Steps.{weight, Opened, ChildIs, Comes}
use Rattle.std.specs.Prelude.{Result, Ok, Err}
use Rattle.what_comes_back.specs.declared.Code.{Code}
use Rattle.expand_combinator.specs.waiters.Waiters.{waiter}
use Rattle.expand_combinator.specs.declared.open_child.Child.{Child}
use Rattle.expand_combinator.proofs.open_child.Named.{Reached, StepIs, step_is}
use Rattle.expand_combinator.proofs.open_child.Children.{whole_of, frame_sound}
use Rattle.expand_combinator.proofs.body.Stack.{Stack, waiting, lifting, Going}
use Rattle.expand_combinator.proofs.body.Turns.{less_pass, goes_pass, child-levels, child_few, goes_open, less_open, ends_refused, good_closed, ends_last, goes_back, less_back}

-- a tree that stands there, and a name that the path holds
pub record Root (s : List ℕ) (at : ℕ) (path : List ℕ) (len : ℕ) : Type 0 where
  pub tree : Combinator
  pub name : Name
  pub stands : Stands s at tree
  pub deep : levels tree ≤ 64
  pub held : Held path len name

record Holds (path : List ℕ) (len : ℕ) : Type 0 where
  name : Name
  held : Held path len name

holds : (path : List ℕ) (len : ℕ) → length path ≡ 255 → len ≤ 256 → Holds path len
holds path len l h = ⊎_elim short long (within len 255)
  where
    short : len ≤ 255 → Holds path len
    short k =
        let e : length (take len path) ≡ len = cut_length path len (omega arith) in
        record { name = take len path; held = record { place = omega arith; bytes = sym (take_all (length path) (take len path) (omega arith)) } }

    long : 255 < len → Holds path len
    long k =
        let e = length-append path (0 ∷ []) in
        record { name = path ++ (0 ∷ []); held = record { place = omega arith; bytes = take_all len path (omega arith) ∙ sym (take-append-le (length path) path (0 ∷ []) (omega arith) ∙ take_all (length path) path (omega arith)) } }

pub record Round (s : List ℕ) (at : ℕ) (path₀ : List ℕ) (len : ℕ) (binders₀ : List ℕ) (b : ℕ) (made₀ places₀ rows₀ params₀ order₀ : List ℕ) (w₀ : Counts) (n₀ : ℕ)
    (path binders bound uses spare made places ways hints rows params number order : List ℕ) (frames : List (Frame ℕ)) (f : Frame ℕ) (d : ℕ) (w : Counts) (n : ℕ) : Type 0 where
  pub root : Root s at path₀ len
  pub goes : (x : Root s at path₀ len) → Going s path binders bound uses spare made places ways hints rows params number order frames f d w n
      (walk x.tree at x.name (bound_from s binders₀ 0 b) (sheet_of s made₀ places₀ rows₀ params₀ (take n₀ order₀) w₀))

-- what is left to walk
abbrev pub left : List ℕ → List (Frame ℕ) → Frame ℕ → ℕ → ℕ
left s frames f d = weight s f + waiting frames d f.last

-- ---- the start
module _ {s : List ℕ} {at : ℕ} {path : List ℕ} {len : ℕ} {binders : List ℕ} {b : ℕ} {bound uses spare made places ways hints rows params number order : List ℕ} {w : Counts} {n : ℕ} where
  pub round_start : {frames : List (Frame ℕ)} {f : Frame ℕ} {end last : ℕ} → end ≡ inner_end_of s at → last ≡ combinator_past_of s end → len ≤ 256 → Good s made places ways hints rows params number order w n → Ready s at path binders b bound uses spare → f ≡ frame_at s at last len b 0 0 → length frames ≡ 64
      → Round s at path len binders b made places rows params order w n path binders bound uses spare made places ways hints rows params number order frames f 0 w n
  unfolding frame_at OwnIs Stack lifting
  round_start {last = last} ee el h good r ef l = rw ef (record {
    root = let y = holds path len r.path_long h in record { tree = r.stands.what; name = y.name; stands = r.stands.stands; deep = r.stands.deep; held = y.held };
    goes = λ x.
        let c = x.tree in
        let e = x.stands in
        let small = good.tables.source in
        record {
          node = node_of c at x.name (bound_from s binders 0 b) walked;
          waits = [];
          top = frame_opens (omega arith) c e.after 63 at last len b 0 0 x.name (bound_from s binders 0 b) walked e.is (omega (arith, x.deep)) (omega arith) x.held refl refl r.few;
          stack = refl;
          same = run_root c at x.name (bound_from s binders 0 b) (sheet_of s made places rows params (take n order) w);
          good = good;
          scratch = r.scratch;
          path_long = r.path_long;
          binders_long = r.binders_long;
          frames_long = l;
          sized = r.sized;
          sound = frame_sound small c e.after last len b 0 0 x.deep e.is (whole_of c small e x.deep (end_past s at ee el)).ends (omega arith) (λ k. absurd (omega arith)) (omega arith);
          deep = omega arith;
          open-lifts = omega (arith, good.finished);
        };
  })

module _ {s : List ℕ} {at : ℕ} {path₀ : List ℕ} {len : ℕ} {binders₀ : List ℕ} {b : ℕ} {made₀ places₀ rows₀ params₀ order₀ : List ℕ} {w₀ : Counts} {n₀ : ℕ}
    {path binders bound uses spare made places ways hints rows params number order : List ℕ} {frames : List (Frame ℕ)} {f : Frame ℕ} {d : ℕ} {w : Counts} {n : ℕ}
    (R : Round s at path₀ len binders₀ b made₀ places₀ rows₀ params₀ order₀ w₀ n₀ path binders bound uses spare made places ways hints rows params number order frames f d w n) where
  source : length s ≤ 16384
  source = (R.goes R.root).good.tables.source

  pub round_deep : d ≤ 63
  round_deep = (R.goes R.root).deep

  pub pass_safe : f.child ≤ 65536
  pass_safe = let g = R.goes R.root in omega (arith, source, g.sound.child, g.sound.ends, g.top.ends)

  pub close_safe : n ≤ 65536
  close_safe = let g = R.goes R.root in let t = g.good.tables in omega (arith, g.good.finished, t.few.0, t.defns_most)

  resume_by : (ws : List Wait) → 0 < d → Stack s path binders frames d f.place f.last f.len f.bound ws → ((waiter frames d).bound ≤ 65535) × ((waiter frames d).child ≤ 65536)
  unfolding Stack
  resume_by [] h x = absurd (omega arith)
  resume_by (y ∷ ws) h x = let v = x.1 in let e = v.sound in let z = v.frame.ends in (omega (arith, v.frame.few, e.ends, source), omega (arith, e.child, e.ends, source))

  pub resume_safe : {p : Frame ℕ} → p ≡ waiter frames d → 0 < d → (p.bound ≤ 65535) × (p.child ≤ 65536)
  resume_safe e h = let g = R.goes R.root in rw e (resume_by g.waits h g.stack)

  pub away_safe : Narrow f
  away_safe =
      let g = R.goes R.root in
      let x = g.sound in
      let h : f.here ≤ 65535 = omega (arith, source, x.ends, g.top.ends) in
      record {
        place = omega (arith, source, x.place_most);
        last = omega (arith, source, x.last_most);
        here = h;
        end = omega (arith, source, x.ends);
        left = x.left_most;
        child = omega (arith, x.child);
        len = omega (arith, g.top.name.place, g.path_long);
        bound = omega (arith, g.top.few);
        done = x.done_most;
        link = x.link_most;
        own = omega (arith, x.own);
        call = omega (arith, x.call_most);
      }

  module _ (path' : List ℕ) {r : Step} (st : StepAt s f path path' (next_of s f) r) where
    -- ---- a Const field
    pass_path : {e : ℕ} → r ≡ step.Pass e → path' ≡ path
    unfolding StepIs
    pass_path q = (rw q at (step_is s f path path' r st)).0

    passing : {e : ℕ} → r ≡ step.Pass e → (x : Root s at path₀ len) → Passing s path binders (63 - d) f (R.goes x).node e
    unfolding StepIs
    passing q x = (rw q at (step_is s f path path' r st)).1 binders (63 - d) (R.goes x).node source (R.goes x).top

    pub round_pass : {e : ℕ} {h : Frame ℕ} → r ≡ step.Pass e → h ≡ passed f e
        → Round s at path₀ len binders₀ b made₀ places₀ rows₀ params₀ order₀ w₀ n₀ path' binders bound uses spare made places ways hints rows params number order frames h d w n
    round_pass q eh = rw (pass_path q, eh) (record { root = R.root; goes = λ x. goes_pass (R.goes x) (passing q x) })

    pub round_less_pass : {e : ℕ} {h : Frame ℕ} → r ≡ step.Pass e → h ≡ passed f e → left s frames h d < left s frames f d
    unfolding passed
    round_less_pass q eh = rw eh (omega (arith, less_pass (passing q R.root)))

    -- ---- the end of a node
    module _ (q : r ≡ step.Done) {z : Closed} {sheet : List ℕ} (ez : z ≡ closed_of f n) (es : Parts sheet (order_of f order n) rows params made) where
      done_path : path' ≡ path
      unfolding StepIs
      done_path = (rw q at (step_is s f path path' r st)).0

      closing : (x : Root s at path₀ len) → Closing f (R.goes x).node
      unfolding StepIs
      closing x = (rw q at (step_is s f path path' r st)).1 binders (63 - d) (R.goes x).node source (R.goes x).top

      pub walks_last : d ≡ 0 → Walks s at path₀ len binders₀ b made₀ places₀ rows₀ params₀ order₀ w₀ n₀ (made_in sheet) places ways hints (rows_in_of sheet) (params_in sheet) number (order_in sheet) (Ok (record { counts = w; finished = z.finished }))
      unfolding Ends
      walks_last e = rw (ez, es.order, es.rows, es.params, es.made) (record {
        walks = λ c name st deep held.
            let x : Root s at path₀ len = record { tree = c; name = name; stands = st; deep = deep; held = held } in
            rw (← (ends_last (R.goes x) (closing x) e)) (refl, good_closed (R.goes x));
      })

      module _ (some : 0 < d) {p h : Frame ℕ} {binders' : List ℕ} (ep : p ≡ waiter frames d) (eh : h ≡ delivered p f.place f.last z.whole (bound_after s p)) (eb : binders' ≡ bind_by s p f.place z.inner binders) where
        pub round_back : Round s at path₀ len binders₀ b made₀ places₀ rows₀ params₀ order₀ w₀ n₀ path' binders' bound uses spare (made_in sheet) places ways hints (rows_in_of sheet) (params_in sheet) number (order_in sheet) frames h (d - 1) w z.finished
        round_back = rw (done_path, eb, es.order, es.rows, es.params, es.made, eh, ep, ez) (record { root = R.root; goes = λ x. goes_back (R.goes x) (closing x) some })

        pub round_less_back : left s frames h (d - 1) < left s frames f d
        round_less_back = rw (eh, ep, ez) (less_back (R.goes R.root) some)

    -- ---- a child
    module _ {place l : ℕ} (q : r ≡ step.Child place l) (long : length path' ≡ length path) where
      reached : (x : Root s at path₀ len) → Reached s (63 - d) f (R.goes x).node path' place l
      unfolding StepIs
      reached x = (rw q at (step_is s f path path' r st)).reaches binders (63 - d) (R.goes x).node source (R.goes x).top

      step_kept : take f.len path' ≡ take f.len path
      unfolding StepIs
      step_kept = (rw q at (step_is s f path path' r st)).kept

      pub open-safe : {ends : List ℕ} → Right s ends → Tables s made places ways hints rows params w × Standing s place × Scratch s bound uses spare × (length path' ≡ 255) × (f.bound ≤ 65536) × Sized binders f.bound × Right s ends
      open-safe right =
          let g = R.goes R.root in
          let o = (reached R.root).opening in (
            g.good.tables,
            record { what = o.child; stands = o.stands; deep = omega (arith, o.deep) },
            g.scratch,
            long ∙ g.path_long,
            omega (arith, g.top.few, o.behind, o.stands.is.reach, source),
            g.sized,
            right,
          )

      module _ {path₂ made' places' ways' hints' rows' params' number' : List ℕ} {t : Result Child Code} (come : Comes s place path' l binders f.bound made places ways hints rows params number w path₂ made' places' ways' hints' rows' params' number' t) where
        child_is : (x : Root s at path₀ len) → ChildIs s path₂ binders (63 - (d + 1)) place l f.bound (reached x).opening.child (R.goes x).node (reached x).opening.wait (sheet_of s made places rows params (take n order) w) w.lifts
            (λ v. sheet_of s made' places' rows' params' (take n order) v) (λ v. Good s made' places' ways' hints' rows' params' number' order v n) t
        child_is x =
            let g = R.goes x in
            let y = reached x in
            come.comes y.opening.child y.base (63 - (d + 1)) g.node y.opening.wait order n y.opening.stands (child-levels g y) (omega arith) y.held y.opening.opens g.top.env (child_few g y) g.good

        pub walks_refused : {e : Code} → t ≡ Err e → {order' : List ℕ} → order' ≡ order → Walks s at path₀ len binders₀ b made₀ places₀ rows₀ params₀ order₀ w₀ n₀ made' places' ways' hints' rows' params' number' order' (Err e)
        unfolding ChildIs
        walks_refused et eo = rw eo (record {
          walks = λ c name st deep held.
              let x : Root s at path₀ len = record { tree = c; name = name; stands = st; deep = deep; held = held } in
              ends_refused (R.goes x) (reached x) _ _ ((rw et at (child_is x)) (R.goes x).waits);
        })

        module _ {h : Frame ℕ} {v : Counts} (et : t ≡ Ok (record { frame = h; counts = v })) where
          opened : (x : Root s at path₀ len) → Opened s path₂ binders (63 - (d + 1)) place l f.bound (reached x).opening.child (R.goes x).node (reached x).opening.wait (sheet_of s made places rows params (take n order) w) (sheet_of s made' places' rows' params' (take n order) v) w.lifts h v
          unfolding ChildIs
          opened x = (rw et at (child_is x)).0

          good_opened : (x : Root s at path₀ len) → Good s made' places' ways' hints' rows' params' number' order v n
          unfolding ChildIs
          good_opened x = (rw et at (child_is x)).1

          pub round_open : {order' : List ℕ} → order' ≡ order → {frames' : List (Frame ℕ)} → frames' ≡ set frames d f → {bound' uses' spare' : List ℕ} → length path₂ ≡ length path' → length bound' ≡ length bound → length uses' ≡ length uses → length spare' ≡ length spare
              → Round s at path₀ len binders₀ b made₀ places₀ rows₀ params₀ order₀ w₀ n₀ path₂ binders bound' uses' spare' made' places' ways' hints' rows' params' number' order' frames' h (d + 1) v n
          round_open eo ef l₂ lb lu ls = rw (eo, ef) (record { root = R.root; goes = λ x. goes_open (R.goes x) (reached x) (opened x) refl (good_opened x) long (l₂ ∙ long) step_kept come.kept lb lu ls })

          pub round_less_open : {frames' : List (Frame ℕ)} → frames' ≡ set frames d f → left s frames' h (d + 1) < left s frames f d
          round_less_open ef = rw ef (less_open (R.goes R.root) (reached R.root) (opened R.root))
