-- A macro and its call before the first turn, and the inner of the instance.
-- Assumes nothing.
use mathlib.Core.Path.{◌≡◌, refl, sym, ap, ◌∙◌}
use mathlib.Core.Logic.{⊎_elim}
use mathlib.Core.List.{List, [], ◌∷◌}
use mathlib.Core.Bool.{Bool, true, false}
use Rattle.std.specs.Prelude.{Option, Some, None, is_some, MatchOption}
use Prim.Native.Nat.{ℕ, suc, ◌+◌, ◌≤◌, ◌<◌, min}
use native.Mathlib.Omega.{arith}
use lib.Dec.{leb}
use lib.ListN.{length}
use borrow.Author.Tests.{le-leb, lt-leb, leb-true, leb-false}
use Rattle.definition.specs.Code.{macro_growth}
use Rattle.definition.specs.Out.{Out, refused, done, ◌>>=◌, given}
use Rattle.definition.specs.Tree.{Combinator, plain, chained, Inners}
use Rattle.definition.specs.Write.{w_name, w_all, w_inner, w_inners, w_combinator, count_a}
use Rattle.definition.specs.Size.{size, levels, levels_i, levels_a}
use Rattle.definition.specs.Macros.{Macro, instance, inner_of}
use Rattle.layout.specs.items.At.{past_at, number_at, name_past_of, names_past_of}
use Rattle.layout.specs.items.Here.{Here}
use Rattle.laws.proofs.Steps.{no_done}
use Rattle.layout.proofs.lookup.Names.{yes_no, not_both}
use Rattle.buffer.specs.writes.Buf.{put, part, Wrote}
use Rattle.buffer.proofs.writes.Put.{length-put}
use Rattle.buffer.proofs.writes.Wrote.{place_is}
use Rattle.buffer.specs.areas.First.{first}
use Rattle.buffer.proofs.areas.First.{first_long, first-put}
use Rattle.walker.specs.declared.walk.Walk.{Walk}
use Rattle.walker.specs.walk.Steps.{walk}
use Rattle.walker.specs.calls.Walk.{combinator_at, skip_at}
use Rattle.walker.specs.pieces.Pieces.{pieces, places}
use Rattle.laws.proofs.Splits.{s_comb}
use Rattle.walker.proofs.calls.Link.{gone, skipped}
use Rattle.walker.proofs.pieces.Marked.{part_here}
use Rattle.substitute.specs.declared.substitution.Turn.{Turn}
use Rattle.substitute.specs.substitution.Turned.{Areas, Holds, marks_of}
use Rattle.substitute.specs.instance.Instance.{instance_by, Made, Instanced}
use Rattle.substitute.specs.instance.Paired.{Paired}
use Rattle.expand_macros.specs.replace_call.Call.{Puts, Begun, Opened, instance_in, Makes, Called}
use Rattle.substitute.proofs.substitution.Stands.{inner_here}
use Rattle.walker.proofs.pieces.Room.{size_here, room_enough}
use Rattle.substitute.proofs.substitution.Turns.{long_size, over_made, holds}
use Rattle.substitute.proofs.instance.Making.{instance_long, instance_given}
use Rattle.substitute.proofs.instance.Pairing.{params_at, body_at, args_at}

-- the bytes of a combinator
pub part_combinator : {s : List ℕ} {p : ℕ} (c : Combinator) (z : List ℕ) → Here s p (w_combinator c z) → part p (p + size c) s ≡ w_combinator c []
unfolding size
part_combinator c z h = part_here (w_combinator c []) z (rw (s_comb c [] z) at h)

-- a count that stops one past the row's end tells whether all has room
told : (n k x : ℕ) → n ≡ min (suc k) (0 + x) → leb n k ≡ leb x k
told n k x e = ⊎_elim (λ (h : leb x k ≡ true). rw h (le-leb n k (omega (arith, leb-true x k h)))) (λ (h : leb x k ≡ false). rw h (lt-leb n k (omega (arith, leb-false x k h)))) (yes_no (leb x k))

-- none where the marks have no room for those that the walk counted, else the first turn
abbrev pub Gives : List ℕ → Walk → ℕ → ℕ → Option Turn → Type 0
Gives marks w param arg r = MatchOption r (length marks < w.n) (λ t. (w.n ≤ length marks) × (t.param ≡ param) × (t.arg ≡ arg) × (t.len ≡ w.at) × (t.n ≡ w.n))

module _ {macros book areas marks : List ℕ} {def call p k param body q j arg : ℕ} (ep : p ≡ name_past_of macros def) (ek : k ≡ number_at macros p) (ef : param ≡ past_at macros p 2) (eb : body ≡ names_past_of macros k param)
    (eq : q ≡ past_at book call 1) (ej : j ≡ name_past_of book q) (ea : arg ≡ past_at book j 2)
    (u : Walk) {m₁ : List ℕ} (hu : u ≡ (combinator_at 64 macros (walk body 0 64 true) marks).0) (hm : m₁ ≡ (combinator_at 64 macros (walk body 0 64 true) marks).1)
    {areas₁ : List ℕ} {o : ℕ} (wa : Wrote areas 0 (part body u.at macros) areas₁ o) (w : Walk) {m₂ : List ℕ}
    (hw : w ≡ (combinator_at 129 (first areas₁) (walk 0 0 129 true) m₁).0) (hm₂ : m₂ ≡ (combinator_at 129 (first areas₁) (walk 0 0 129 true) m₁).1) where
  pub opened : (r : Option Turn) → Gives m₂ w param arg r → length m₂ ≡ length marks → Opened macros def book call areas marks areas₁ m₂ r
  opened r e l₂ = record {
    says = λ lm la m d n xs z h.
        let c = m.body in
        let b : Here macros body (w_combinator c d.rest) = rw (eb, ef, ek, ep) (body_at m d) in
        let fits : body + size c ≤ length macros = size_here c d.rest b in
        let v = gone macros (omega arith) c 64 d.deep (walk body 0 64 true) marks d.rest b (omega arith) in
        let l₁ : length m₁ ≡ length marks = ap length (hm ∙ v.wrote.holds) ∙ length-put marks 0 (places body (pieces c [])) in
        let made : areas₁ ≡ put areas 0 (w_combinator c []) = wa.holds ∙ rw (hu, v.place, part_combinator c d.rest b) in
        let ha : first areas₁ ≡ put (first areas) 0 (w_combinator c []) = ap first made ∙ first-put areas (w_combinator c []) (omega (arith, long_size c)) (omega arith) in
        let g = over_made c (omega (arith, d.deep)) (omega arith) (first areas) m₁ (first_long areas la) w ha hw hm₂ in
        let room : leb (marks_of c) (length marks) ≡ leb w.n (length marks) = sym (told w.n (length marks) (marks_of c) (place_is g.wrote ∙ rw l₁)) in
        by_room r e m xs z (w_combinator c d.rest) (rw (ef, ep) (params_at m d)) (rw (ea, ej, eq) (args_at n xs z h))
        (λ k. holds c (omega (arith, d.deep)) (omega arith) (first areas) m₁ (first_long areas la) w ha hw hm₂ d.deep (omega (arith, place_is g.wrote)))
        room;
  }
    where
      by_room : (r : Option Turn) → Gives m₂ w param arg r → (m : Macro) (xs : Inners) (z behind : List ℕ) → Here macros param (w_all w_name m.params behind) → Here book arg (w_inners xs z)
          → (w.n ≤ length marks → Holds (first areas₁) m₂ w.at w.n m.body) → leb (marks_of m.body) (length marks) ≡ leb w.n (length marks) → Begun macros book areas₁ m₂ r m xs z (leb (marks_of m.body) (length marks))
      by_room None k m xs z y hp ha hd room = rw (room ∙ lt-leb w.n (length marks) (omega arith)) refl
      by_room (Some t) k m xs z y hp ha hd room = rw (room ∙ le-leb w.n (length marks) (omega arith)) (record { behind = y; params = rw k.1 hp; args = rw k.2 ha; holds = rw (k.3, k.4) (hd (omega arith)) })

pub inner_deep : (c : Combinator) → suc (levels_i (inner_of c)) ≤ levels c
unfolding inner_of levels
inner_deep (plain i) = omega arith
inner_deep (chained i c) = omega arith

-- the inner at the front of a combinator, and what stands behind it
unfoldable behind_inner : Combinator → List ℕ → List ℕ
behind_inner (plain i) r = 0 ∷ r
behind_inner (chained i c) r = 1 ∷ w_combinator c r

inner_front : (c : Combinator) (r : List ℕ) → w_combinator c r ≡ w_inner (inner_of c) (behind_inner c r)
unfolding behind_inner w_combinator inner_of
inner_front (plain i) r = refl
inner_front (chained i c) r = refl

module _ {macros book areas marks : List ℕ} {def call : ℕ} {areas₁ m₁ : List ℕ} where
  pub makes_none : Opened macros def book call areas marks areas₁ m₁ None → Makes macros def book call areas marks areas₁ m₁ None
  unfolding instance_in
  makes_none op = record { says = λ ar m d nm xs z h dx. go m xs z (leb (marks_of m.body) (length marks)) (op.says ar.macros_short ar.areas_long m d nm xs z h) }
    where
      go : (m : Macro) (xs : Inners) (z : List ℕ) (b : Bool) → Begun macros book areas₁ m₁ None m xs z b → Made (first areas₁) m₁ None (given b macro_growth m.body >>= instance_by (length marks) m.params xs)
      go m xs z true f = absurd f
      go m xs z false f = f

  pub makes_some : {t : Turn} → Opened macros def book call areas marks areas₁ m₁ (Some t) → length areas₁ ≡ length areas → length m₁ ≡ length marks → {n : ℕ} → Paired macros def book call n
      → {areas₂ m₂ : List ℕ} {r : Option Turn} → Instanced macros book areas₁ m₁ t n areas₂ m₂ r → Makes macros def book call areas marks areas₂ m₂ r
  unfolding instance_in
  makes_some {t} op la lm {n} pr {areas₂} {m₂} {r} it = record { says = λ ar m d nm xs z h dx. go ar m xs z dx (pr.says m d nm xs z h) (leb (marks_of m.body) (length marks)) (op.says ar.macros_short ar.areas_long m d nm xs z h) }
    where
      go : Areas macros book areas → (m : Macro) (xs : Inners) (z : List ℕ) → levels_a xs ≤ 64 → n ≡ min (length m.params) (count_a xs) → (b : Bool) → Begun macros book areas₁ m₁ (Some t) m xs z b
          → Made (first areas₂) m₂ r (given b macro_growth m.body >>= instance_by (length marks) m.params xs)
      go ar m xs z dx e true f =
          rw lm at (it.says (record { macros_short = ar.macros_short; book_short = ar.book_short; areas_long = la ∙ ar.areas_long }) m.params xs m.body f.behind z f.params f.args dx e f.holds)
      go ar m xs z dx e false f = not_both true refl f

-- ---- what a row says of the rule itself
in-given : (k : ℕ) (m : Macro) (xs : Inners) (c : Combinator) → instance_in k m xs ≡ done c → instance m.params xs m.body ≡ done c
unfolding instance_in
in-given k m xs c e = go (leb (marks_of m.body) k) e
  where
    go : (b : Bool) → (given b macro_growth m.body >>= instance_by k m.params xs) ≡ done c → instance m.params xs m.body ≡ done c
    go true q = instance_given k m.params xs m.body c q
    go false q = no_done q

in-long : (k : ℕ) → 8192 ≤ k → (m : Macro) (xs : Inners) → size m.body ≤ 16384 → instance_in k m xs ≡ instance m.params xs m.body
unfolding instance_in
in-long k h m xs s = rw (le-leb (marks_of m.body) k (omega (arith, room_enough m.body 0))) (instance_long k h m.params xs m.body)

module _ {macros book areas marks : List ℕ} {def call : ℕ} {areas₂ m₂ : List ℕ} {r : Option Turn} (mk : Makes macros def book call areas marks areas₂ m₂ r) where
  pub called_grown : 8192 ≤ length marks → is_some r ≡ false → {out out' : List ℕ} {o e : ℕ} → e ≡ suc (length out) → Called macros def book call areas out o out' e
  called_grown k g {out} {out'} {o} {e} q = record {
    says = λ ar m d nm xs z h dx.
        let s : size m.body ≤ 16384 = omega (arith, size_here m.body d.rest (body_at m d), ar.macros_short) in
        stop r g (instance m.params xs m.body) (rw (in-long (length marks) k m xs s) at (mk.says ar m d nm xs z h dx));
  }
    where
      stop : (r : Option Turn) → is_some r ≡ false → (v : Out Combinator) → Made (first areas₂) m₂ r v → Puts out o (v >>= λ c. done (w_inner (inner_of c) [])) out' e
      stop r g (refused k) w = q
      stop None g (done d) w = absurd w
      stop (Some t) g (done d) w = not_both true refl g

  pub called_done : is_some r ≡ true → length areas₂ ≡ length areas → {out out' : List ℕ} {o e : ℕ} → Wrote out o (part 0 (skip_at 64 (first areas₂) (walk 0 0 64 true) m₂).0.at (first areas₂)) out' e → Called macros def book call areas out o out' e
  called_done g l {out} {out'} {o} {e} w = record { says = λ ar m d nm xs z h dx. go ar m xs r g (instance_in (length marks) m xs) refl (mk.says ar m d nm xs z h dx) }
    where
      go : Areas macros book areas → (m : Macro) (xs : Inners) (r : Option Turn) → is_some r ≡ true → (v : Out Combinator) → instance_in (length marks) m xs ≡ v → Made (first areas₂) m₂ r v → Puts out o (instance m.params xs m.body >>= λ c. done (w_inner (inner_of c) [])) out' e
      go ar m xs r g (refused k) q v = not_both _ g v
      go ar m xs None g (done c) q v = absurd v
      go ar m xs (Some t) g (done c) q k =
          let h : Here (first areas₂) 0 (w_inner (inner_of c) (behind_inner c k.rest)) = rw (inner_front c k.rest) at k.here in
          let s = skipped (first areas₂) (omega (arith, first_long areas₂ (l ∙ ar.areas_long))) (inner_of c) 64 (omega (arith, inner_deep c, k.deep)) (walk 0 0 64 true) m₂ (behind_inner c k.rest) h in
          let i : part 0 (skip_at 64 (first areas₂) (walk 0 0 64 true) m₂).0.at (first areas₂) ≡ w_inner (inner_of c) [] = rw s.place (part_here (w_inner (inner_of c) []) (behind_inner c k.rest) (inner_here (inner_of c) (behind_inner c k.rest) h)) in
          rw (in-given (length marks) m xs c q) (rw i at w)

-- areas that were written to are as good as before
pub called_after : {macros book areas areas₁ out out' : List ℕ} {def call o e : ℕ} → length areas₁ ≡ length areas → Called macros def book call areas₁ out o out' e → Called macros def book call areas out o out' e
called_after l ca = record { says = λ ar. ca.says (record { macros_short = ar.macros_short; book_short = ar.book_short; areas_long = l ∙ ar.areas_long }) }
