-- The next call among the pieces that are left, and writes that may be refused.
-- Assumes nothing.
use mathlib.Core.Path.{◌≡◌, refl, sym, ap, ◌∙◌}
use mathlib.Core.List.{List, [], ◌∷◌, ◌++◌, append_assoc}
use Prim.Native.Nat.{ℕ, suc, ◌+◌, ◌≤◌}
use native.Mathlib.Omega.{arith}
use lib.ListN.{length, length-append}
use Rattle.definition.specs.Out.{Out, refused, done}
use Rattle.definition.specs.Tree.{Inner, invocation, macro_invocation}
use Rattle.definition.specs.Write.{w_inner}
use Rattle.definition.specs.Size.{levels, levels_i}
use Rattle.definition.specs.Macros.{Macro, expand, expand_i}
use Rattle.layout.specs.items.Here.{Here}
use Rattle.buffer.specs.writes.Buf.{after, part, Wrote}
use Rattle.buffer.proofs.writes.Put.{part_none, part_split, put_past}
use Rattle.buffer.proofs.writes.Wrote.{glue, place_is, same_length}
use Rattle.walker.specs.pieces.Pieces.{Piece, raw, call, macro_call, places, written, rewritten, expanded}
use Rattle.laws.proofs.Splits.{s_inner}
use Rattle.walker.proofs.pieces.Expanded.{onto}
use Rattle.expand_macros.specs.in_combinator.Deep.{DeepP}
use Rattle.expand_macros.specs.replace_call.Call.{Puts}
use Rattle.expand_macros.specs.in_combinator.Expand.{IsCall, a_call, a_macro, front}
use Rattle.substitute.proofs.substitution.Stands.{step_here}
use Rattle.walker.proofs.pieces.Marked.{part_here}

pub front_none : (t : Out (List ℕ)) → front [] t ≡ t
front_none (refused k) = refl
front_none (done r) = refl

pub front-front : (b c : List ℕ) (t : Out (List ℕ)) → front b (front c t) ≡ front (b ++ c) t
front-front b c (refused k) = refl
front-front b c (done r) = ap done (sym (append_assoc b c r))

-- the next call: its place and its end are the next two marks
pub record Next (ms : List Macro) (s : List ℕ) (m₁ m₂ : ℕ) (marks : List ℕ) (x : ℕ) (ps : List Piece) (z : List ℕ) : Type 0 where
  pub met : Inner
  pub rest : List Piece
  pub is_call : IsCall met
  pub here : Here s (m₁) (w_inner met (written invocation rest z))
  pub end : m₂ ≡ m₁ + length (w_inner met [])
  pub behind : x ≤ m₁
  pub are : marks ≡ places (m₂) rest
  pub ends : x + length (written invocation ps []) ≡ m₂ + length (written invocation rest [])
  pub deep : levels_i met ≤ 64
  pub deeps : DeepP rest
  pub says : expanded ms ps [] ≡ front (part x (m₁) s) (onto w_inner (expand_i met ms) (expanded ms rest []))

module _ (ms : List Macro) (s : List ℕ) (m₁ m₂ : ℕ) (marks : List ℕ) (z : List ℕ) where
  -- a call that comes first
  first : (j : Inner) → IsCall j → (p : Piece) (ps : List Piece) (x : ℕ) → levels_i j ≤ 64 → DeepP ps → Here s x (w_inner j (written invocation ps z))
      → m₁ ∷ m₂ ∷ marks ≡ x ∷ (x + length (w_inner j [])) ∷ places (x + length (w_inner j [])) ps → written invocation (p ∷ ps) [] ≡ w_inner j (written invocation ps [])
      → expanded ms (p ∷ ps) [] ≡ onto w_inner (expand_i j ms) (expanded ms ps []) → Next ms s m₁ m₂ marks x (p ∷ ps) z
  first j ic p ps x dj dp h m w e =
      let e₁ : m₁ ≡ x = cc in
      let e₂ : m₂ ≡ x + length (w_inner j []) = cc in
      let e₃ : marks ≡ places (x + length (w_inner j [])) ps = cc in
      record {
        met = j;
        rest = ps;
        is_call = ic;
        here = rw e₁ h;
        end = rw (e₁, e₂);
        behind = omega arith;
        are = rw (e₂, e₃);
        ends = rw (w, e₂, s_inner j [] (written invocation ps []), length-append) (omega arith);
        deep = dj;
        deeps = dp;
        says = e ∙ rw (e₁, part_none x s) (sym (front_none (onto w_inner (expand_i j ms) (expanded ms ps []))));
      }

  pub next_of : (ps : List Piece) (x : ℕ) → Here s x (written invocation ps z) → m₁ ∷ m₂ ∷ marks ≡ places x ps → DeepP ps → Next ms s m₁ m₂ marks x ps z
  unfolding places written rewritten expand levels
  next_of [] x h e dp = absurd (omega (arith, ap length e))
  next_of (raw b ∷ ps) x h e dp =
      let n = next_of ps (x + length b) (step_here b h) e dp in
      let q : x + length b ≤ m₁ = n.behind in
      let pt : part x (m₁) s ≡ b ++ part (x + length b) (m₁) s =
      part_split x (x + length b) (m₁) s (omega arith) q ∙ ap (λ (l : List ℕ). l ++ part (x + length b) (m₁) s) (part_here b (written invocation ps z) h) in
      record {
        met = n.met;
        rest = n.rest;
        is_call = n.is_call;
        here = n.here;
        end = n.end;
        behind = omega arith;
        are = n.are;
        ends = rw length-append (omega (arith, n.ends));
        deep = n.deep;
        deeps = n.deeps;
        says = ap (front b) n.says ∙ front-front b (part (x + length b) (m₁) s) (onto w_inner (expand_i n.met ms) (expanded ms n.rest [])) ∙ rw pt;
      }
  next_of (call n a ∷ ps) x h e dp = first (invocation n a) a_call (call n a) ps x (omega arith) dp h e refl refl
  next_of (macro_call n a ∷ ps) x h e dp = first (macro_invocation n a) a_macro (macro_call n a) ps x dp.0 dp.1 h e refl refl

-- a place past the end stays there
pub puts_stays : (d d' : List ℕ) (o r : ℕ) → o ≡ suc (length d) → (t : Out (List ℕ)) → Puts d o t d' r → r ≡ suc (length d)
puts_stays d d' o r e (refused k) p = p
puts_stays d d' o r e (done l) p = omega (arith, place_is p)

pub puts_over : (d : List ℕ) (o : ℕ) → o ≡ suc (length d) → (t : Out (List ℕ)) → Puts d o t d o
unfolding after
puts_over d o e (refused k) = e
puts_over d o e (done l) = record { place = omega arith; holds = sym (put_past d o l (omega arith)) }

-- a place after is at most one past the end
pub puts_most : (d d' : List ℕ) (o r : ℕ) (t : Out (List ℕ)) → Puts d o t d' r → r ≤ suc (length d)
puts_most d d' o r (refused k) p = omega arith
puts_most d d' o r (done l) p = omega (arith, place_is p)

pub puts_front : {d d₁ : List ℕ} {o q : ℕ} {b : List ℕ} → Wrote d o b d₁ q → (d' : List ℕ) (r : ℕ) (t : Out (List ℕ)) → Puts d₁ q t d' r → Puts d o (front b t) d' r
puts_front w d' r (refused k) p = p ∙ ap suc (same_length w)
puts_front w d' r (done l) p = glue w p
