-- A walk over some pieces, and such walks one after the other.
-- Assumes nothing.
use mathlib.Core.List.{List, [], ◌∷◌, ◌++◌, append_assoc}
use mathlib.Core.Bool.{Bool, true, ◌&&◌, and-true, and_comm, and_assoc}
use mathlib.Core.Path.{◌≡◌, refl, sym, ap, ◌∙◌}
use Prim.Native.Nat.{ℕ, suc, ◌+◌, ◌-◌, ◌%◌, ◌≤◌, min, max}
use native.Mathlib.Omega.{arith}
use lib.ListN.{length}
use Rattle.definition.specs.Tree.{Inner}
use Rattle.definition.specs.Write.{w_inner}
use Rattle.layout.specs.items.Here.{Here}
use Rattle.layout.proofs.items.Here.{place}
use Rattle.buffer.specs.writes.Buf.{after, Wrote}
use Rattle.buffer.proofs.writes.Wrote.{glue, place_within, wrote_none}
use Rattle.walker.specs.declared.walk.Walk.{Walk}
use Rattle.walker.specs.marks.Steps.{State, pair_of, mark_at}
use Rattle.walker.specs.walk.Steps.{walk, moved, entered}
use Rattle.walker.specs.pieces.Pieces.{Piece, raw, places}
use Rattle.laws.proofs.Splits.{s_inner}

max-sub : (k d d' : ℕ) → min (k - d) (k - d') ≡ k - max d d'
max-sub k d d' = omega arith

min_assoc : (x y z : ℕ) → min (min x y) z ≡ min x (min y z)
min_assoc x y z = omega arith

pub deepest : {l l' : ℕ} (a k d d' : ℕ) → l ≡ min a (k - d) → l' ≡ min l (k - d') → l' ≡ min a (k - max d d')
deepest a k d d' e h = h ∙ rw e (min_assoc a (k - d) (k - d') ∙ ap (min a) (max-sub k d d'))

-- from w and the marks m to g, over the pieces that f puts in front of others: the bytes z stand behind them. With k levels left
-- they go d levels down, and their chains are ok
pub record Over (s : List ℕ) (k : ℕ) (f : List Piece → List Piece) (d : ℕ) (ok : Bool) (z : List ℕ) (w : Walk) (m : List ℕ) (g : State) : Type 0 where
  pub rest : Here s g.0.at z
  pub left : g.0.left ≡ min w.left (k - d)
  pub plain : g.0.plain ≡ w.plain && ok
  pub found : List ℕ
  pub marks : w.n ≤ suc (length m) → Wrote m w.n found g.1 g.0.n
  pub splits : (ps : List Piece) → places w.at (f ps) ≡ found ++ places g.0.at ps

module _ {s : List ℕ} {k : ℕ} where
  -- nothing
  pub stay : {z : List ℕ} {w : Walk} {m : List ℕ} → Here s w.at z → w.left ≤ k → Over s k (λ ps. ps) 0 true z w m (w, m)
  stay {z} {w} {m} h l = record { rest = h; left = omega arith; plain = sym (and-true w.plain); found = []; marks = λ b. wrote_none m w.n b; splits = λ ps. refl }

  module _ {f : List Piece → List Piece} {d : ℕ} {ok : Bool} {z : List ℕ} {w : Walk} {m : List ℕ} {g : State} where
    -- bytes in front
    pub skip : (b : List ℕ) {y : List ℕ} {a : ℕ} → Here s w.at (b ++ y) → Here s a y → Over s k f d ok z (moved w a) m g → Over s k (λ ps. raw b ∷ f ps) d ok z w m g
    unfolding places
    skip b h q o = record { rest = o.rest; left = o.left; plain = o.plain; found = o.found; marks = o.marks; splits = λ ps. rw (← (place b h q)) (o.splits ps) }

    -- and a tag among them
    pub enter : (b : List ℕ) {y : List ℕ} {a : ℕ} → Here s w.at (b ++ y) → Here s a y → Over s k f d ok z (entered w a k) m g → Over s k (λ ps. raw b ∷ f ps) d ok z w m g
    unfolding places
    enter b h q o = record { rest = o.rest; left = omega (arith, o.left); plain = o.plain; found = o.found; marks = o.marks; splits = λ ps. rw (← (place b h q)) (o.splits ps) }

    -- one level up
    pub up : Over s k f d ok z w m g → Over s (suc k) f (suc d) ok z w m g
    up o = record { rest = o.rest; left = omega (arith, o.left); plain = o.plain; found = o.found; marks = o.marks; splits = o.splits }

    -- a chain that stands on what was gone over
    pub chain : (b : Bool) → Over s k f d ok z w m g → Over s k f d (b && ok) z w m (walk g.0.at g.0.n g.0.left (g.0.plain && b), g.1)
    chain b o = record { rest = o.rest; left = o.left; plain = rw o.plain (and_assoc w.plain ok b ∙ ap (λ (x : Bool). w.plain && x) (and_comm ok b)); found = o.found; marks = o.marks; splits = o.splits }

    -- one walk after the other
    pub then : {f' : List Piece → List Piece} {d' : ℕ} {ok' : Bool} {y : List ℕ} {g' : State} → Over s k f d ok z w m g → Over s k f' d' ok' y g.0 g.1 g' → Over s k (λ ps. f (f' ps)) (max d d') (ok && ok') y w m g'
    then {f'} {d'} {ok'} {y} {g'} o q = record {
      rest = q.rest;
      left = deepest w.left k d d' o.left q.left;
      plain = q.plain ∙ rw o.plain (and_assoc w.plain ok ok');
      found = o.found ++ q.found;
      marks = λ b. let u = o.marks b in glue u (q.marks (place_within u));
      splits = λ ps. o.splits (f' ps) ∙ ap (λ (l : List ℕ). o.found ++ l) (q.splits ps) ∙ sym (append_assoc o.found q.found (places g'.0.at ps));
    }

  -- bytes behind
  pub shut : {f : List Piece → List Piece} {d : ℕ} {ok : Bool} {w : Walk} {m : List ℕ} {g : State} (b : List ℕ) {y : List ℕ} {a : ℕ}
      → Over s k f d ok (b ++ y) w m g → Here s a y → Over s k (λ ps. f (raw b ∷ ps)) d ok y w m (moved g.0 a, g.1)
  unfolding places
  shut b o q = record { rest = q; left = o.left; plain = o.plain; found = o.found; marks = o.marks; splits = λ ps. rw (place b o.rest q) (o.splits (raw b ∷ ps)) }

  -- a call
  module _ {w : Walk} (v : Walk) {m z : List ℕ} {d e : ℕ} (i : Inner) (piece : Piece)
      (pair : (p : ℕ) (ps : List Piece) → places p (piece ∷ ps) ≡ p ∷ (p + length (w_inner i [])) ∷ places (p + length (w_inner i [])) ps) where
    pub mark : length s ≤ 65535 → Here s w.at (w_inner i z) → Here s e z → v.n ≡ w.n → v.plain ≡ w.plain → v.left ≡ min w.left (k - d)
        → Over s k (λ ps. piece ∷ ps) d true z w m (mark_at v w.at e m)
    unfolding mark_at after
    mark short h q n pl l =
        let h' : Here s w.at (w_inner i [] ++ z) = rw (← (s_inner i [] z)) h in
        let c : e ≡ w.at + length (w_inner i []) = place (w_inner i []) h' q in
        let a : w.at % 65536 ≡ w.at = omega (arith, h.reach) in
        let b : e % 65536 ≡ e = omega (arith, q.reach) in
        record {
          rest = q;
          left = l;
          plain = pl ∙ sym (and-true w.plain);
          found = pair_of w.at e;
          marks = λ t. rw n (record { place = refl; holds = refl });
          splits = λ ps. pair w.at ps ∙ rw (a, b, c);
        }
