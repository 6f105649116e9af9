-- What the walk over a combinator's bytes tells of its tree.
use Rattle.std.specs.Prelude.{List, [], ◌&&◌, ◌≡◌, ℕ, ◌+◌, ◌-◌, min, length}
use Rattle.definition.specs.Tree.{Combinator, Inner}
use Rattle.definition.specs.Write.{w_inner}
use Rattle.definition.specs.Size.{size, levels, levels_i}
use Rattle.definition.specs.Bodies.{chains_ok}
use Rattle.layout.specs.items.Here.{Here}
use Rattle.buffer.specs.writes.Buf.{put, Wrote}
use Rattle.walker.specs.declared.walk.Walk.{Walk}
use Rattle.walker.specs.pieces.Pieces.{pieces, places}

-- w walked over c with k levels left, the marks were m; now it is g, the marks are l, and the bytes z follow
pub record Walked (s : List ℕ) (c : Combinator) (k : ℕ) (z : List ℕ) (w : Walk) (m : List ℕ) (g : Walk) (l : List ℕ) : Type 0 where
  pub place : g.at ≡ w.at + size c
  pub rest : Here s g.at z
  pub deep : g.left ≡ min w.left (k - levels c)
  pub chains : g.plain ≡ w.plain && chains_ok c
  pub count : g.n ≡ w.n + length (places w.at (pieces c []))
  pub marks : l ≡ put m w.n (places w.at (pieces c []))

-- the same with a row of any length: what has no room is not recorded, and the count is then one past the row's end
pub record Gone (s : List ℕ) (c : Combinator) (k : ℕ) (z : List ℕ) (w : Walk) (m : List ℕ) (g : Walk) (l : List ℕ) : Type 0 where
  pub place : g.at ≡ w.at + size c
  pub rest : Here s g.at z
  pub deep : g.left ≡ min w.left (k - levels c)
  pub chains : g.plain ≡ w.plain && chains_ok c
  pub wrote : Wrote m w.n (places w.at (pieces c [])) l g.n

-- the same over an inner with nothing recorded
pub record Skipped (s : List ℕ) (i : Inner) (k : ℕ) (z : List ℕ) (w : Walk) (m : List ℕ) (g : Walk) (l : List ℕ) : Type 0 where
  pub place : g.at ≡ w.at + length (w_inner i [])
  pub rest : Here s g.at z
  pub deep : g.left ≡ min w.left (k - levels_i i)
  pub chains : g.plain ≡ w.plain
  pub count : g.n ≡ w.n
  pub marks : l ≡ m
