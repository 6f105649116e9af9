-- What the test says of the trees that stand in the bytes.
use Rattle.std.specs.Prelude.{◌≡◌, List, Bool, ◌&&◌, ℕ}
use Rattle.definition.specs.Tree.{Name, Combinator, Definition}
use Rattle.definition.specs.Names.{elem}
use Rattle.definition.specs.Write.{w_book}
use Rattle.definition.specs.Bodies.{every_invocation, chains_ok}
use Rattle.definition.specs.Premise.{calls_known, chains_plain}
use Rattle.laws.specs.Book.{IsBook}

-- a body's calls are of these names, and its chains stand on Bytes or Tail
unfoldable pub passes : List Name → Combinator → Bool
passes ns c = chains_ok c && every_invocation c (λ x. elem x ns)

-- "yes exactly when .. every Invocation in a format body, macro arguments aside, names a kind 1 or 2 definition, and every chain there stands on Bytes or Tail"
pub record Holds (s : List ℕ) (r : Bool) : Type 0 where
  pub says : (ds : List Definition) → s ≡ w_book ds → IsBook ds → r ≡ calls_known ds && chains_plain ds
