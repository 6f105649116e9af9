-- Substitution by position: the bytes between calls are copied, and in the place of each Invocation of the parameter's name goes the argument.
-- It mirrors the code; that it is the definition's substitution is shown in proofs/Subst.antt.
use Rattle.std.specs.Prelude.{List, [], ◌∷◌, ◌++◌, Bool, false, ℕ, eqb}
use Rattle.definition.specs.Tree.{Name}
use Rattle.definition.specs.Names.{eq_name}
use Rattle.layout.specs.items.At.{byte_at, past_at, pick}
use Rattle.layout.specs.lookup.Name.{name_at}
use Rattle.buffer.specs.writes.Buf.{part}

-- rule 4: "an Invocation whose name is the parameter"
unfoldable pub calls_name_of : List ℕ → ℕ → Name → Bool
calls_name_of s at n = pick (eqb (byte_at s at) 15) (eq_name (name_at s (past_at s at 1)) n) false

-- what stands in s from `at` up to `to`, with the bytes a for each call of p. The marks are the place and the end of each call from `at` on
unfoldable pub substituted : List ℕ → Name → List ℕ → ℕ → List ℕ → ℕ → List ℕ
substituted s p a to [] at = part at to s
substituted s p a to (x ∷ []) at = part at to s
substituted s p a to (x ∷ e ∷ marks) at =
    pick (calls_name_of s x p) (part at x s ++ (a ++ substituted s p a to marks e)) (substituted s p a to marks at)
