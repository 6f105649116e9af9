-- Where an inner stands, the test of its tag is the definition's `bytes_or_tail`.
-- Assumes nothing.
use mathlib.Core.List.{List}
use mathlib.Core.Path.{◌≡◌}
use Prim.Native.Nat.{ℕ}
use Rattle.definition.specs.Tree.{constraint_int, constraint_enum, bits, enum, tail, nothing, never, wrap, vec, option, array, Inner, leaf, struct, choice, shell, bytes, invocation, macro_invocation}
use Rattle.definition.specs.Write.{leaf_tag, w_open, w_inner}
use Rattle.definition.specs.Collect.{bytes_or_tail, is_tail}
use Rattle.layout.specs.items.At.{byte_at, stands_on_of}
use Rattle.layout.specs.items.Here.{Here}
use Rattle.layout.proofs.items.Here.{byte_here}

pub stands : {s : List ℕ} {p : ℕ} (i : Inner) (z : List ℕ) → Here s p (w_inner i z) → stands_on_of (byte_at s p) ≡ bytes_or_tail i
unfolding stands_on_of bytes_or_tail is_tail w_inner w_open leaf_tag
stands (leaf constraint_int x) z h = rw (byte_here h)
stands (leaf constraint_enum x) z h = rw (byte_here h)
stands (leaf bits x) z h = rw (byte_here h)
stands (leaf enum x) z h = rw (byte_here h)
stands (leaf tail x) z h = rw (byte_here h)
stands (leaf nothing x) z h = rw (byte_here h)
stands (leaf never x) z h = rw (byte_here h)
stands (struct f) z h = rw (byte_here h)
stands (choice x k f) z h = rw (byte_here h)
stands (shell (wrap x y) c) z h = rw (byte_here h)
stands (shell vec c) z h = rw (byte_here h)
stands (shell option c) z h = rw (byte_here h)
stands (shell (array l) c) z h = rw (byte_here h)
stands (bytes l) z h = rw (byte_here h)
stands (invocation n a) z h = rw (byte_here h)
stands (macro_invocation n a) z h = rw (byte_here h)
