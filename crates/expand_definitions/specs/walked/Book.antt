-- The naming pass over a whole book, on trees. Document 01, "Lifting rules": "Definitions in order", "Taken at the start: all kind 1 and 2 names".
-- It is crate lifting's `trace_book` with rows for records and sizes for trees.
use Rattle.std.specs.Prelude.{true, List, [], ◌∷◌, ℕ, ◌+◌, min, length}
use Rattle.definition.specs.Res.{Res, ok, ◌>>=◌}
use Rattle.definition.specs.Tree.{Param, Definition, format, constant, byte_order, macro}
use Rattle.definition.specs.Write.{w_name, w_param, size_of}
use Rattle.definition.specs.Size.{size_book}
use Rattle.definition.specs.Lift.{names}
use Rattle.laws.proofs.Sizes.{size_i, head}
use Rattle.lifting.specs.After.{first_at}
use Rattle.lifting.specs.Trace.{params_at}
use Rattle.lift_tables.specs.enter_lift.Bound.{Bound}
use Rattle.lift_tables.specs.enter_lift.Sheet.{Sheet}
use Rattle.lift_combinator.specs.naming.Walk.{walk}

-- the definition's own parameters as binders; the first parameter begins at p
unfoldable pub own_bound : List Param → ℕ → List Bound
own_bound [] p = []
own_bound (x ∷ ps) p =
    record { name = x.name; type = record { own = true; at = p + length (w_name x.name []) }; size = min (size_i x.type) 65535 }
    ∷ own_bound ps (p + length (w_param x []))

unfoldable pub walk_all : List Definition → ℕ → Sheet → Res Sheet Unit
walk_all [] p t = ok tt t
walk_all (format n ps c ∷ ds) p t = do
  (z, t) ← walk c (p + head n ps) n (own_bound ps (params_at p n)) t
  walk_all ds (p + size_of (format n ps c)) t
walk_all (constant n x ∷ ds) p t = walk_all ds (p + size_of (constant n x)) t
walk_all (byte_order x ∷ ds) p t = walk_all ds (p + size_of (byte_order x)) t
walk_all (macro n ps c ∷ ds) p t = walk_all ds (p + size_of (macro n ps c)) t

unfoldable pub blank : List Definition → Sheet
blank ds = record { taken = names ds; rows = []; finished = []; bytes = size_book ds; defns = length ds }

unfoldable pub walk_book : List Definition → Res Sheet Unit
walk_book ds = walk_all ds (first_at ds) (blank ds)
