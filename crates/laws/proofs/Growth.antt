-- Each lift adds at least 14 bytes and its name twice.
use mathlib.Core.Path.{◌≡◌, ap}
use mathlib.Core.List.{List, [], ◌∷◌, ◌++◌}
use Prim.Native.Nat.{◌+◌, ◌*◌, ◌≤◌}
use native.Mathlib.Omega.{arith}
use lib.ListN.{length, length-append}
use Rattle.definition.specs.Tree.{Name, Combinator, plain, invocation, Param, Definition, format, constant, byte_order, macro}
use Rattle.definition.specs.Write.{w_u16, w_name, w_list, w_combinator, w_all}
use Rattle.definition.specs.Size.{size}
use Rattle.definition.specs.Names.{sorted}
use Rattle.definition.specs.Collect.{free}
use Rattle.definition.specs.Lift.{full, State, Walk, start}
use Rattle.laws.specs.Laws.{growth, LiftsGrow}
use Rattle.laws.proofs.Steps.{gave}
use Rattle.laws.proofs.Splits.{s_name, s_all}
use Rattle.laws.proofs.Sizes.{adds, head, size-format}
use Rattle.laws.proofs.Lifted.{Lifted}
use Rattle.laws.proofs.States.{Carried, states_all}
use Rattle.laws.proofs.Measure.{measures}

head_least : (n : Name) (ps : List Param) → 3 + length n ≤ head n ps
unfolding head w_name w_list w_u16
head_least n ps = simp length-append (omega arith)

call_least : (n : Name) (ns : List Name) → 5 + length n ≤ size (plain (invocation n ns))
unfolding size w_combinator w_name w_list w_u16
call_least n ns = let a = adds (w_all w_name ns) (s_all w_name s_name ns) (0 ∷ []) in simp length-append (omega arith)

growth_snoc : (ds : List Definition) (n : Name) (ps : List Param) (c : Combinator) → growth (ds ++ (format n ps c ∷ [])) ≡ growth ds + (14 + 2 * length n)
growth_snoc [] n ps c = omega arith
growth_snoc (format m qs d ∷ ds) n ps c = omega (arith, growth_snoc ds n ps c)
growth_snoc (constant m x ∷ ds) n ps c = growth_snoc ds n ps c
growth_snoc (byte_order x ∷ ds) n ps c = growth_snoc ds n ps c
growth_snoc (macro m qs d ∷ ds) n ps c = growth_snoc ds n ps c

abbrev Grown : State → State → Type 0
Grown s t = s.bytes + growth t.made ≤ t.bytes + growth s.made

lift_grown : {c : Combinator} {inside : Walk} {n : Name} {b : List Param} {s : State} {d : Combinator} {t : State} (l : Lifted full c inside n b s d t) → Grown l.first l.last → Grown s t
lift_grown {c = c} {s = s} {d = d} {t = t} l g =
    let a : growth t.made ≡ growth l.last.made + (14 + 2 * length l.name) = rw l.last_made (growth_snoc l.last.made l.name l.params l.body) in
    let f : growth l.first.made ≡ growth s.made = ap growth l.first_made in
    let h : 5 + length l.name ≤ size d = rw l.there (call_least l.name (sorted (free c))) in
    omega (arith, l.first-bytes, l.last-bytes, size-format l.name l.params c, head_least l.name l.params)

grown : Carried full Grown
grown = record { stays = λ s. omega arith; goes_on = λ p q. omega arith; lifts = λ l g. lift_grown l g }

pub lifts_grow : LiftsGrow
unfolding start
lifts_grow ds es t e = let g = gave (states_all full Grown grown ds (start ds)) e in omega (arith, (measures full ds es t e).0)
