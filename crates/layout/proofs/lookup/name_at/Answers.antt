use Rattle.std.proofs.Common.{◌≡◌, sym, get_or, ◌+◌, ◌-◌, length, take, drop, length-drop, arith, rules}
use Rattle.std.proofs.lemmas.List.{take_min}
use Rattle.std.proofs.Math.Seq.{take_all}
use Rattle.layout.specs.lookup.Name.{name_at}
use Rattle.layout.proofs.lookup.Names.{name_none}
use Rattle.layout.proofs.lookup.name_at.Goals as goal

pub returns-in-Some : goal.returns-in-Some
unfolding name_at
returns-in-Some c =
    let s = c.args.s.now in
    let at = c.args.at in
    let whole : take (length s - (at + 1)) (drop (at + 1) s) ≡ drop (at + 1) s = take_all _ _ (rw length-drop (omega arith)) in
    let n : c.in-Some.field-0.now ≡ get_or s at 0 = c.in-Some.ensures.lookup.4 (omega arith) 0 in
    rw (c.min.ensures, whole, n, take_min)

pub returns-in-None : goal.returns-in-None
returns-in-None c = sym (name_none _ _ (search rules))
