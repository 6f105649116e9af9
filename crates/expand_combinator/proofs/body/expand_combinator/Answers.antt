use native.Mathlib.Omega.{arith}
use Rattle.std.proofs.lemmas.Result.{err_from_is_err_and}
use Rattle.lift_combinator.proofs.frames.Ends.{stood, follows}
use Rattle.expand_combinator.proofs.body.Rounds.{round_start, round_deep, pass_safe, close_safe, resume_safe, round_pass, round_less_pass, walks_last, round_back, round_less_back, open-safe, away_safe, walks_refused, round_open, round_less_open}
use Rattle.expand_combinator.proofs.body.expand_combinator.Goals as goal

pub end_of-end-requires : goal.end_of-end-requires
end_of-end-requires c = let p = c.requires in (p.3, stood (omega (arith, p.0.tables.source)) p.1.stands)

pub combinator_past-last-requires : goal.combinator_past-last-requires
combinator_past-last-requires c = let p = c.requires in (p.3, follows (omega (arith, p.0.tables.source)) p.1.stands c.end_of-end.ensures)

pub open_node-f-requires : goal.open_node-f-requires
open_node-f-requires c = c.end_of-end.ensures

pub loop-e-init : goal.loop-e-init
loop-e-init c = rw c.none-waiters.ensures.1 (round_start c.end_of-end.ensures c.combinator_past-last.ensures c.requires.2 c.requires.0 c.requires.1 c.open_node-f.ensures c.none-waiters.ensures.0)

pub pass-f-requires : goal.pass-f-requires
pass-f-requires c = pass_safe c.loop-e.invariant

pub loop-e-smaller-in-Pass : goal.loop-e-smaller-in-Pass
loop-e-smaller-in-Pass c = round_less_pass c.loop-e.invariant _ c.next_step.ensures c.in-Pass.is c.pass-f.ensures

pub loop-e-preserved-in-Pass : goal.loop-e-preserved-in-Pass
loop-e-preserved-in-Pass c = round_pass c.loop-e.invariant _ c.next_step.ensures c.in-Pass.is c.pass-f.ensures

pub close_node-z-requires : goal.close_node-z-requires
close_node-z-requires c = close_safe c.loop-e.invariant

pub pop-requires : goal.pop-requires
pop-requires c = omega (arith, round_deep c.loop-e.invariant)

pub returns-in-None : goal.returns-in-None
returns-in-None c = walks_last c.loop-e.invariant _ c.next_step.ensures c.in-Done.is c.close_node-z.ensures.0 c.close_node-z.ensures.1 c.in-None.ensures.last

pub resume_node-f-requires : goal.resume_node-f-requires
resume_node-f-requires c = resume_safe c.loop-e.invariant c.in-Some.ensures.last.1 c.in-Some.ensures.last.0

pub loop-e-smaller : goal.loop-e-smaller
loop-e-smaller c = rw (c.in-Some.ensures.kept, c.in-Some.ensures.last.2) (round_less_back c.loop-e.invariant _ c.next_step.ensures c.in-Done.is c.close_node-z.ensures.0 c.close_node-z.ensures.1 c.in-Some.ensures.last.0 c.in-Some.ensures.last.1 c.resume_node-f.ensures.0 c.resume_node-f.ensures.1)

pub loop-e-preserved : goal.loop-e-preserved
loop-e-preserved c = rw (c.in-Some.ensures.kept, c.in-Some.ensures.last.2) (round_back c.loop-e.invariant _ c.next_step.ensures c.in-Done.is c.close_node-z.ensures.0 c.close_node-z.ensures.1 c.in-Some.ensures.last.0 c.in-Some.ensures.last.1 c.resume_node-f.ensures.0 c.resume_node-f.ensures.1)

pub open_child-requires : goal.open_child-requires
open_child-requires c = open-safe c.loop-e.invariant _ c.next_step.ensures c.in-Child.is c.next_step.auto.path c.requires.3

pub returns-in_err-child-in-Child : goal.returns-in_err-child-in-Child
returns-in_err-child-in-Child c =
    let p = err_from_is_err_and c.from_residual.result c.from_residual.ensures.1 in
    rw (p.1, p.2) (walks_refused c.loop-e.invariant _ c.next_step.ensures c.in-Child.is c.next_step.auto.path c.open_child.ensures.0 c.in_err-child-in-Child.was c.open_child.ensures.1)

pub push-requires : goal.push-requires
push-requires c = (round_deep c.loop-e.invariant, away_safe c.loop-e.invariant)

pub loop-e-smaller-in-Child : goal.loop-e-smaller-in-Child
loop-e-smaller-in-Child c = rw c.push.ensures.1 (round_less_open c.loop-e.invariant _ c.next_step.ensures c.in-Child.is c.next_step.auto.path c.open_child.ensures.0 c.in_ok-child-in-Child.was c.push.ensures.0)

pub loop-e-preserved-in-Child : goal.loop-e-preserved-in-Child
loop-e-preserved-in-Child c = rw c.push.ensures.1 (round_open c.loop-e.invariant _ c.next_step.ensures c.in-Child.is c.next_step.auto.path c.open_child.ensures.0 c.in_ok-child-in-Child.was c.open_child.ensures.1 c.push.ensures.0 c.open_child.auto.path c.open_child.auto.bound c.open_child.auto.uses c.open_child.auto.spare)
