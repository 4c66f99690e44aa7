use Rattle.std.proofs.Common.{rules}
use Rattle.cxl_request.proofs.requests.plan_over_pick.Goals as goal

pub pick-requires-clause-made : goal.pick-requires-clause-made
pick-requires-clause-made c = c.requires.made

pub pick-requires-clause-accepted : goal.pick-requires-clause-accepted
pick-requires-clause-accepted c = c.requires.accepted

pub plan_over-requires-clause-made : goal.plan_over-requires-clause-made
plan_over-requires-clause-made c = c.requires.made

pub plan_over-requires-clause-accepted : goal.plan_over-requires-clause-accepted
plan_over-requires-clause-accepted c = c.requires.accepted

pub plan_over-requires-clause-named : goal.plan_over-requires-clause-named
plan_over-requires-clause-named c = c.in-Ok.ensures.endpoints

pub returns-in-Ok : goal.returns-in-Ok
returns-in-Ok c = search rules

pub returns-in_ok-refusal_of_pick-in-Err : goal.returns-in_ok-refusal_of_pick-in-Err
returns-in_ok-refusal_of_pick-in-Err c = search rules
