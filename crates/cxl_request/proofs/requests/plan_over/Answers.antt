use Rattle.std.proofs.Common.{rules}
use Rattle.cxl_request.proofs.requests.plan_over.Goals as goal

pub plan-requires-clause-made : goal.plan-requires-clause-made
plan-requires-clause-made c = c.requires.made

pub plan-requires-clause-accepted : goal.plan-requires-clause-accepted
plan-requires-clause-accepted c = c.requires.accepted

pub returns-in-Ok : goal.returns-in-Ok
returns-in-Ok c = search rules

pub returns : goal.returns
returns c = search rules
