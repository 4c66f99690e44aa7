use Rattle.std.proofs.Common.{refl}
use Rattle.cxl_plan.proofs.planning.plan_ready.Goals as goal

pub returns-in_default : goal.returns-in_default
returns-in_default c = record {
  fault = λ not_memory. absurd (not_memory refl);
  endpoints = tt;
  plan = tt;
}

pub node_fault-requires : goal.node_fault-requires
node_fault-requires c = record {
  ready = c.requires.ready;
  early = c.requires.early;
  uses = c.in-Ok.ensures;
}

pub plan_fitting-requires-clause-ready : goal.plan_fitting-requires-clause-ready
plan_fitting-requires-clause-ready c = c.requires.ready

pub plan_fitting-requires-clause-early : goal.plan_fitting-requires-clause-early
plan_fitting-requires-clause-early c = c.requires.early

pub plan_fitting-requires-clause-uses : goal.plan_fitting-requires-clause-uses
plan_fitting-requires-clause-uses c = c.in-Ok.ensures

pub returns-in-Some : goal.returns-in-Some
returns-in-Some c = record {
  fault = λ not_memory. c.in-Some.ensures.some;
  endpoints = tt;
  plan = tt;
}
