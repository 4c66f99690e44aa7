use Rattle.std.proofs.Common.{List, refl, sym, subst}
use Rattle.cxl_topo.proofs.Trees.{KnownTree}
use Rattle.cxl_model.specs.Hosts.{as_system}
use Rattle.cxl_plan.specs.declared.stages.Stage.{Stage}
use Rattle.cxl_plan.specs.inner.Stages.{AreStages}
use Rattle.cxl_plan.proofs.FaultOrder.{has_ways}
use Rattle.cxl_plan.proofs.planning.plan_fitting.Goals as goal

pub stages-requires : goal.stages-requires
stages-requires c = record {
  uses = c.requires.uses;
  ways =
      let s = as_system c.args.host.now in
      let tree : KnownTree s.nodes = record { tree = c.requires.ready.system.tree; laws = c.requires.ready.laws } in
      has_ways s tree c.args.request.now c.requires.ready.named c.requires.fits;
}

pub plan_staged-requires : goal.plan_staged-requires
plan_staged-requires c = record {
  ready = c.requires.ready;
  early = c.requires.early;
  uses = c.requires.uses;
  fits = c.requires.fits;
  stages = subst (λ (stages : List Stage). AreStages c.args.host.now.topo.now.nodes c.args.request.now c.args.uses.now.nodes.items stages) (sym c.deref.ensures.value) c.in-Ok.ensures;
}

pub returns-in_default : goal.returns-in_default
returns-in_default c = record {
  fault = λ not_memory. absurd (not_memory refl);
  endpoints = tt;
  plan = tt;
}
