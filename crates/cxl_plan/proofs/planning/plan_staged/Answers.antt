use Rattle.std.proofs.Common.{◌≡◌, ℕ, List, Some, refl, sym, ap, subst, ◌∙◌, arith}
use Rattle.std.proofs.lemmas.Option.{same_Some, slice_get_within, slice_get-get_or}
use Rattle.cxl_window.specs.Fields.{WindowFields}
use Rattle.cxl_topo.proofs.Trees.{KnownTree}
use Rattle.cxl_legal.specs.Stated.{IsStatedPlan}
use Rattle.cxl_model.specs.Hosts.{as_system}
use Rattle.cxl_model.specs.declared.plan.Reason.{Reason}
use Rattle.cxl_plan.specs.declared.choosing.Choice.TheVariants.{Found, Nowhere}
use Rattle.cxl_plan.specs.Faults.{AreReasons, TakesFirst}
use Rattle.cxl_plan.specs.inner.Choices.{IsChoice}
use Rattle.cxl_plan.proofs.FaultOrder.{has_ways, faults_6}
use Rattle.cxl_plan.proofs.planning.plan_staged.Goals as goal

pub choose-requires : goal.choose-requires
choose-requires c = record {
  stages = c.requires.stages;
  sound = record { ways = c.requires.early.ways; low = c.requires.early.size.low };
  ready = c.requires.ready;
  uses = c.requires.uses;
}

pub plan_at-requires : goal.plan_at-requires
plan_at-requires c = record {
  stages = c.requires.stages;
  settled =
      let s = as_system c.args.host.now in
      let windows : List WindowFields = c.args.host.now.windows.now in
      let found : IsChoice s c.args.request.now (Found c.in-Found.i c.in-Found.base) = subst (IsChoice s c.args.request.now) c.in-Found.is c.in-Ok.ensures in
      let w : WindowFields = c.index-windows-i.result in
      let inside = slice_get_within windows c.in-Found.i found.0 found.1 in
      let same : found.0 ≡ w = same_Some found.0 w (sym found.1 ∙ slice_get-get_or windows c.in-Found.i w inside ∙ ap Some (sym c.index-windows-i.is)) in
      let first : TakesFirst s c.args.request.now w c.in-Found.base = subst (λ (v : WindowFields). TakesFirst s c.args.request.now v c.in-Found.base) same found.2 in
      let tree : KnownTree s.nodes = record { tree = c.requires.ready.system.tree; laws = c.requires.ready.laws } in
      record {
        ready = c.requires.ready;
        tables = c.requires.uses;
        ways = has_ways s tree c.args.request.now c.requires.ready.named c.requires.fits;
        endpoints = c.requires.fits;
        window = first.takes.window;
      };
}

pub bounds-windows-i : goal.bounds-windows-i
bounds-windows-i c =
    let found : IsChoice (as_system c.args.host.now) c.args.request.now (Found c.in-Found.i c.in-Found.base) =
    subst (IsChoice (as_system c.args.host.now) c.args.request.now) c.in-Found.is c.in-Ok.ensures in
    slice_get_within c.args.host.now.windows.now c.in-Found.i found.0 found.1

pub returns-in-Nowhere : goal.returns-in-Nowhere
returns-in-Nowhere c = record {
  fault = λ not_memory.
      let s = as_system c.args.host.now in
      let none : IsChoice s c.args.request.now (Nowhere c.in-Nowhere.reasons) = subst (IsChoice s c.args.request.now) c.in-Nowhere.is c.in-Ok.ensures in
      record {
        holds = subst (λ (rs : List Reason). AreReasons s c.args.request.now rs) (sym c.new.ensures) none;
        first = faults_6 s c.args.request.now c.requires.early c.requires.fits;
      };
  endpoints = tt;
  plan = tt;
}

pub returns-in-Ok-plan_at : goal.returns-in-Ok-plan_at
returns-in-Ok-plan_at c = record {
  plan =
      let s = as_system c.args.host.now in
      let windows : List WindowFields = c.args.host.now.windows.now in
      let found : IsChoice s c.args.request.now (Found c.in-Found.i c.in-Found.base) = subst (IsChoice s c.args.request.now) c.in-Found.is c.in-Ok.ensures in
      let w : WindowFields = c.index-windows-i.result in
      let inside = slice_get_within windows c.in-Found.i found.0 found.1 in
      let same : found.0 ≡ w = same_Some found.0 w (sym found.1 ∙ slice_get-get_or windows c.in-Found.i w inside ∙ ap Some (sym c.index-windows-i.is)) in
      let first : TakesFirst s c.args.request.now w c.in-Found.base = subst (λ (v : WindowFields). TakesFirst s c.args.request.now v c.in-Found.base) same found.2 in
      let plan = c.in-Ok-plan_at.plan in
      let stated : IsStatedPlan s c.args.request.now w c.in-Found.base plan = c.in-Ok-plan_at.ensures in
      record {
        window = w;
        first = subst (λ (b : ℕ). TakesFirst s c.args.request.now w b) (sym stated.starts) first;
        stated = subst (λ (b : ℕ). IsStatedPlan s c.args.request.now w b plan) (sym stated.starts) stated;
      };
  endpoints = c.requires.fits;
  fault = tt;
}

pub returns-in_default : goal.returns-in_default
returns-in_default c = record {
  fault = λ not_memory. absurd (not_memory refl);
  endpoints = tt;
  plan = tt;
}

pub returns-in-Err : goal.returns-in-Err
returns-in-Err c = record {
  fault = λ not_memory. absurd (not_memory refl);
  endpoints = tt;
  plan = tt;
}

pub offset_bounds-windows-i : goal.offset_bounds-windows-i
offset_bounds-windows-i c =
    let found : IsChoice (as_system c.args.host.now) c.args.request.now (Found c.in-Found.i c.in-Found.base) =
    subst (IsChoice (as_system c.args.host.now) c.args.request.now) c.in-Found.is c.in-Ok.ensures in
    let within = slice_get_within c.args.host.now.windows.now c.in-Found.i found.0 found.1 in
    omega (arith, within)
