use Rattle.std.proofs.Common.{ℕ, ap, ◌∙◌, arith}
use Rattle.std.proofs.lemmas.Option.{slice_get-get_or}
use Rattle.cxl_plan.specs.inner.Uses.{code_at}
use Rattle.cxl_plan.proofs.stages.planned_code.Goals as goal

pub bounds-stages-place_of : goal.bounds-stages-place_of
bounds-stages-place_of c = let count = c.requires.stages.count in omega (arith, count, c.place_of.ensures.within)

pub returns : goal.returns
returns c =
    let nodes = c.args.topo.now.nodes in
    let place : ℕ = c.place_of.result in
    let count = c.requires.stages.count in
    c.stage_code.ensures nodes _ (c.requires.stages.each place _ (slice_get-get_or c.args.stages.now place _ (omega (arith, count, c.place_of.ensures.within))))
    ∙ ap (code_at nodes c.args.request.now c.args.w.now) c.place_of.ensures.node
