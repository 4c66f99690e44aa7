use Rattle.std.proofs.lemmas.Result.{err_from_is_err_and}
use Rattle.std.proofs.Common.{◌≡◌, Some, refl, sym, ◌∙◌}
use Rattle.cxl_topo.specs.Tree.{bridge_with}
use Rattle.cxl_walk.specs.inner.Calls.{reached}
use Rattle.cxl_walk.proofs.Targets.{bridge_there, arrived, missed}
use Rattle.cxl_walk.proofs.downward.lead.Goals as goal

pub unwrap-bridge-requires : goal.unwrap-bridge-requires
unwrap-bridge-requires c =
    let target = c.in-Some.ensures.some in
    let at = bridge_there c.args.image.now c.args.topo.now c.args.windows.now c.args.h c.in-Some.target target.0 target.1 c.requires.made in
    rw ((c.bridge.ensures.owns at.0).1 at.1) refl

pub returns-in_err-way-clause-miss : goal.returns-in_err-way-clause-miss
returns-in_err-way-clause-miss c =
    let target = c.in-Some.ensures.some in
    let found : bridge_with c.args.topo.now.nodes c.in-Some.target.uid ≡ Some c.unwrap-bridge.result = sym c.bridge.ensures.bridge ∙ c.unwrap-bridge.ensures in
    let p = err_from_is_err_and c.from_residual.result c.from_residual.ensures.1 in
    rw (p.1, p.2) (missed c.args.image.now c.args.topo.now c.args.windows.now c.args.h c.in-Some.target target.0 target.1 c.unwrap-bridge.result _ found c.in_err-way.ensures.miss)

pub returns-clause-route : goal.returns-clause-route
returns-clause-route c =
    let target = c.in-Some.ensures.some in
    let found : bridge_with c.args.topo.now.nodes c.in-Some.target.uid ≡ Some c.unwrap-bridge.result = sym c.bridge.ensures.bridge ∙ c.unwrap-bridge.ensures in
    arrived c.args.image.now c.args.topo.now c.args.windows.now c.args.h c.in-Some.target target.0 target.1 c.unwrap-bridge.result _ (reached c.in_ok-way.way.byte) found c.in_ok-way.ensures.way
