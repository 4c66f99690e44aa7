use Rattle.std.proofs.Common.{[], ◌∷◌}
use Rattle.std.proofs.lemmas.Result.{IfOk-from_err, err_from_is_err_and}
use Rattle.cxl_inputs.specs.File.{RunsOutBehind}
use Rattle.cxl_inputs.specs.Image.{HasNoImage}
use Rattle.cxl_inputs.proofs.Stops.{out_behind_one, stop-memory}
use Rattle.cxl_inputs.proofs.host.fetch_over.Goals as goal

pub returns-in_err-of_text-in-Ok-clause-read : goal.returns-in_err-of_text-in-Ok-clause-read
returns-in_err-of_text-in-Ok-clause-read g c = IfOk-from_err c.from_residual.result _ c.from_residual.ensures.0

pub returns-in_err-of_text-in-Ok-clause-system : goal.returns-in_err-of_text-in-Ok-clause-system
returns-in_err-of_text-in-Ok-clause-system g c = IfOk-from_err c.from_residual.result _ c.from_residual.ensures.0

pub returns-in_err-of_text-in-Ok-clause-asked : goal.returns-in_err-of_text-in-Ok-clause-asked
returns-in_err-of_text-in-Ok-clause-asked g c = IfOk-from_err c.from_residual.result _ c.from_residual.ensures.0

pub returns-in_err-of_text-in-Ok-clause-unfailed : goal.returns-in_err-of_text-in-Ok-clause-unfailed
returns-in_err-of_text-in-Ok-clause-unfailed g c = IfOk-from_err c.from_residual.result _ c.from_residual.ensures.0

pub returns-in_err-of_text-in-Ok-clause-stops : goal.returns-in_err-of_text-in-Ok-clause-stops
returns-in_err-of_text-in-Ok-clause-stops g c =
    let p = err_from_is_err_and c.from_residual.result c.from_residual.ensures.1 in
    let image = c.args.image.now in
    let old = g.F.Fetch.state c.args.files.now in
    let new = g.F.Fetch.state c.fetch_image.new.files in
    rw p.1 (stop-memory (HasNoImage [] image c.args.topo.nodes old new) (RunsOutBehind (image ∷ []) old new) _ p.2 (out_behind_one image old new (rw c.in-Ok.is at c.fetch_image.ensures.asked) (rw c.in-Ok.is at c.fetch_image.ensures.unfailed)))

pub returns-in-Err-clause-stops : goal.returns-in-Err-clause-stops
returns-in-Err-clause-stops g c = rw c.in-Err.is at c.fetch_image.ensures.stops
