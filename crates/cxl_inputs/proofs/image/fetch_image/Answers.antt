use Rattle.std.proofs.lemmas.Result.{IfOk-from_err}
use Rattle.cxl_inputs.proofs.Images.{bad_image-stops}
use Rattle.cxl_inputs.proofs.image.fetch_image.Goals as goal

pub returns-in_err-bytes-clause-image : goal.returns-in_err-bytes-clause-image
returns-in_err-bytes-clause-image g c = IfOk-from_err c.from_residual.result _ c.from_residual.ensures.0

pub returns-in_err-bytes-clause-caps : goal.returns-in_err-bytes-clause-caps
returns-in_err-bytes-clause-caps g c = IfOk-from_err c.from_residual.result _ c.from_residual.ensures.0

pub returns-in_err-bytes-clause-asked : goal.returns-in_err-bytes-clause-asked
returns-in_err-bytes-clause-asked g c = IfOk-from_err c.from_residual.result _ c.from_residual.ensures.0

pub returns-in_err-bytes-clause-unfailed : goal.returns-in_err-bytes-clause-unfailed
returns-in_err-bytes-clause-unfailed g c = IfOk-from_err c.from_residual.result _ c.from_residual.ensures.0

pub returns-clause-stops : goal.returns-clause-stops
returns-clause-stops g c =
    let of = rw c.as_slice.ensures.value at c.in-Err.ensures.fault in
    rw c.of.ensures (bad_image-stops c.args.file.now c.args.topo.now.nodes (g.F.Fetch.state c.args.files.now) (g.F.Fetch.state c.fetch_file.new.files) c.in_ok-bytes.bytes.items c.in-Err.fault c.faulty.result c.in_ok-bytes.ensures.file c.in_ok-bytes.ensures.asked c.in_ok-bytes.ensures.unfailed of c.faulty.ensures)
