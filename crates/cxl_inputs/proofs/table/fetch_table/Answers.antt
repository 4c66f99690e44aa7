use Rattle.std.proofs.lemmas.Result.{IfOk-from_err}
use Rattle.cxl_inputs.proofs.Tables.{faulty-stops}
use Rattle.cxl_inputs.proofs.table.fetch_table.Goals as goal

pub returns-in_err-bytes-clause-table : goal.returns-in_err-bytes-clause-table
returns-in_err-bytes-clause-table g c = IfOk-from_err c.from_residual.result _ c.from_residual.ensures.0

pub returns-in_err-bytes-clause-asked : goal.returns-in_err-bytes-clause-asked
returns-in_err-bytes-clause-asked g c = IfOk-from_err c.from_residual.result _ c.from_residual.ensures.0

pub returns-in_err-bytes-clause-unfailed : goal.returns-in_err-bytes-clause-unfailed
returns-in_err-bytes-clause-unfailed g c = IfOk-from_err c.from_residual.result _ c.from_residual.ensures.0

pub returns-in-Err-clause-stops : goal.returns-in-Err-clause-stops
returns-in-Err-clause-stops g c =
    rw c.of.ensures (faulty-stops c.args.file.now (g.F.Fetch.state c.args.files.now) (g.F.Fetch.state c.fetch_file.new.files) c.in_ok-bytes.bytes.items c.in-Err.fault c.faulty.result c.in_ok-bytes.ensures.file c.in_ok-bytes.ensures.asked c.in_ok-bytes.ensures.unfailed c.in-Err.ensures.fault c.faulty.ensures)
