use Rattle.cxl_inputs.proofs.Tables.{faulty-given}
use Rattle.cxl_inputs.proofs.table.given_table.Goals as goal

pub returns-in-Err-clause-stops : goal.returns-in-Err-clause-stops
returns-in-Err-clause-stops c =
    rw c.of.ensures (faulty-given c.args.file.now c.args.bytes.now c.in-Err.fault c.faulty.result c.in_ok-within_limit.ensures.within c.in-Err.ensures.fault c.faulty.ensures)
