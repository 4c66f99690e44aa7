use Rattle.std.proofs.lemmas.Result.{IfOk-from_err}
use Rattle.cxl_reads.proofs.of_topologies.put_kind.Goals as goal

pub returns-in_err-extend_from_slice-in-Bridge : goal.returns-in_err-extend_from_slice-in-Bridge
returns-in_err-extend_from_slice-in-Bridge c = IfOk-from_err c.from_residual.result _ c.from_residual.ensures.0

pub returns-in_err-put_text-in-Endpoint : goal.returns-in_err-put_text-in-Endpoint
returns-in_err-put_text-in-Endpoint c = IfOk-from_err c.from_residual-in_err-put_text-in-Endpoint.result _ c.from_residual-in_err-put_text-in-Endpoint.ensures.0
