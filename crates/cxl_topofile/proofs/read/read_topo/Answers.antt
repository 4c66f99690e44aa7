use Rattle.std.proofs.lemmas.Result.{err_from_is_err_and}
use Rattle.toml.specs.View.{table_view}
use Rattle.cxl_topofile.proofs.Whole.{table_fault}
use Rattle.cxl_topofile.proofs.read.read_topo.Goals as goal

pub returns-in_err-stated-clause-fault : goal.returns-in_err-stated-clause-fault
returns-in_err-stated-clause-fault c =
    let p = err_from_is_err_and c.from_residual-in_err-stated.result c.from_residual-in_err-stated.ensures.1 in
    rw (p.1, p.2) (table_fault c.args.bytes.now (table_view c.in_ok-table.table) c.in_err-stated.field-0.0 c.in_ok-table.ensures.document c.in_err-stated.ensures.stated)
