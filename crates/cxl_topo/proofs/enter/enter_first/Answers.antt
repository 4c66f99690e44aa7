use Rattle.std.proofs.Common.{◌∙◌, ap, unwrap_or, arith}
use Rattle.std.specs.BTreeMap.Entry.{map_with_value}
use Rattle.cxl_topo.proofs.Entering.{enters}
use Rattle.cxl_topo.proofs.enter.enter_first.Goals as goal

pub returns : goal.returns
returns g c = λ q.
    let entry = c.in_ok-table.field-0 in
    let value = c.or_insert.result.now in
    let entered = enters g.met.K.Ord.total c.args.table.now (map_with_value entry value) c.args.key c.args.i value
    (c.or_insert.ensures.value ∙ ap (λ found. unwrap_or found c.args.i) c.in_ok-table.ensures.value) (c.in_ok-table.ensures.update.0 value) q in
    grind (arith, entered)
