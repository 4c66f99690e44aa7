use Rattle.std.proofs.Common.{◌≡◌, ℕ, ◌≤◌, Option, Some, refl, sym, ap, ◌∙◌, arith}
use Rattle.std.specs.Prelude.{unwrap_or}
use Rattle.cxl_enc.specs.Codes.{code_in_table}
use Rattle.cxl_regs.specs.Reading.{committed_count}
use Rattle.cxl_model.specs.System.{decoders_at}
use Rattle.cxl_plan.specs.inner.Judging.{without_windows}
use Rattle.cxl_plan.specs.inner.Uses.{ways_at}
use Rattle.cxl_plan.proofs.Reasons.{table_back}
use Rattle.cxl_plan.proofs.StatedRows.{row_made}
use Rattle.cxl_model.specs.Hosts.{as_system}
use Rattle.cxl_plan.specs.inner.Uses.{code_at}
use Rattle.cxl_plan.proofs.Reasons.{selecting_nodes, code_low}
use Rattle.cxl_plan.proofs.rows.row.Goals as goal

pub overflow_cast-result : goal.overflow_cast-result
overflow_cast-result c =
    let s = as_system c.args.host.now in
    let low : code_at c.args.host.now.topo.now.nodes c.args.request.now c.args.w.now c.args.node ≤ 6 =
    code_low c.args.host.now.topo.now.nodes c.args.request.now c.args.w.now c.args.node c.requires.used (selecting_nodes s c.args.request.now c.args.w.now c.requires.settled.window c.args.node) in
    let is = c.planned_code.ensures in
    omega arith

pub returns : goal.returns
returns c =
    let nodes = c.args.host.now.topo.now.nodes in
    let ways = c.planned_ways-ways.result in
    let index : c.committed.result ≡ committed_count (decoders_at (without_windows nodes c.args.host.now.image.now) c.args.node) = c.committed.ensures ∙ sym (rw c.block.ensures.value refl) in
    let back = table_back ways c.planned_ways-ways.ensures.known in
    let same : Some c.unwrap.result ≡ Some back.0 = sym c.unwrap.ensures ∙ c.code_of.ensures.only back.0 back.2 in
    let code : c.unwrap.result ≡ unwrap_or (code_in_table (ways_at nodes c.args.request.now c.args.node)) 0 =
    ap (λ (o : Option ℕ). unwrap_or o 0) (same ∙ sym back.1) ∙ ap (λ (n : ℕ). unwrap_or (code_in_table n) 0) c.planned_ways-ways.ensures.value in
    row_made nodes c.args.host.now.image.now c.args.request.now c.args.w.now c.args.base c.args.node c.committed.result c.unwrap.result c.planned_code.result c.tail.result index code c.planned_code.ensures c.tail.ensures _ refl
