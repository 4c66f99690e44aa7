use Rattle.std.proofs.Common.{ℕ, ◌≤◌, Vec, Global, List, length, sym, ap, ◌∙◌, arith}
use Rattle.std.proofs.lemmas.List.{take_all}
use Rattle.cxl_model.specs.declared.plan.Row.{Row}
use Rattle.cxl_plan.proofs.StatedRows.{one_row, no_row, first_rows, last_rows, all_rows}
use Rattle.cxl_plan.proofs.rows.rows.Goals.{then-not-forwards+in_ok-push, else-not-forwards}
use Rattle.cxl_plan.proofs.UsedItems.{item_inside, item_used}
use Rattle.cxl_plan.proofs.rows.rows.Goals as goal

pub forwards-requires : goal.forwards-requires
forwards-requires c = item_inside c.args.host.now.topo.now.nodes c.args.request.now c.deref-node-items.result.now (c.deref-node-items.ensures.value ∙ c.requires.settled.tables.listed) c.loop-node.node-index (omega arith)

pub row-requires-clause-here : goal.row-requires-clause-here
row-requires-clause-here c = item_inside c.args.host.now.topo.now.nodes c.args.request.now c.deref-node-items.result.now (c.deref-node-items.ensures.value ∙ c.requires.settled.tables.listed) c.loop-node.node-index (omega arith)

pub row-requires-clause-used : goal.row-requires-clause-used
row-requires-clause-used c = item_used c.args.host.now.topo.now.nodes c.args.request.now c.deref-node-items.result.now (c.deref-node-items.ensures.value ∙ c.requires.settled.tables.listed) c.loop-node.node-index (omega arith)

pub loop-node-init : goal.loop-node-init
loop-node-init c = first_rows c.args.host.now.topo.now.nodes c.args.host.now.image.now c.args.request.now c.args.w.now c.args.base _ c.in_ok-rows.ensures.items

pub loop-node-preserved : goal.loop-node-preserved
loop-node-preserved c =
    let nodes = c.args.host.now.topo.now.nodes in
    let items = c.deref-node-items.result.now in
    elim c.if-not-forwards.branch [
      | then-not-forwards+in_ok-push w ↦
          one_row nodes c.args.host.now.image.now c.args.request.now c.args.w.now c.args.base items c.loop-node.node-index c.loop-node.rows.items c.if-not-forwards.rows.items w.row.result (omega arith) (sym c.forwards.ensures ∙ w.if-not-forwards.true) w.row.ensures c.loop-node.invariant
          (ap (λ (v : Vec Row Global). v.items) w.rows-is ∙ w.in_ok-push.ensures.items)
      | else-not-forwards w ↦
          no_row nodes c.args.host.now.image.now c.args.request.now c.args.w.now c.args.base items c.loop-node.node-index c.loop-node.rows.items c.if-not-forwards.rows.items (omega arith) (sym c.forwards.ensures ∙ w.if-not-forwards.false) c.loop-node.invariant
          (ap (λ (v : Vec Row Global). v.items) w.rows-is)
    ]

pub returns : goal.returns
returns c =
    let nodes = c.args.host.now.topo.now.nodes in
    let items : List ℕ = c.deref-node-items.result.now in
    let past : length items ≤ c.loop-node.node-index = omega arith in
    last_rows nodes c.args.host.now.image.now c.args.request.now c.args.w.now c.args.base items c.loop-node.node-index c.loop-node.rows.items (take_all c.loop-node.node-index items past) c.loop-node.invariant
    ∙ all_rows nodes c.args.host.now.image.now c.args.request.now c.args.w.now c.args.base items (c.deref-node-items.ensures.value ∙ c.requires.settled.tables.listed)
