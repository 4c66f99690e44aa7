use Rattle.std.proofs.Common.{◌+◌, ◌<◌, length, sym, ◌∙◌}
use Rattle.std.proofs.lemmas.Bool.{ltb-true}
use Rattle.cxl_topofile.proofs.Attaching.{too_many, no_tree}
use Rattle.cxl_topofile.proofs.read.tree_from.Goals as goal

pub returns-then-exceed_node_limit-clause-only : goal.returns-then-exceed_node_limit-clause-only
returns-then-exceed_node_limit-clause-only c =
    let stated = c.args.stated.now in
    let many : 1024 < length stated.bridges.items + length stated.drafts.items =
    ltb-true _ _ (sym (rw (c.deref.ensures.value, c.deref-2.ensures.value) at c.exceed_node_limit.ensures) ∙ c.if-exceed_node_limit.true) in
    λ tree. absurd (no_tree stated.bridges.items stated.drafts.items many tree)

pub returns-then-exceed_node_limit-clause-fault : goal.returns-then-exceed_node_limit-clause-fault
returns-then-exceed_node_limit-clause-fault c =
    let stated = c.args.stated.now in
    too_many stated.bridges.items stated.drafts.items
    (ltb-true _ _ (sym (rw (c.deref.ensures.value, c.deref-2.ensures.value) at c.exceed_node_limit.ensures) ∙ c.if-exceed_node_limit.true))
