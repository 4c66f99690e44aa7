use Rattle.std.proofs.Common.{ℕ, ◌+◌, ◌*◌, Some, None, sym, ap, ◌∙◌, arith}
use Rattle.cxl_enc.specs.Codes.{bits_of}
use Rattle.cxl_topo.proofs.Trees.{KnownTree, parent_is_port}
use Rattle.cxl_topo.proofs.There.{parent_there}
use Rattle.cxl_plan.specs.inner.Uses.{ways_at}
use Rattle.cxl_plan.proofs.Trees.{parent_used}
use Rattle.cxl_plan.proofs.PlannedWays.{ways_root, bits_root, ways_step, bits_step, ways_few, bits_few}
use Rattle.cxl_plan.proofs.ways.+used_above.Goals as goal

pub returns-in_default-clause-ways : goal.returns-in_default-clause-ways
returns-in_default-clause-ways t c =
    let nodes = c.args.topo.now.nodes in
    let tree : KnownTree nodes = record { tree = c.count-count.ensures.tree; laws = c.tree_laws.ensures.laws nodes c.count-count.ensures.tree } in
    sym (ways_root nodes c.args.request.now tree c.args.node (parent_there nodes c.args.node c.node.result.now None c.node.ensures c.in_default.is))

pub returns-in_default-clause-bits : goal.returns-in_default-clause-bits
returns-in_default-clause-bits t c =
    let nodes = c.args.topo.now.nodes in
    let tree : KnownTree nodes = record { tree = c.count-count.ensures.tree; laws = c.tree_laws.ensures.laws nodes c.count-count.ensures.tree } in
    sym (bits_root nodes c.args.request.now tree c.args.node (parent_there nodes c.args.node c.node.result.now None c.node.ensures c.in_default.is))

pub used_above-above-requires : goal.used_above-above-requires
used_above-above-requires t c =
    let nodes = c.args.topo.now.nodes in
    let tree : KnownTree nodes = record { tree = c.count-count.ensures.tree; laws = c.tree_laws.ensures.laws nodes c.count-count.ensures.tree } in
    let up = parent_there nodes c.args.node c.node.result.now (Some c.in-Some.parent) c.node.ensures c.in-Some.is in
    let before = (parent_is_port tree c.args.node c.in-Some.parent up).0 in
    (omega (arith, c.decreases), (c.requires.uses, (c.requires.ways, (omega (arith, c.requires.here), parent_used tree c.args.request.now.endpoints c.args.node c.in-Some.parent up c.requires.used))))

pub planned_ways-ways-requires-clause-used : goal.planned_ways-ways-requires-clause-used
planned_ways-ways-requires-clause-used t c =
    let nodes = c.args.topo.now.nodes in
    let tree : KnownTree nodes = record { tree = c.count-count.ensures.tree; laws = c.tree_laws.ensures.laws nodes c.count-count.ensures.tree } in
    let up = parent_there nodes c.args.node c.node.result.now (Some c.in-Some.parent) c.node.ensures c.in-Some.is in
    parent_used tree c.args.request.now.endpoints c.args.node c.in-Some.parent up c.requires.used

pub returns-clause-ways : goal.returns-clause-ways
returns-clause-ways t c =
    let nodes = c.args.topo.now.nodes in
    let tree : KnownTree nodes = record { tree = c.count-count.ensures.tree; laws = c.tree_laws.ensures.laws nodes c.count-count.ensures.tree } in
    let up = parent_there nodes c.args.node c.node.result.now (Some c.in-Some.parent) c.node.ensures c.in-Some.is in
    ap (λ (n : ℕ). n * c.used_above-above.result.ways) (c.from.ensures ∙ c.planned_ways-ways.ensures.value) ∙ ap (λ (n : ℕ). ways_at nodes c.args.request.now c.in-Some.parent.node * n) c.used_above-above.ensures.ways
    ∙ sym (ways_step nodes c.args.request.now tree c.args.node c.in-Some.parent up)

pub returns-clause-bits : goal.returns-clause-bits
returns-clause-bits t c =
    let nodes = c.args.topo.now.nodes in
    let tree : KnownTree nodes = record { tree = c.count-count.ensures.tree; laws = c.tree_laws.ensures.laws nodes c.count-count.ensures.tree } in
    let up = parent_there nodes c.args.node c.node.result.now (Some c.in-Some.parent) c.node.ensures c.in-Some.is in
    ap (λ (n : ℕ). n + c.used_above-above.result.bits) (c.from-2.ensures ∙ c.split.ensures.bits ∙ ap bits_of c.planned_ways-ways.ensures.value) ∙ ap (λ (n : ℕ). bits_of (ways_at nodes c.args.request.now c.in-Some.parent.node) + n) c.used_above-above.ensures.bits
    ∙ sym (bits_step nodes c.args.request.now tree c.args.node c.in-Some.parent up)

pub returns-clause-few_ways : goal.returns-clause-few_ways
returns-clause-few_ways t c =
    let nodes = c.args.topo.now.nodes in
    let tree : KnownTree nodes = record { tree = c.count-count.ensures.tree; laws = c.tree_laws.ensures.laws nodes c.count-count.ensures.tree } in
    let few = ways_few nodes c.args.request.now tree c.requires.ways c.args.node c.requires.used in
    let is = returns-clause-ways t c in
    omega (arith, few, is)

pub returns-clause-few_bits : goal.returns-clause-few_bits
returns-clause-few_bits t c =
    let nodes = c.args.topo.now.nodes in
    let tree : KnownTree nodes = record { tree = c.count-count.ensures.tree; laws = c.tree_laws.ensures.laws nodes c.count-count.ensures.tree } in
    let few = bits_few nodes c.args.request.now tree c.args.node in
    let is = returns-clause-bits t c in
    omega (arith, few, is)
