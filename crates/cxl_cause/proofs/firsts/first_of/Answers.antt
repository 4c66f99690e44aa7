use Rattle.std.proofs.Common.{◌≡◌, ◌&&◌, Some, sym, ◌∙◌}
use Rattle.cxl_topo.specs.Tree.{is_endpoint_at}
use Rattle.cxl_model.specs.Hosts.{as_system}
use Rattle.cxl_model.specs.Ranges.{serves, first_endpoint}
use Rattle.cxl_check.proofs.FirstFacts.{no_index, with_index}
use Rattle.cxl_check.proofs.Numbers.{found}
use Rattle.cxl_cause.proofs.HavingBlocks.{has_block}
use Rattle.cxl_cause.proofs.firsts.first_of.Goals as goal

pub returns-in_default-index_for : goal.returns-in_default-index_for
returns-in_default-index_for c =
    let s = as_system c.args.host.now in
    let r = c.args.range.now in
    let facts = no_index s r c.in-Some.first (sym c.first_endpoint-node.ensures ∙ c.in-Some.is) (sym c.index_for.ensures ∙ c.in_default-index_for.is) in
    record { node = c.first_endpoint-node.ensures; ways = facts.ways; code = facts.code; kind = facts.kind }

pub block-requires : goal.block-requires
block-requires c =
    let s = as_system c.args.host.now in
    let there = has_block s c.args.range.now c.in-Some.first c.in-Some-index_for.i (sym c.index_for.ensures ∙ c.in-Some-index_for.is) in
    there

pub span_kind-requires-clause-here : goal.span_kind-requires-clause-here
span_kind-requires-clause-here c =
    let s = as_system c.args.host.now in
    let r = c.args.range.now in
    let is : first_endpoint s r ≡ Some c.in-Some.first = sym c.first_endpoint-node.ensures ∙ c.in-Some.is in
    (found (λ n. is_endpoint_at s.nodes n && serves s r n) _ c.in-Some.first is).0

pub returns : goal.returns
returns c =
    let s = as_system c.args.host.now in
    let r = c.args.range.now in
    let facts = with_index s r c.in-Some.first c.in-Some-index_for.i c.decoder-d.result _ _ _ (sym c.first_endpoint-node.ensures ∙ c.in-Some.is) (sym c.index_for.ensures ∙ c.in-Some-index_for.is)
    (rw c.block.ensures.value c.decoder-d.ensures.value) c.interleave_ways-ways.ensures.value c.own_code.ensures c.span_kind.ensures in
    record { node = sym c.in-Some.is ∙ c.first_endpoint-node.ensures; ways = facts.ways; code = facts.code; kind = facts.kind }
