use Rattle.std.proofs.Common.{◌≡◌, ℕ, ◌*◌, Some, true, false, refl, sym, subst, ◌∙◌, arith}
use Rattle.std.proofs.lemmas.Option.{same_Some}
use Rattle.cxl_topo.specs.Tree.{is_endpoint_at}
use Rattle.cxl_span.specs.Spans.{span_start_of}
use Rattle.cxl_model.specs.Hosts.{as_system}
use Rattle.cxl_model.specs.System.{decoders_at, decoder_at}
use Rattle.cxl_model.specs.Ranges.{index_for, ways_above}
use Rattle.cxl_model.specs.Regions.{LeadsTo, at_endpoint}
use Rattle.cxl_model.specs.declared.found.Place.{Place}
use Rattle.std.specs.Option.{option_map_or}
use Rattle.cxl_enc.proofs.Options.{some_and}
use Rattle.cxl_regs.specs.Reading.{decoder_ways}
use Rattle.cxl_check.specs.inner.Slots.{AreWaysAbove, next_of}
use Rattle.cxl_check.proofs.Kept.{node_inside}
use Rattle.cxl_check.proofs.Worked.{number_within}
use Rattle.cxl_check.proofs.FirstFacts.{is_committed}
use Rattle.cxl_check.proofs.Leading.{within, ends_there, goes_on, leads_by_next, next_below, next_parent}
use Rattle.cxl_check.proofs.WaysUp.{ways_below, ways_few}
use Rattle.cxl_check.proofs.slots.+place_below.Goals as goal

pub is_endpoint-requires : goal.is_endpoint-requires
is_endpoint-requires t c =
    within (as_system c.args.host.now) c.args.w.now c.args.range.now c.args.slot c.count-count.ensures.tree c.args.node c.requires.some.0 c.requires.some.1

pub decoder_for-d-requires : goal.decoder_for-d-requires
decoder_for-d-requires t c = c.requires.ready

pub next_of-requires-clause-here : goal.next_of-requires-clause-here
next_of-requires-clause-here t c =
    within (as_system c.args.host.now) c.args.w.now c.args.range.now c.args.slot c.count-count.ensures.tree c.args.node c.requires.some.0 c.requires.some.1

pub index_for-requires : goal.index_for-requires
index_for-requires t c = c.requires.ready

pub block-requires : goal.block-requires
block-requires t c = node_inside (as_system c.args.host.now) c.requires.ready c.args.node (sym c.is_endpoint.ensures ∙ c.if-is_endpoint.true)

pub decoder-d-requires : goal.decoder-d-requires
decoder-d-requires t c =
    let at = sym c.index_for.ensures ∙ c.unwrap-i.ensures in
    rw c.block.ensures.value at (number_within (as_system c.args.host.now) c.args.range.now c.args.node c.unwrap-i.result at)

pub facts_at-facts-requires-clause-here : goal.facts_at-facts-requires-clause-here
facts_at-facts-requires-clause-here t c =
    within (as_system c.args.host.now) c.args.w.now c.args.range.now c.args.slot c.count-count.ensures.tree c.args.node c.requires.some.0 c.requires.some.1

pub ways_with-above-requires : goal.ways_with-above-requires
ways_with-above-requires t c = record { some = c.requires.above.some; few = c.requires.above.few }

pub facts_at-facts-requires-clause-committed : goal.facts_at-facts-requires-clause-committed
facts_at-facts-requires-clause-committed t c =
    let s = as_system c.args.host.now in
    let at : index_for s c.args.range.now c.args.node ≡ Some c.unwrap-i.result = sym c.index_for.ensures ∙ c.unwrap-i.ensures in
    let there : decoder_at s c.args.node c.unwrap-i.result ≡ Some c.decoder-d.result = rw c.block.ensures.value c.decoder-d.ensures.value in
    record { there = there; committed = rw there at (is_committed s c.args.range.now c.args.node c.unwrap-i.result at) }

pub unwrap-i-requires : goal.unwrap-i-requires
unwrap-i-requires t c =
    let s = as_system c.args.host.now in
    let endpoint : is_endpoint_at s.nodes c.args.node ≡ true = sym c.is_endpoint.ensures ∙ c.if-is_endpoint.true in
    let ends = ends_there s c.args.w.now c.args.range.now c.args.slot c.count-count.ensures.tree c.args.node c.requires.some.0 endpoint c.requires.some.1 in
    let i = some_and (index_for s c.args.range.now c.args.node) (λ (i : ℕ). c.requires.some.0.start ≡ span_start_of (decoders_at s c.args.node) i) ends.start in
    let at : c.index_for.result ≡ Some i.0 = c.index_for.ensures ∙ i.1 in
    rw at refl

pub start_of-requires-clause-endpoint : goal.start_of-requires-clause-endpoint
start_of-requires-clause-endpoint t c = sym c.is_endpoint.ensures ∙ c.if-is_endpoint.true

pub returns-then-is_endpoint : goal.returns-then-is_endpoint
returns-then-is_endpoint t c =
    let s = as_system c.args.host.now in
    let place : Place = record { endpoint = c.args.node; start = c.start_of.result } in
    let at : index_for s c.args.range.now c.args.node ≡ Some c.unwrap-i.result = sym c.index_for.ensures ∙ c.unwrap-i.ensures in
    at_endpoint place (sym c.is_endpoint.ensures ∙ c.if-is_endpoint.true) (rw at c.start_of.ensures)

pub unwrap-child-requires : goal.unwrap-child-requires
unwrap-child-requires t c =
    let s = as_system c.args.host.now in
    let other : is_endpoint_at s.nodes c.args.node ≡ false = sym c.is_endpoint.ensures ∙ c.if-is_endpoint.false in
    let goes = goes_on s c.args.w.now c.args.range.now c.args.slot c.count-count.ensures.tree c.args.node c.requires.some.0 other c.requires.some.1 in
    rw (c.next_of.ensures ∙ goes.next) refl

pub place_below-requires : goal.place_below-requires
place_below-requires t c =
    let s = as_system c.args.host.now in
    let tree = c.count-count.ensures.tree in
    let other : is_endpoint_at s.nodes c.args.node ≡ false = sym c.is_endpoint.ensures ∙ c.if-is_endpoint.false in
    let goes = goes_on s c.args.w.now c.args.range.now c.args.slot tree c.args.node c.requires.some.0 other c.requires.some.1 in
    let next : next_of s c.args.w.now c.args.range.now c.args.slot c.args.node ≡ Some c.unwrap-child.result = sym c.next_of.ensures ∙ c.unwrap-child.ensures in
    let same : goes.child ≡ c.unwrap-child.result = same_Some goes.child c.unwrap-child.result (sym goes.next ∙ next) in
    let below = next_below s c.args.w.now c.args.range.now c.args.slot tree (c.tree_laws.ensures.laws s.nodes tree) c.args.node c.unwrap-child.result next in
    let later = below.later in
    let inside = below.inside in
    let parent = next_parent s c.args.w.now c.args.range.now c.args.slot tree (c.tree_laws.ensures.laws s.nodes tree) c.args.node c.unwrap-child.result next in
    let ways : c.ways_with-above.result ≡ ways_above s c.args.range.now c.unwrap-child.result =
    c.ways_with-above.ensures.ways ∙ (λ i. option_map_or decoder_ways (c.decoder_for-d.ensures i) 1 * c.requires.above.is i)
    ∙ ways_below s c.args.range.now c.args.node c.unwrap-child.result parent.0 ((c.tree_laws.ensures.laws s.nodes tree).ports c.unwrap-child.result) parent.1 parent.2 in
    let few = ways_few s c.args.range.now c.unwrap-child.result ((c.tree_laws.ensures.laws s.nodes tree).few_ports c.unwrap-child.result) in
    let above : AreWaysAbove s c.args.range.now c.unwrap-child.result c.ways_with-above.result = record { is = ways; some = c.ways_with-above.ensures.some; few = omega (arith, ways, few) } in
    (omega (arith, c.decreases), (c.requires.ready, (c.requires.children, (c.requires.all, (c.requires.root, (above, (c.requires.some.0, subst (λ (n : ℕ). LeadsTo s c.args.w.now c.args.range.now c.args.slot n c.requires.some.0) same goes.leads)))))))

pub returns : goal.returns
returns t c =
    let s = as_system c.args.host.now in
    let tree = c.count-count.ensures.tree in
    let other : is_endpoint_at s.nodes c.args.node ≡ false = sym c.is_endpoint.ensures ∙ c.if-is_endpoint.false in
    let next : next_of s c.args.w.now c.args.range.now c.args.slot c.args.node ≡ Some c.unwrap-child.result = sym c.next_of.ensures ∙ c.unwrap-child.ensures in
    let below = within s c.args.w.now c.args.range.now c.args.slot tree c.args.node c.requires.some.0 c.requires.some.1 in
    leads_by_next s c.args.w.now c.args.range.now c.args.slot tree c.args.node c.unwrap-child.result c.place_below.result below other next c.place_below.ensures
