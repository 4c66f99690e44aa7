use Rattle.std.proofs.Common.{◌≡◌, Some, None, sym, ◌∙◌, arith}
use Rattle.cxl_model.specs.Hosts.{as_system}
use Rattle.cxl_model.specs.System.{decoder_at}
use Rattle.cxl_model.specs.Ranges.{first_endpoint}
use Rattle.cxl_check.specs.declared.firsts.RangeKey.{RangeKey}
use Rattle.cxl_check.proofs.Kept.{node_inside}
use Rattle.cxl_check.proofs.Worked.{number_within}
use Rattle.cxl_check.proofs.FirstFacts.{no_first, no_index, with_index, is_endpoint, is_committed}
use Rattle.cxl_check.proofs.facts.facts_of.Goals as goal

pub returns-in_default : goal.returns-in_default
returns-in_default c =
    let s = as_system c.args.host.now in
    let key : RangeKey = record { base = c.args.range.now.base; size = c.args.range.now.size } in
    let none : first_endpoint s c.args.range.now ≡ None = sym (c.requires.tables.firsts key) ∙ sym c.first_of.ensures ∙ c.in_default.is in
    no_first s c.args.range.now none

pub returns-in_default-index_for : goal.returns-in_default-index_for
returns-in_default-index_for c =
    let s = as_system c.args.host.now in
    let key : RangeKey = record { base = c.args.range.now.base; size = c.args.range.now.size } in
    let first : first_endpoint s c.args.range.now ≡ Some c.in-Some.first = sym (c.requires.tables.firsts key) ∙ sym c.first_of.ensures ∙ c.in-Some.is in
    no_index s c.args.range.now c.in-Some.first first (sym c.index_for.ensures ∙ c.in_default-index_for.is)

pub block-requires : goal.block-requires
block-requires c =
    let s = as_system c.args.host.now in
    let key : RangeKey = record { base = c.args.range.now.base; size = c.args.range.now.size } in
    let first : first_endpoint s c.args.range.now ≡ Some c.in-Some.first = sym (c.requires.tables.firsts key) ∙ sym c.first_of.ensures ∙ c.in-Some.is in
    node_inside s c.requires.ready c.in-Some.first (is_endpoint s c.args.range.now c.in-Some.first first)

pub decoder-d-requires : goal.decoder-d-requires
decoder-d-requires c =
    rw c.block.ensures.value at (number_within (as_system c.args.host.now) c.args.range.now c.in-Some.first c.in-Some-index_for.i (sym c.index_for.ensures ∙ c.in-Some-index_for.is))

pub facts_at-own-requires-clause-here : goal.facts_at-own-requires-clause-here
facts_at-own-requires-clause-here c =
    let s = as_system c.args.host.now in
    let key : RangeKey = record { base = c.args.range.now.base; size = c.args.range.now.size } in
    let first : first_endpoint s c.args.range.now ≡ Some c.in-Some.first = sym (c.requires.tables.firsts key) ∙ sym c.first_of.ensures ∙ c.in-Some.is in
    let inside = node_inside s c.requires.ready c.in-Some.first (is_endpoint s c.args.range.now c.in-Some.first first) in
    let count = c.requires.ready.system.caps.count in
    omega (arith, inside, count)

pub facts_at-own-requires-clause-committed : goal.facts_at-own-requires-clause-committed
facts_at-own-requires-clause-committed c =
    let s = as_system c.args.host.now in
    let there : decoder_at s c.in-Some.first c.in-Some-index_for.i ≡ Some c.decoder-d.result = rw c.block.ensures.value c.decoder-d.ensures.value in
    record { there = there; committed = rw there at (is_committed s c.args.range.now c.in-Some.first c.in-Some-index_for.i (sym c.index_for.ensures ∙ c.in-Some-index_for.is)) }

pub facts_at-own-requires-clause-all : goal.facts_at-own-requires-clause-all
facts_at-own-requires-clause-all c = rw c.deref.ensures.value c.requires.tables.decoders

pub returns : goal.returns
returns c =
    let s = as_system c.args.host.now in
    let key : RangeKey = record { base = c.args.range.now.base; size = c.args.range.now.size } in
    let first : first_endpoint s c.args.range.now ≡ Some c.in-Some.first = sym (c.requires.tables.firsts key) ∙ sym c.first_of.ensures ∙ c.in-Some.is in
    with_index s c.args.range.now c.in-Some.first c.in-Some-index_for.i c.decoder-d.result c.interleave_ways-ways.result c.own_code.result c.facts_at-own.result.kind first
    (sym c.index_for.ensures ∙ c.in-Some-index_for.is) (rw c.block.ensures.value c.decoder-d.ensures.value) c.interleave_ways-ways.ensures.value c.own_code.ensures
    (c.facts_at-own.ensures.kind (is_endpoint s c.args.range.now c.in-Some.first first))
