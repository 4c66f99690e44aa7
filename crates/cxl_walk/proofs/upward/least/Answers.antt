use Rattle.std.proofs.Common.{◌≡◌, ℕ, ◌+◌, ◌*◌, ◌<◌, ◌≤◌, true, List, length, Some, subst, sym, ◌∙◌}
use Rattle.std.specs.Prelude.{slice_get}
use Rattle.cxl_regs.specs.declared.decoder.Decoder.{Decoder}
use Rattle.cxl_regs.specs.Registers.{Registers, IsBlock}
use Rattle.cxl_regs.specs.Reading.{decoder_ways, span_length, holds_address}
use Rattle.cxl_span.specs.Spans.{span_start_of, span_end_of, endpoint_place_of}
use Rattle.cxl_span.specs.Breaches.{BlockKeeps}
use Rattle.cxl_model.specs.System.{System, system_of, ram_at}
use Rattle.cxl_walk.proofs.Nodes.{none_then, some_not}
use Rattle.cxl_walk.proofs.Comings.{keeps, endpoint_block, SpanLaws, no_span, least_host, none_at_all}
use Rattle.cxl_walk.proofs.upward.least.Goals as goal

pub returns-then-is_some-clause-none : goal.returns-then-is_some-clause-none
returns-then-is_some-clause-none c = λ first h comes.
    let s : System = system_of c.args.image.now c.args.topo.now c.args.windows.now in
    let block = c.block-block.result.now in
    let kept = keeps s c.args.ep c.args.dpa first h block c.block-block.ensures.value comes in
    some_not c.block_breach.result _ c.block_breach.ensures.none (sym c.is_some.ensures ∙ c.if-is_some.true)
    (subst (λ (r : ℕ). BlockKeeps block r c.capacity_at-capacity.result.pmem) (sym c.capacity_at-capacity.ensures.ram)
    (subst (λ (p : ℕ). BlockKeeps block (ram_at s c.args.ep) p) (sym c.capacity_at-capacity.ensures.pmem) kept))

-- what the laws of spans say of the endpoint's block
module _ (block : Registers) (ram pmem : ℕ) (block_is : IsBlock block) (kept : BlockKeeps block ram pmem) (endpoint : block.endpoint ≡ true) where
  laws_of :
      ((decoders : List Decoder) (i j : ℕ) → i < j → j < length decoders → span_end_of decoders i ≤ span_start_of decoders j)
      → ((b : Registers) (r p i : ℕ) (d : Decoder) → BlockKeeps b r p → b.endpoint ≡ true → slice_get b.decoders i ≡ Some d → d.committed ≡ true → span_length d * decoder_ways d ≡ d.size)
      → ((b : Registers) (r p i h : ℕ) (d : Decoder) → IsBlock b → BlockKeeps b r p → b.endpoint ≡ true → slice_get b.decoders i ≡ Some d → holds_address d h ≡ true
      → endpoint_place_of (span_start_of b.decoders i) d h < span_start_of b.decoders i + span_length d)
      → SpanLaws block
  laws_of follow shares into = record {
    follow = follow block.decoders;
    shares = λ i d. shares block ram pmem i d kept endpoint;
    into = λ i h d. into block ram pmem i h d block_is kept endpoint;
  }

pub returns-in_default-clause-none : goal.returns-in_default-clause-none
returns-in_default-clause-none c =
    let block = c.block-block.result.now in
    let kept = none_then c.block_breach.result _ c.block_breach.ensures.none (sym c.is_some.ensures ∙ c.if-is_some.false) in
    let endpoint = endpoint_block c.args.topo.now.nodes c.args.image.now c.args.ep block c.requires.caps c.requires.endpoint c.block-block.ensures.value in
    let laws = laws_of block c.capacity_at-capacity.result.ram c.capacity_at-capacity.result.pmem c.block-block.ensures.block kept endpoint c.spans_follow.ensures c.spans_are_whole.ensures.shares c.addresses_go_into_spans.ensures.below in
    no_span (system_of c.args.image.now c.args.topo.now c.args.windows.now) c.args.ep c.args.dpa block c.block-block.ensures.value laws c.in_default.ensures.none

pub returns-clause-some : goal.returns-clause-some
returns-clause-some c =
    let block = c.block-block.result.now in
    let kept = none_then c.block_breach.result _ c.block_breach.ensures.none (sym c.is_some.ensures ∙ c.if-is_some.false) in
    let endpoint = endpoint_block c.args.topo.now.nodes c.args.image.now c.args.ep block c.requires.caps c.requires.endpoint c.block-block.ensures.value in
    let laws = laws_of block c.capacity_at-capacity.result.ram c.capacity_at-capacity.result.pmem c.block-block.ensures.block kept endpoint c.spans_follow.ensures c.spans_are_whole.ensures.shares c.addresses_go_into_spans.ensures.below in
    least_host (system_of c.args.image.now c.args.topo.now c.args.windows.now) c.args.ep c.args.dpa block c.block-block.ensures.value laws c.in-Some.byte c.in-Some.ensures.some c.first_way.result c.first_way.ensures.some

pub returns-clause-none : goal.returns-clause-none
returns-clause-none c =
    let block = c.block-block.result.now in
    let kept = none_then c.block_breach.result _ c.block_breach.ensures.none (sym c.is_some.ensures ∙ c.if-is_some.false) in
    let endpoint = endpoint_block c.args.topo.now.nodes c.args.image.now c.args.ep block c.requires.caps c.requires.endpoint c.block-block.ensures.value in
    let laws = laws_of block c.capacity_at-capacity.result.ram c.capacity_at-capacity.result.pmem c.block-block.ensures.block kept endpoint c.spans_follow.ensures c.spans_are_whole.ensures.shares c.addresses_go_into_spans.ensures.below in
    none_at_all (system_of c.args.image.now c.args.topo.now c.args.windows.now) c.args.ep c.args.dpa block c.block-block.ensures.value laws c.in-Some.byte c.in-Some.ensures.some c.first_way.result c.first_way.ensures.none
