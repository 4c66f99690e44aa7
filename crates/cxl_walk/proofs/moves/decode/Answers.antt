use Rattle.std.proofs.Common.{◌≡◌, ℕ, true, refl, sym, ap, ◌∙◌, rules}
use Rattle.std.proofs.lemmas.Option.{slice_get_within}
use Rattle.std.specs.Prelude.{slice_get}
use Rattle.cxl_enc.proofs.Options.{some_and}
use Rattle.cxl_topo.specs.Tree.{child_of}
use Rattle.cxl_regs.specs.declared.decoder.Decoder.{Decoder}
use Rattle.cxl_regs.specs.Reading.{holds_address}
use Rattle.cxl_walk.specs.inner.Calls.{byte_at}
use Rattle.cxl_walk.proofs.Nodes.{none_then, some_not, here, bad_block, arrives, steps, lacks_child}
use Rattle.cxl_walk.proofs.moves.decode.Goals as goal

pub decoder-d-requires : goal.decoder-d-requires
decoder-d-requires c =
    let held = some_and (slice_get c.block-block.result.now.decoders c.in-Some.i) (λ (d : Decoder). holds_address d c.args.h ≡ true) c.in-Some.ensures.some in
    slice_get_within c.block-block.result.now.decoders c.in-Some.i held.0 held.1

pub returns-then-is_some-clause-miss : goal.returns-then-is_some-clause-miss
returns-then-is_some-clause-miss c =
    let at = here c.args.topo.now.nodes c.args.image.now c.args.node c.block-block.result.now c.capacity_at-capacity.result.ram c.capacity_at-capacity.result.pmem c.requires.caps c.requires.own c.block-block.ensures.value c.capacity_at-capacity.ensures.ram c.capacity_at-capacity.ensures.pmem in
    let broken = some_not c.block_breach.result _ c.block_breach.ensures.none (sym c.is_some.ensures ∙ c.if-is_some.true) in
    λ windows. (refl, bad_block c.args.topo.now c.args.image.now windows c.args.h c.args.node c.block-block.result.now c.capacity_at-capacity.result.ram c.capacity_at-capacity.result.pmem at broken)

pub returns-then-endpoint-clause-next : goal.returns-then-endpoint-clause-next
returns-then-endpoint-clause-next c =
    let at = here c.args.topo.now.nodes c.args.image.now c.args.node c.block-block.result.now c.capacity_at-capacity.result.ram c.capacity_at-capacity.result.pmem c.requires.caps c.requires.own c.block-block.ensures.value c.capacity_at-capacity.ensures.ram c.capacity_at-capacity.ensures.pmem in
    let kept = none_then c.block_breach.result _ c.block_breach.ensures.none (sym c.is_some.ensures ∙ c.if-is_some.false) in
    let arrived = some_and (slice_get c.block-block.result.now.decoders c.in-Some.i) (λ (d : Decoder). c.arrive.result ≡ byte_at c.block-block.result.now c.args.h c.args.node c.in-Some.i d) c.arrive.ensures in
    let holds = rw arrived.1 at c.in-Some.ensures.some in
    λ windows. rw arrived.2 (arrives c.args.topo.now c.args.image.now windows c.args.h c.args.node c.block-block.result.now c.capacity_at-capacity.result.ram c.capacity_at-capacity.result.pmem at c.in-Some.i arrived.0 kept (sym c.endpoint.ensures.value ∙ c.if-endpoint.true) arrived.1 holds)

pub returns-in-Some-child-clause-next : goal.returns-in-Some-child-clause-next
returns-in-Some-child-clause-next c =
    let at = here c.args.topo.now.nodes c.args.image.now c.args.node c.block-block.result.now c.capacity_at-capacity.result.ram c.capacity_at-capacity.result.pmem c.requires.caps c.requires.own c.block-block.ensures.value c.capacity_at-capacity.ensures.ram c.capacity_at-capacity.ensures.pmem in
    let kept = none_then c.block_breach.result _ c.block_breach.ensures.none (sym c.is_some.ensures ∙ c.if-is_some.false) in
    let d = c.decoder-d.result in
    let holds = rw c.decoder-d.ensures.value at c.in-Some.ensures.some in
    λ windows. steps c.args.topo.now c.args.image.now windows c.args.h c.args.node c.block-block.result.now c.capacity_at-capacity.result.ram c.capacity_at-capacity.result.pmem at c.in-Some.i c.entry_of-entry.result c.in-Some-child.child d kept (sym c.endpoint.ensures.value ∙ c.if-endpoint.false) c.decoder-d.ensures.value holds c.entry_of-entry.ensures.value
    (ap (λ (p : ℕ). child_of c.args.topo.now.nodes c.args.node p) (sym c.entry_at.ensures.port) ∙ sym c.in-Some-child.ensures.child)

pub returns-in-None-clause-miss : goal.returns-in-None-clause-miss
returns-in-None-clause-miss c =
    let at = here c.args.topo.now.nodes c.args.image.now c.args.node c.block-block.result.now c.capacity_at-capacity.result.ram c.capacity_at-capacity.result.pmem c.requires.caps c.requires.own c.block-block.ensures.value c.capacity_at-capacity.ensures.ram c.capacity_at-capacity.ensures.pmem in
    let kept = none_then c.block_breach.result _ c.block_breach.ensures.none (sym c.is_some.ensures ∙ c.if-is_some.false) in
    let d = c.decoder-d.result in
    let holds = rw c.decoder-d.ensures.value at c.in-Some.ensures.some in
    λ windows. (
      refl,
      lacks_child c.args.topo.now c.args.image.now windows c.args.h c.args.node c.block-block.result.now c.capacity_at-capacity.result.ram c.capacity_at-capacity.result.pmem at c.in-Some.i c.entry_of-entry.result d kept (sym c.endpoint.ensures.value ∙ c.if-endpoint.false) c.decoder-d.ensures.value holds c.entry_of-entry.ensures.value
          (ap (λ (p : ℕ). child_of c.args.topo.now.nodes c.args.node p) (sym c.entry_at.ensures.port) ∙ sym c.in-None.ensures.child),
    )

pub returns-in_default-clause-miss : goal.returns-in_default-clause-miss
returns-in_default-clause-miss c = search rules
