use Rattle.std.proofs.Common.{◌≡◌, ℕ, true, refl, sym, ap, ◌∙◌}
use Rattle.std.specs.Prelude.{slice_get}
use Rattle.std.proofs.lemmas.Option.{slice_get_within}
use Rattle.cxl_enc.proofs.Options.{some_and}
use Rattle.cxl_topo.specs.Tree.{child_of, device_ram, device_pmem}
use Rattle.cxl_regs.specs.declared.decoder.Decoder.{Decoder}
use Rattle.cxl_regs.specs.Reading.{holds_address}
use Rattle.cxl_walk.proofs.Nodes.{here, arrives, steps, lacks_child}
use Rattle.cxl_trace.specs.inner.Turns.{traced_byte}
use Rattle.cxl_trace.proofs.turns.turn_by.Goals as goal

pub decoder-d-requires : goal.decoder-d-requires
decoder-d-requires c =
    let own = rw c.block-block.ensures.value at c.requires.holds in
    let held = some_and (slice_get c.block-block.result.now.decoders c.args.i) (λ (d : Decoder). holds_address d c.args.h ≡ true) own in
    slice_get_within c.block-block.result.now.decoders c.args.i held.0 held.1

pub byte_by-requires-clause-keeps : goal.byte_by-requires-clause-keeps
byte_by-requires-clause-keeps c =
    let kept = rw c.block-block.ensures.value at c.requires.keeps in
    rw (c.capacity_at.ensures.ram, c.capacity_at.ensures.pmem) kept

pub byte_by-requires-clause-holds : goal.byte_by-requires-clause-holds
byte_by-requires-clause-holds c = rw c.block-block.ensures.value at c.requires.holds

pub returns-then-endpoint : goal.returns-then-endpoint
returns-then-endpoint c =
    let nodes = c.args.topo.now.nodes in
    let block = c.block-block.result.now in
    let at = here nodes c.args.image.now c.args.node block (device_ram nodes c.args.node) (device_pmem nodes c.args.node) c.requires.caps c.requires.own c.block-block.ensures.value refl refl in
    let kept = rw c.block-block.ensures.value at c.requires.keeps in
    let own = rw c.block-block.ensures.value at c.requires.holds in
    let arrived = some_and (slice_get block.decoders c.args.i) (λ (d : Decoder). c.byte_by.result ≡ traced_byte block c.args.h c.args.node c.args.i d) c.byte_by.ensures in
    let holds = rw arrived.1 at own in
    λ windows. rw arrived.2 (arrives c.args.topo.now c.args.image.now windows c.args.h c.args.node block (device_ram nodes c.args.node) (device_pmem nodes c.args.node) at c.args.i arrived.0 kept (sym c.endpoint.ensures.value ∙ c.if-endpoint.true) arrived.1 holds)

pub returns-in-Some : goal.returns-in-Some
returns-in-Some c =
    let nodes = c.args.topo.now.nodes in
    let block = c.block-block.result.now in
    let at = here nodes c.args.image.now c.args.node block (device_ram nodes c.args.node) (device_pmem nodes c.args.node) c.requires.caps c.requires.own c.block-block.ensures.value refl refl in
    let kept = rw c.block-block.ensures.value at c.requires.keeps in
    let own = rw c.block-block.ensures.value at c.requires.holds in
    let holds = rw c.decoder-d.ensures.value at own in
    λ windows. steps c.args.topo.now c.args.image.now windows c.args.h c.args.node block (device_ram nodes c.args.node) (device_pmem nodes c.args.node) at c.args.i c.entry_of-entry.result c.in-Some.child c.decoder-d.result kept (sym c.endpoint.ensures.value ∙ c.if-endpoint.false) c.decoder-d.ensures.value holds c.entry_of-entry.ensures.value
    (ap (λ (p : ℕ). child_of nodes c.args.node p) (sym c.entry_at.ensures.port) ∙ sym c.in-Some.ensures.child)

pub returns-in-None : goal.returns-in-None
returns-in-None c =
    let nodes = c.args.topo.now.nodes in
    let block = c.block-block.result.now in
    let at = here nodes c.args.image.now c.args.node block (device_ram nodes c.args.node) (device_pmem nodes c.args.node) c.requires.caps c.requires.own c.block-block.ensures.value refl refl in
    let kept = rw c.block-block.ensures.value at c.requires.keeps in
    let own = rw c.block-block.ensures.value at c.requires.holds in
    let holds = rw c.decoder-d.ensures.value at own in
    λ windows. rw c.lost.ensures (
      refl,
      lacks_child c.args.topo.now c.args.image.now windows c.args.h c.args.node block (device_ram nodes c.args.node) (device_pmem nodes c.args.node) at c.args.i c.entry_of-entry.result c.decoder-d.result kept (sym c.endpoint.ensures.value ∙ c.if-endpoint.false) c.decoder-d.ensures.value holds c.entry_of-entry.ensures.value
          (ap (λ (p : ℕ). child_of nodes c.args.node p) (sym c.entry_at.ensures.port) ∙ sym c.in-None.ensures.child),
    )
