use Rattle.std.proofs.Common.{◌≡◌, ℕ, ◌+◌, ◌*◌, ◌<◌, ◌≤◌, get_or, length, ap, ◌∙◌, arith}
use Rattle.cxl_enc.specs.declared.caps.MemKind.TheVariants.{Ram}
use Rattle.cxl_regs.specs.Reading.{decoder_ways, select_bits}
use Rattle.cxl_model.specs.Hosts.{as_system}
use Rattle.cxl_check.specs.declared.decoder_facts.DecoderFacts.{DecoderFacts}
use Rattle.cxl_check.proofs.WaysUp.{few_ways, few_bits, ways_fit}
use Rattle.cxl_check.proofs.Worked.{number_within, port_worked}
use Rattle.cxl_check.proofs.above.with_port.Goals as goal

abbrev none : DecoderFacts
none = record { start = 0; ways = 0; bits = 0; kind = Ram }

pub block-block-requires : goal.block-block-requires
block-block-requires c =
    let count : length c.args.host.now.image.now ≡ length c.args.host.now.topo.now.nodes = c.requires.ready.system.caps.count in
    omega (arith, count, c.requires.here)

pub decoder-d-requires : goal.decoder-d-requires
decoder-d-requires c =
    rw c.block-block.ensures.value at (number_within (as_system c.args.host.now) c.args.range.now c.args.port c.args.i c.requires.index)

pub overflow_mul-result : goal.overflow_mul-result
overflow_mul-result c =
    let s = as_system c.args.host.now in
    let low = rw c.block-block.ensures.value at (number_within s c.args.range.now c.args.port c.args.i c.requires.index) in
    let few : c.args.i < 10 = omega (arith, low, c.count-decoders.ensures.value, c.count-decoders.ensures.few) in
    let own = port_worked s c.args.range.now c.args.port c.args.i c.decoder-d.result c.args.all.now none c.requires.before few c.requires.index (rw c.block-block.ensures.value c.decoder-d.ensures.value) in
    let above : ℕ = (get_or c.args.all.now (10 * c.args.port + c.from.result) none).ways in
    let up : above ≤ 1048576 = rw c.from.ensures own.few_ways in
    let ways = few_ways c.decoder-d.result in
    let fit = ways_fit c.from-2.result above (omega (arith, ways, c.interleave_ways.ensures.value, c.from-2.ensures)) up in
    omega (arith, fit)

pub overflow_add-result : goal.overflow_add-result
overflow_add-result c =
    let s = as_system c.args.host.now in
    let low = rw c.block-block.ensures.value at (number_within s c.args.range.now c.args.port c.args.i c.requires.index) in
    let few : c.args.i < 10 = omega (arith, low, c.count-decoders.ensures.value, c.count-decoders.ensures.few) in
    let own = port_worked s c.args.range.now c.args.port c.args.i c.decoder-d.result c.args.all.now none c.requires.before few c.requires.index (rw c.block-block.ensures.value c.decoder-d.ensures.value) in
    let up : (get_or c.args.all.now (10 * c.args.port + c.from.result) none).bits ≤ 20 = rw c.from.ensures own.few_bits in
    let bits = few_bits c.decoder-d.result in
    omega (arith, up, bits, c.from-3.ensures, c.select_bits.ensures, c.from-4.ensures)

pub returns : goal.returns
returns c =
    let s = as_system c.args.host.now in
    let low = rw c.block-block.ensures.value at (number_within s c.args.range.now c.args.port c.args.i c.requires.index) in
    let few : c.args.i < 10 = omega (arith, low, c.count-decoders.ensures.value, c.count-decoders.ensures.few) in
    let own = port_worked s c.args.range.now c.args.port c.args.i c.decoder-d.result c.args.all.now none c.requires.before few c.requires.index (rw c.block-block.ensures.value c.decoder-d.ensures.value) in
    let d = c.decoder-d.result in
    record {
      d = d;
      has = own.has;
      ways =
          ap (λ (ways : ℕ). ways * (get_or c.args.all.now (10 * c.args.port + c.from.result) none).ways) (c.from-2.ensures ∙ c.interleave_ways.ensures.value)
          ∙ ap (λ (above : ℕ). decoder_ways d * above) (rw c.from.ensures own.ways);
      bits = ap (λ (bits : ℕ). bits + c.from-4.result) (c.from-3.ensures ∙ c.select_bits.ensures) ∙ ap (λ (above : ℕ). select_bits d.ways + above) (c.from-4.ensures ∙ rw c.from.ensures own.bits);
    }
