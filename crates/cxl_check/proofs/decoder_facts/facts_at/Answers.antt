use Rattle.std.proofs.Common.{◌≡◌, ◌<◌, Some, arith}
use Rattle.std.specs.Prelude.{slice_get}
use Rattle.std.proofs.lemmas.Option.{slice_get_within}
use Rattle.cxl_enc.specs.declared.caps.MemKind.TheVariants.{Ram}
use Rattle.cxl_model.specs.Hosts.{as_system}
use Rattle.cxl_model.proofs.RangeServers.{in_block}
use Rattle.cxl_check.proofs.decoder_facts.facts_at.Goals as goal

pub returns : goal.returns
returns c =
    let decoders = c.block.result.now.decoders in
    let there : slice_get decoders c.args.i ≡ Some c.args.d.now = rw c.block.ensures.value at c.requires.committed.there in
    let low = slice_get_within decoders c.args.i c.args.d.now there in
    let few : c.args.i < 10 = omega (arith, low, c.count-decoders.ensures.value, c.count-decoders.ensures.few) in
    rw c.from.ensures
    (c.requires.all.each c.args.node c.args.i c.args.d.now (record { start = 0; ways = 0; bits = 0; kind = Ram })
    (omega (arith, few, c.requires.here)) few c.requires.committed.there c.requires.committed.committed)

pub block-requires : goal.block-requires
block-requires c =
    let own = in_block (as_system c.args.host.now) c.args.node c.args.i c.args.d.now c.requires.committed.there in
    slice_get_within c.args.host.now.image.now c.args.node own.block own.at

pub bounds-all-node : goal.bounds-all-node
bounds-all-node c =
    let decoders = c.block.result.now.decoders in
    let there : slice_get decoders c.args.i ≡ Some c.args.d.now = rw c.block.ensures.value at c.requires.committed.there in
    let low = slice_get_within decoders c.args.i c.args.d.now there in
    let few : c.args.i < 10 = omega (arith, low, c.count-decoders.ensures.value, c.count-decoders.ensures.few) in
    omega (arith, few, c.requires.here, c.requires.all.count, c.from.ensures)
