use Rattle.std.proofs.Common.{arith}
use Rattle.cxl_reads.specs.Decoders.{decoder_line}
use Rattle.cxl_reads.proofs.Steps.{item_line, all_lines}
use Rattle.cxl_reads.proofs.blocks.put_decoders.Goals as goal

pub loop-i-preserved : goal.loop-i-preserved
loop-i-preserved c =
    item_line (decoder_line c.args.topo.now.nodes c.args.node c.args.block.now.endpoint) c.args.block.now.decoders c.loop-i.i c.decoder.result _ _ _ c.decoder.ensures.value c.loop-i.invariant
    (rw c.endpoint-endpoint.ensures.value at c.in_ok-put_decoder_line.ensures)

pub returns : goal.returns
returns c = all_lines (decoder_line c.args.topo.now.nodes c.args.node c.args.block.now.endpoint) c.args.block.now.decoders c.loop-i.i _ _ (omega arith) c.loop-i.invariant
