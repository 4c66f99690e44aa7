use Rattle.std.proofs.Common.{◌≡◌, ◌++◌, take}
use Rattle.std.specs.List.{flat_map, enumerate_from}
use Rattle.cxl_reads.specs.Decoders.{decoder_line}
use Rattle.cxl_reads.proofs.blocks.put_decoders.Given as goal

-- the lines so far are appended
abbrev pub invariant-loop-i : goal.invariant-loop-i
invariant-loop-i l =
    l.out.items ≡ l.fn.out.items ++ flat_map (decoder_line l.topo.nodes l.node l.block.endpoint) (enumerate_from 0 (take l.i l.block.decoders))
