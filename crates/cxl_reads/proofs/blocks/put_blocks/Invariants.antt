use Rattle.std.proofs.Common.{◌≡◌, ◌++◌, take}
use Rattle.std.specs.List.{flat_map, enumerate_from}
use Rattle.cxl_reads.specs.Decoders.{block_lines}
use Rattle.cxl_reads.proofs.blocks.put_blocks.Given as goal

-- the lines so far are appended
abbrev pub invariant-loop-node : goal.invariant-loop-node
invariant-loop-node l = l.out.items ≡ l.fn.out.items ++ flat_map (block_lines l.topo.nodes) (enumerate_from 0 (take l.node l.image))
