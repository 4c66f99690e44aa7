use Rattle.std.proofs.Common.{◌≤◌}
use Rattle.cxl_pipe.specs.Commits.{HasWaited}
use Rattle.cxl_pipe.specs.Pipe.{KeepsRegisters}
use Rattle.cxl_pipe.specs.Protocol.{read_back_limit}
use Rattle.cxl_pipe.proofs.pipe_bus.PipeBus.settles.Given as goal

-- the word was read so often, and was pending each time
abbrev pub invariant-loop-count : goal.invariant-loop-count
invariant-loop-count g l =
    HasWaited l.node l.off l.word l._count l.fn.self l.self × KeepsRegisters l.fn.self l.self × (l._count ≤ read_back_limit)
