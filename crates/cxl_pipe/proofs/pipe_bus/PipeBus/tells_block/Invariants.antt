use Rattle.cxl_pipe.specs.Peer.{words_of}
use Rattle.cxl_pipe.proofs.Asking.{LeadsOn, words_left}
use Rattle.cxl_pipe.proofs.pipe_bus.PipeBus.tells_block.Given as goal

-- the words before this place are told
abbrev pub invariant-loop-place : goal.invariant-loop-place
invariant-loop-place g l = LeadsOn (words_of l.node l.block) (words_left l.node l.block l.place) l.fn.self l.self
