use Rattle.std.proofs.Common.{drop}
use Rattle.cxl_pipe.specs.Peer.{all_words, words_from}
use Rattle.cxl_pipe.proofs.Asking.{LeadsOn}
use Rattle.cxl_pipe.proofs.pipe_bus.PipeBus.tells_all.Given as goal

-- the words of the nodes before this one are told
abbrev pub invariant-loop-node : goal.invariant-loop-node
invariant-loop-node g l = LeadsOn (all_words l.blocks) (words_from l.node (drop l.node l.blocks)) l.fn.self l.self
