-- What the inner calls say: of one node.
use Rattle.std.specs.Prelude.{ℕ}
use Rattle.cxl_regs.specs.declared.decoder.Decoder.{Decoder}
use Rattle.cxl_regs.specs.Registers.{Registers}
use Rattle.cxl_span.specs.Spans.{span_start_of, endpoint_place_of}
use Rattle.cxl_model.specs.declared.chain.Miss.{Miss}
use Rattle.cxl_model.specs.Chain.{Move, Forwards, Steps, Ends, Misses}
use Rattle.cxl_trace.specs.declared.trace.EndByte.{EndByte}
use Rattle.cxl_trace.specs.declared.turns.Turn.{Turn}
use Rattle.cxl_trace.specs.declared.turns.Turn.TheVariants as turn
use Rattle.cxl_trace.specs.Traces.{walk_end}

-- what a call tells of a node as a move
abbrev pub turn_move : Turn → Move
turn_move (turn.Down child) = Forwards child
turn_move (turn.By step child) = Steps step child
turn_move (turn.Ends ending) = Ends (walk_end ending)

-- the walk ends at no byte
abbrev pub lost_move : Miss → Move
lost_move miss = Ends (Misses miss)

-- the byte to which decoder i in the block of endpoint n sends an address
abbrev pub traced_byte : Registers → ℕ → ℕ → ℕ → Decoder → EndByte
traced_byte block h n i d =
    record { endpoint = n; decoder = i; base = d.base; dpa = endpoint_place_of (span_start_of block.decoders i) d h }
