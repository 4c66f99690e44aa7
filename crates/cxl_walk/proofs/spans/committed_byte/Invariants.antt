use Rattle.std.proofs.Common.{ℕ, ◌<◌}
use Rattle.cxl_regs.specs.declared.decoder.Decoder.{Decoder}
use Rattle.cxl_walk.specs.inner.WaysUp.{IsSpanByte}
use Rattle.cxl_walk.proofs.spans.committed_byte.Given as goal

abbrev pub invariant-loop-i : goal.invariant-loop-i
invariant-loop-i l = (k : ℕ) → k < l.i → (along : ℕ) (d : Decoder) → IsSpanByte l.block.decoders l.dpa k d along → ⊥
