use Rattle.std.proofs.Common.{ℕ, arith, below_more}
use Rattle.std.proofs.lemmas.Option.{slice_get_within}
use Rattle.cxl_regs.specs.declared.decoder.Decoder.{Decoder}
use Rattle.cxl_walk.specs.inner.WaysUp.{IsSpanByte}
use Rattle.cxl_walk.proofs.spans.committed_byte.Goals as goal

pub loop-i-preserved : goal.loop-i-preserved
loop-i-preserved c =
    below_more (λ (k : ℕ). (along : ℕ) (d : Decoder) → IsSpanByte c.args.block.now.decoders c.args.dpa k d along → ⊥) c.loop-i.i c.loop-i.invariant c.in_default.ensures.none

pub returns-clause-none : goal.returns-clause-none
returns-clause-none c = λ i along d is.
    let within = slice_get_within c.args.block.now.decoders i d is.there in
    c.loop-i.invariant i (omega arith) along d is
