use Rattle.std.proofs.Common.{ℕ, ap, ◌∙◌}
use Rattle.std.specs.Prelude.{◌==◌}
use Rattle.cxl_regs.specs.declared.decoder.Decoder.{Decoder}
use Rattle.cxl_regs.specs.Reading.{committed_count}
use Rattle.cxl_legal.proofs.Prefixes.{all_in_front}
use Rattle.cxl_legal.proofs.blocks.is_full.Goals as goal

pub returns : goal.returns
returns c =
    ap (λ (n : ℕ). n == c.count.result) c.committed.ensures ∙ ap (λ (n : ℕ). committed_count c.args.block.now.decoders == n) c.count.ensures.value
    ∙ all_in_front (λ (d : Decoder). d.committed) c.args.block.now.decoders
