use Rattle.std.proofs.Common.{sym}
use Rattle.cxl_span.proofs.BreaksAt.{tells_here}
use Rattle.cxl_span.proofs.testing.breaks_at.Goals as goal

pub returns : goal.returns
returns c =
    sym (tells_here c.args.rule c.args.block.now c.args.ram c.args.pmem c.args.i c.decoder-d.result c.decoder_before.result c.taken_before.result c.breaks_rule.result
    c.decoder-d.ensures.value c.decoder_before.ensures c.taken_before.ensures.value (sym (rw c.from.ensures at c.breaks_rule.ensures)))
