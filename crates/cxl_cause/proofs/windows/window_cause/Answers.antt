use Rattle.std.proofs.Common.{sym}
use Rattle.cxl_enc.proofs.Lists.{find_passes}
use Rattle.cxl_model.specs.Ranges.{lies_within}
use Rattle.cxl_cause.proofs.windows.window_cause.Goals as goal

pub next_third-requires : goal.next_third-requires
next_third-requires c = find_passes (lies_within c.range-range.result) c.args.host.now.windows.now c.in-Some.w.now (sym c.in-Some.ensures)
