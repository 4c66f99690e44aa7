use Rattle.std.proofs.Common.{◌&&◌, ◌||◌, not, true, sym}
use Rattle.std.proofs.lemmas.Bool.{and_parts}
use Rattle.cxl_enc.proofs.Lists.{find_passes}
use Rattle.cxl_window.specs.Fields.{WindowFields}
use Rattle.cxl_window.specs.Position.{is_usable, holds}
use Rattle.cxl_cause.proofs.windows.window_miss.Goals as goal

pub window_end-requires : goal.window_end-requires
window_end-requires c =
    let w : WindowFields = c.in-Some.w.now in
    (and_parts (is_usable w.verdict) (holds w c.args.range.now.base)
    (find_passes (λ (v : WindowFields). (not true || is_usable v.verdict) && holds v c.args.range.now.base) c.args.windows.now w (sym c.in-Some.ensures))).0
