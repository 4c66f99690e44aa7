use Rattle.std.proofs.Common.{sym, ◌∙◌}
use Rattle.cxl_window.specs.Judging.{maps_known}
use Rattle.cxl_window.proofs.JudgedUsable.{judged-Usable}
use Rattle.cxl_window.proofs.judge.Judge.window.Goals as goal

pub new-requires : goal.new-requires
new-requires c = λ usable.
    let judged = judged-Usable _ _ (maps_known c.args.self.now c.args.cfmws.now.gran) c.args.cfmws.now (sym c.verdict-verdict.ensures ∙ usable) in
    rw (usable, c.used_maps-maps.ensures) (judged.usable _)
