use Rattle.cxl_session.specs.Standing.{Stands}
use Rattle.cxl_rows.proofs.OkValues.{if_ok}
use Rattle.cxl_rows.proofs.acts.opened.Goals as goal

pub returns : goal.returns
returns g c =
    if_ok _ (λ session. Stands session (g.R.Regs.state c.open.new.regs) (g.M.Media.state c.open.new.media)) _ (λ session one. (one.0, one.2)) c.open.ensures.opened
