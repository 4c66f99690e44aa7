use Rattle.cxl_rows.proofs.OkValues.{at_ok}
use Rattle.cxl_rows.proofs.acts.act.Goals as goal

pub returns : goal.returns
returns g c =
    let one = at_ok _ _ _ c.expect-reply.ensures c.act.ensures.answer c.requires.stands.0 c.requires.stands.1 in
    (one.0.machine, one.2.at)
