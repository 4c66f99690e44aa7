use Rattle.std.proofs.Common.{sym}
use Rattle.cxl_walk.proofs.Slots.{own_at_place}
use Rattle.cxl_walk.proofs.owned.own_at.Goals as goal

pub returns-in-Some : goal.returns-in-Some
returns-in-Some c =
    let it = c.in-Some.ensures in
    sym (own_at_place c.requires.0 c.requires.1 c.args.own.now it.0 c.args.node c.in-Some.one c.requires.2 it.1 it.2)
