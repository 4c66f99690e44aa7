use Rattle.std.proofs.Common.{refl}
use Rattle.cxl_pick.proofs.Known.{noted}
use Rattle.cxl_pick.proofs.gifts.note.Goals as goal

pub returns-clause-gifts : goal.returns-clause-gifts
returns-clause-gifts c = λ s want are own below.
    noted s want c.args.gifts.now _ c.args.node c.args.gift are c.requires.here refl (λ w start asked. record { code = asked.code; third = asked.third; least = asked.least; most = asked.most }) own below
