use Rattle.std.proofs.Common.{subst}
use Rattle.cxl_media.specs.Roll.{IsRoll}
use Rattle.cxl_media.specs.MapInside.{Plain, plain_state, plain_roll, items_of}
use Rattle.cxl_media.proofs.Rolls.{plain_lists}
use Rattle.cxl_media.proofs.map_media.MapMediaRoll.places.Goals as goal

pub returns-clause-blocks : goal.returns-clause-blocks
returns-clause-blocks c =
    subst (λ (p : Plain). IsRoll (plain_roll p) (plain_state p).blocks) c.self.view_is (plain_lists (items_of c.self.inside.blocks.items) c.self.invariant.distinct)
