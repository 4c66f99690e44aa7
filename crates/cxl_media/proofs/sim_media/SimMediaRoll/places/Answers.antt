use Rattle.std.proofs.Common.{subst}
use Rattle.cxl_media.specs.Roll.{IsRoll}
use Rattle.cxl_media.specs.Sim.{Shipped, shipped_blocks, shipped_roll}
use Rattle.cxl_media.proofs.Rolls.{shipped_lists}
use Rattle.cxl_media.proofs.sim_media.SimMediaRoll.places.Goals as goal

pub returns-clause-blocks : goal.returns-clause-blocks
returns-clause-blocks c =
    subst (λ (s : Shipped). IsRoll (shipped_roll s) (shipped_blocks s)) c.self.view_is (shipped_lists c.self.inside.pool c.self.inside.index.cells c.len.ensures.once)
