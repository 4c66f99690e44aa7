use Rattle.cxl_media.proofs.Rolls.{plain_told}
use Rattle.cxl_media.proofs.map_media.MapMediaRoll.at.Goals as goal

pub returns : goal.returns
returns c = plain_told _ _ _ _ c.index-block.result.now c.self.view_is c.requires c.index-block.ensures
