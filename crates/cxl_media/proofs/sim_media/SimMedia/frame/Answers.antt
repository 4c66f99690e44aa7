use Rattle.cxl_media.proofs.SimCalls.{sim_view, frame_there, frame_holds}
use Rattle.cxl_media.proofs.sim_media.SimMedia.frame.Goals as goal

pub returns-clause-there : goal.returns-clause-there
returns-clause-there c = frame_there _ _ (sim_view _ _ _ c.self.view_is) _ c.find.result c.find.ensures

pub returns-clause-bytes : goal.returns-clause-bytes
returns-clause-bytes c = frame_holds _ _ (sim_view _ _ _ c.self.view_is) _ _ c.find.result c.self.invariant.sim c.find.ensures
