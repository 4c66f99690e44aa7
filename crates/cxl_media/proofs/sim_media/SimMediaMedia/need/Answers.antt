use Rattle.std.proofs.Common.{sym}
use Rattle.cxl_media.proofs.SimCalls.{sim_view, in_needed, out_needed}
use Rattle.cxl_media.proofs.sim_media.SimMediaMedia.need.Goals as goal

pub returns-in-Some : goal.returns-in-Some
returns-in-Some c = sym (in_needed _ _ (sim_view _ _ _ c.self.view_is) _ _ c.in-Some.ensures)

pub returns-in-None : goal.returns-in-None
returns-in-None c = sym (out_needed _ _ (sim_view _ _ _ c.self.view_is) _ c.in-None.ensures)
