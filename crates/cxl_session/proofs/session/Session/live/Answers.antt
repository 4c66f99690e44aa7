use Rattle.cxl_session.proofs.LiveRegions.{regions_stand}
use Rattle.cxl_session.proofs.session.Session.live.Goals as goal

pub returns-clause-regions : goal.returns-clause-regions
returns-clause-regions c m stands is = regions_stand c.args.self.now m stands c.live_regions_stay.ensures.region is
