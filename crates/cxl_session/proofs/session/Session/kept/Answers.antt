use Rattle.cxl_session.proofs.LiveRegions.{routes_stand}
use Rattle.cxl_session.proofs.session.Session.kept.Goals as goal

pub returns-clause-routes : goal.returns-clause-routes
returns-clause-routes c m stands is = routes_stand c.args.self.now m stands c.live_regions_stay.ensures.system c.live_regions_stay.ensures.region c.kept_routes_stay.ensures.below is
