use Rattle.std.proofs.Common.{refl}
use Rattle.cxl_session.proofs.Loads.{lies_from, lies_ends}
use Rattle.cxl_session.proofs.Ranges.{window_within, region_there, spreaded}
use Rattle.cxl_session.proofs.Within.{found_within, within_unrefused}
use Rattle.cxl_session.proofs.session.Session.spread.Goals as goal

pub window_at-requires : goal.window_at-requires
window_at-requires c =
    let (m, stands, is) = c.requires.stands in
    window_within c.args.self.now m stands is c.args.reach c.in-Ok.place (c.in-Ok.ensures m stands is) c.found_at-found.result.now c.found_at-found.ensures c.regions_lie_in_windows.ensures.there

pub spread-bytes-requires-clause-region : goal.spread-bytes-requires-clause-region
spread-bytes-requires-clause-region c =
    let (m, stands, is) = c.requires.stands in (
      m.settled,
      is.settled.system,
      region_there c.args.self.now m stands is c.args.reach c.in-Ok.place (c.in-Ok.ensures m stands is) c.found_at-found.result.now c.found_at-found.ensures c.window_at.result.now c.window_at.ensures,
    )

pub spread-bytes-requires-clause-from : goal.spread-bytes-requires-clause-from
spread-bytes-requires-clause-from c =
    let (m, stands, is) = c.requires.stands in
    lies_from c.args.self.now m is c.args.reach.h c.args.reach.len c.in-Ok.place (c.in-Ok.ensures m stands is) c.found_at-found.result.now c.found_at-found.ensures

pub returns-clause-tells : goal.returns-clause-tells
returns-clause-tells c = λ m stands is.
    spreaded c.args.self.now m stands is c.args.reach c.in-Ok.place (c.in-Ok.ensures m stands is) c.found_at-found.result.now c.found_at-found.ensures c.window_at.result.now c.window_at.ensures
    c.spread-bytes.result c.in_ok-endpoints.endpoints c.spread-bytes.ensures.exact c.in_ok-endpoints.ensures

pub found_at-found-requires : goal.found_at-found-requires
found_at-found-requires c =
    let (m, stands, is) = c.requires.stands in
    let within = c.in-Ok.ensures m stands is in
    found_within c.args.self.now m c.in-Ok.place within.0 within.1

pub spread-bytes-requires-clause-some : goal.spread-bytes-requires-clause-some
spread-bytes-requires-clause-some c = c.requires.some

pub spread-bytes-requires-clause-ends : goal.spread-bytes-requires-clause-ends
spread-bytes-requires-clause-ends c =
    let (m, stands, is) = c.requires.stands in
    lies_ends c.args.self.now m is c.args.reach.h c.args.reach.len c.in-Ok.place (c.in-Ok.ensures m stands is) c.found_at-found.result.now c.found_at-found.ensures

pub returns-in_err-endpoints-clause-outright : goal.returns-in_err-endpoints-clause-outright
returns-in_err-endpoints-clause-outright c = λ m stands is refused.
    absurd (within_unrefused c.args.self.now m c.args.reach.h c.args.reach.len c.in-Ok.place (c.in-Ok.ensures m stands is) _ refl refused)
