use Rattle.std.proofs.Common.{◌∙◌, refl, arith}
use Rattle.cxl_session.proofs.Loads.{lies_from, lies_ends}
use Rattle.cxl_session.proofs.Ranges.{window_within, region_there, ranged}
use Rattle.cxl_session.proofs.Within.{found_within, within_unrefused}
use Rattle.cxl_session.proofs.session.Session.range.Goals as goal

pub window_at-window-requires : goal.window_at-window-requires
window_at-window-requires c =
    let (m, stands, is) = c.requires.stands in
    window_within c.args.self.now m stands is c.args.reach c.in-Ok.place (c.in-Ok.ensures m stands is) c.found_at-found.result.now c.found_at-found.ensures c.regions_lie_in_windows.ensures.there

pub extents-requires-clause-region : goal.extents-requires-clause-region
extents-requires-clause-region c =
    let (m, stands, is) = c.requires.stands in (
      m.settled,
      is.settled.system,
      region_there c.args.self.now m stands is c.args.reach c.in-Ok.place (c.in-Ok.ensures m stands is) c.found_at-found.result.now c.found_at-found.ensures c.window_at-window.result.now c.window_at-window.ensures,
    )

pub extents-requires-clause-from : goal.extents-requires-clause-from
extents-requires-clause-from c =
    let (m, stands, is) = c.requires.stands in
    lies_from c.args.self.now m is c.args.reach.h c.args.reach.len c.in-Ok.place (c.in-Ok.ensures m stands is) c.found_at-found.result.now c.found_at-found.ensures

pub returns-clause-tells : goal.returns-clause-tells
returns-clause-tells c = λ m stands is.
    ranged c.args.self.now m stands is c.args.reach c.in-Ok.place (c.in-Ok.ensures m stands is) c.found_at-found.result.now c.found_at-found.ensures c.window_at-window.result.now c.window_at-window.ensures
    c.new.result c.in_ok-endpoints.endpoints (c.new.ensures ∙ c.in_ok-extents.ensures.exact) c.in_ok-endpoints.ensures

pub found_at-found-requires : goal.found_at-found-requires
found_at-found-requires c =
    let (m, stands, is) = c.requires.stands in
    let within = c.in-Ok.ensures m stands is in
    found_within c.args.self.now m c.in-Ok.place within.0 within.1

pub overflow_cast-reach : goal.overflow_cast-reach
overflow_cast-reach c = let few = c.requires.few in omega (arith, few)

pub extents-requires-clause-some : goal.extents-requires-clause-some
extents-requires-clause-some c = c.requires.some

pub extents-requires-clause-ends : goal.extents-requires-clause-ends
extents-requires-clause-ends c =
    let (m, stands, is) = c.requires.stands in
    lies_ends c.args.self.now m is c.args.reach.h c.args.reach.len c.in-Ok.place (c.in-Ok.ensures m stands is) c.found_at-found.result.now c.found_at-found.ensures

pub returns-in_err-extents-clause-outright : goal.returns-in_err-extents-clause-outright
returns-in_err-extents-clause-outright c = λ m stands is refused.
    absurd (within_unrefused c.args.self.now m c.args.reach.h c.args.reach.len c.in-Ok.place (c.in-Ok.ensures m stands is) _ refl refused)

pub returns-in_err-endpoints-clause-outright : goal.returns-in_err-endpoints-clause-outright
returns-in_err-endpoints-clause-outright c = λ m stands is refused.
    absurd (within_unrefused c.args.self.now m c.args.reach.h c.args.reach.len c.in-Ok.place (c.in-Ok.ensures m stands is) _ refl refused)
