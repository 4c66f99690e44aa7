use Rattle.std.proofs.Common.{◌≡◌, length, sym, ap, subst, arith}
use Rattle.std.proofs.lemmas.Result.{IfOk-weaker}
use Rattle.cxl_session.specs.State.{SessionState}
use Rattle.cxl_session.specs.inner.OnDevice.{AddsServed}
use Rattle.cxl_session.proofs.Served.{adds_none, adds_place, alone_there, none_served}
use Rattle.cxl_session.proofs.session.Session.put_served.Goals as goal

pub returns-in_default : goal.returns-in_default
returns-in_default c =
    let (m, stands, is) = c.requires in
    let none = c.in_default.ensures m stands is in
    adds_none c.args.self.now c.args.decoder c.args.places.now.items (λ committed place found at same.
    none_served c.args.self.now c.args.decoder m stands is c.regions_share_no_byte.ensures.host c.regions_lie_in_windows.ensures.some none c.args.places.now.items place found at same)

pub overflow_cast-place : goal.overflow_cast-place
overflow_cast-place c =
    let (m, stands, is) = c.requires in
    let (low, alone) = alone_there c.args.self.now c.args.decoder m stands is c.regions_share_no_byte.ensures.host c.regions_lie_in_windows.ensures.some c.in-Some.place (c.in-Some.ensures m stands is) in
    let count : length c.self.inside.founds ≡ length c.args.self.now.founds = ap (λ (s : SessionState). length s.founds) c.self.view_is in
    let same = c.self.invariant.founds in
    let few = c.self.invariant.few in
    omega (arith, low, count, same, few)

pub returns : goal.returns
returns c =
    let (m, stands, is) = c.requires in
    let (low, alone) = alone_there c.args.self.now c.args.decoder m stands is c.regions_share_no_byte.ensures.host c.regions_lie_in_windows.ensures.some c.in-Some.place (c.in-Some.ensures m stands is) in
    let adds = adds_place c.args.self.now c.args.decoder c.args.places.now.items c.in-Some.place low alone in
    IfOk-weaker c.put_place.result _ _ (λ _ items. subst (AddsServed c.args.self.now c.args.decoder c.args.places.now.items) (sym items) adds) c.put_place.ensures
