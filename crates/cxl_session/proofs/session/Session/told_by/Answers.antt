use Rattle.std.proofs.Common.{Some, None, subst}
use Rattle.std.specs.Prelude.{IfSome, IfNone}
use Rattle.cxl_window.specs.Fields.{WindowFields}
use Rattle.cxl_model.specs.declared.found.Found.{Found}
use Rattle.cxl_model.specs.Bytes.{LiesInSpan}
use Rattle.cxl_model.specs.Regions.{Carries}
use Rattle.cxl_model.specs.System.{System}
use Rattle.cxl_move.specs.Woven.{IsWovenIn}
use Rattle.cxl_session.specs.State.{SessionState}
use Rattle.cxl_session.specs.inner.Places.{HoldsAt}
use Rattle.cxl_session.proofs.Within.{name_within, found_within, kept_within}
use Rattle.cxl_session.proofs.Ups.{woven_there, none_held, none_carried, told_there}
use Rattle.cxl_session.proofs.session.Session.told_by.Goals as goal

pub returns-in_err-place-clause-none : goal.returns-in_err-place-clause-none
returns-in_err-place-clause-none c =
    rw c.from_residual.ensures (λ m stands is.
    let session : SessionState = c.args.self.now in
    let holds : HoldsAt session m c.args.base None = subst (HoldsAt session m c.args.base) c.in_err-place.was (c.place_of_host.ensures m stands is) in
    none_held session m stands c.args.endpoint c.args.dpa c.regions_share_no_byte.ensures.host c.regions_lie_in_windows.ensures.some is c.args.base holds)

pub kept_at-requires : goal.kept_at-requires
kept_at-requires c =
    let (m, stands, is) = c.requires in
    let session : SessionState = c.args.self.now in
    let holds : HoldsAt session m c.args.base (Some c.in_ok-place.place) = subst (HoldsAt session m c.args.base) c.in_ok-place.was (c.place_of_host.ensures m stands is) in
    kept_within session m c.in_ok-place.place holds.0 holds.2

pub found_at-requires : goal.found_at-requires
found_at-requires c =
    let (m, stands, is) = c.requires in
    let session : SessionState = c.args.self.now in
    let holds : HoldsAt session m c.args.base (Some c.in_ok-place.place) = subst (HoldsAt session m c.args.base) c.in_ok-place.was (c.place_of_host.ensures m stands is) in
    found_within session m c.in_ok-place.place holds.0 holds.2

pub carried_address-requires : goal.carried_address-requires
carried_address-requires c =
    let (m, stands, is) = c.requires in
    woven_there c.args.self.now m stands is c.in_ok-place.place c.found_at.result.now c.kept_at.result.now c.weave-weave.result.now c.found_at.ensures c.kept_at.ensures c.weave-weave.ensures

pub returns-in_err-h-clause-none : goal.returns-in_err-h-clause-none
returns-in_err-h-clause-none c =
    rw c.from_residual-in_err-h.ensures (λ m stands is.
    let session : SessionState = c.args.self.now in
    let found : Found = c.found_at.result.now in
    let holds : HoldsAt session m c.args.base (Some c.in_ok-place.place) = subst (HoldsAt session m c.args.base) c.in_ok-place.was (c.place_of_host.ensures m stands is) in
    let fails : LiesInSpan found c.args.endpoint c.args.dpa → ⊥ = subst (λ o. IfNone o (LiesInSpan found c.args.endpoint c.args.dpa → ⊥)) c.in_err-h.was c.carried_address.ensures.none in
    none_carried session m stands c.args.endpoint c.args.dpa c.regions_share_no_byte.ensures.host c.regions_lie_in_windows.ensures.some is c.args.base c.in_ok-place.place holds.0 found holds.1 holds.2 c.found_at.ensures fails)

pub name_at-name-requires : goal.name_at-name-requires
name_at-name-requires c =
    let (m, stands, is) = c.requires in
    let session : SessionState = c.args.self.now in
    let holds : HoldsAt session m c.args.base (Some c.in_ok-place.place) = subst (HoldsAt session m c.args.base) c.in_ok-place.was (c.place_of_host.ensures m stands is) in
    name_within session m c.in_ok-place.place holds.0 holds.2

pub returns-clause-some : goal.returns-clause-some
returns-clause-some c = λ m stands is.
    let found : Found = c.found_at.result.now in
    let carries : (s : System) (w : WindowFields) → IsWovenIn s w found c.weave-weave.result.now → Carries found w c.in_ok-h.h c.args.endpoint c.args.dpa =
    subst (λ o. IfSome o (λ h. (s : System) (w : WindowFields) → IsWovenIn s w found c.weave-weave.result.now → Carries found w h c.args.endpoint c.args.dpa)) c.in_ok-h.was c.carried_address.ensures.some in
    told_there c.args.self.now m stands c.args.endpoint c.args.dpa is c.in_ok-place.place found c.kept_at.result.now c.weave-weave.result.now c.in_ok-h.h c.name_at-name.result c.found_at.ensures c.kept_at.ensures
    c.weave-weave.ensures c.name_at-name.ensures carries
