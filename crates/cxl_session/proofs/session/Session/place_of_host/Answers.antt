use Rattle.std.proofs.Common.{◌≡◌, sym, ap, subst, ◌∙◌}
use Rattle.std.specs.Prelude.{position}
use Rattle.cxl_model.specs.declared.found.Found.{Found}
use Rattle.cxl_machine.specs.Machine.{has_host}
use Rattle.cxl_live.specs.Apart.{LieApart}
use Rattle.cxl_session.specs.State.{SessionState}
use Rattle.cxl_session.proofs.Apart.{live_apart}
use Rattle.cxl_session.proofs.Places.{holds_at}
use Rattle.cxl_session.proofs.session.Session.place_of_host.Goals as goal

pub returns : goal.returns
returns c = λ m stands is.
    let session : SessionState = c.args.self.now in
    let same : c.self.inside.founds ≡ session.founds = ap (λ (s : SessionState). s.founds) c.self.view_is in
    let apart = live_apart c.regions_share_no_byte.ensures.host c.regions_lie_in_windows.ensures.some session m stands is in
    holds_at session m c.args.h stands c.holder.result
    (c.holder.ensures (subst LieApart (sym same) apart) ∙ ap (position (λ (found : Found). has_host found c.args.h)) same)
