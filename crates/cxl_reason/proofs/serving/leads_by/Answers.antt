use Rattle.std.proofs.Common.{ℕ, ap, ◌∙◌}
use Rattle.cxl_model.specs.Hosts.{as_system}
use Rattle.cxl_pick.specs.inner.Gifts.{can_lead}
use Rattle.cxl_reason.proofs.serving.leads_by.Goals as goal

pub returns : goal.returns
returns c = λ f are.
    c.can_lead.ensures
    ∙ ap (λ (k : ℕ). can_lead (as_system c.args.host.now) c.args.want.now c.args.w.now c.args.node c.args.m k c.args.u) (c.told.ensures f are)
