use Rattle.std.proofs.Common.{List, ap, ◌∙◌}
use Rattle.cxl_model.specs.Hosts.{as_system}
use Rattle.cxl_model.specs.Plans.{with_rows}
use Rattle.cxl_model.specs.declared.plan.Row.{Row}
use Rattle.std.specs.Prelude.{map}
use Rattle.cxl_session.specs.inner.Creating.{own_of}
use Rattle.cxl_session.proofs.OwnAhead.{own_ahead}
use Rattle.cxl_session.proofs.PreparedCreates.{has_own, kept_ahead}
use Rattle.cxl_session.proofs.creating.routes_ahead.Goals as goal

pub along-requires : goal.along-requires
along-requires c =
    let s = as_system c.args.host.now in
    let after = c.regions_stay_after_a_create.ensures.system s c.requires.legal.0 c.args.plan.now c.requires.settled.system c.requires.legal.1 in
    let are = c.in_ok-own.ensures ∙ ap (λ (rows : List Row). map own_of rows) c.items.ensures ∙ own_ahead s c.requires.settled.system c.requires.legal.0 c.args.plan.now c.requires.legal.1 after in
    (with_rows s c.args.plan.now.rows, has_own s c.requires.settled c.requires.legal.0 c.args.plan.now c.requires.legal.1 after c.in_ok-own.own.items are)

pub returns : goal.returns
returns c =
    let s = as_system c.args.host.now in
    let after = c.regions_stay_after_a_create.ensures.system s c.requires.legal.0 c.args.plan.now c.requires.settled.system c.requires.legal.1 in
    let are = c.in_ok-own.ensures ∙ ap (λ (rows : List Row). map own_of rows) c.items.ensures ∙ own_ahead s c.requires.settled.system c.requires.legal.0 c.args.plan.now c.requires.legal.1 after in
    kept_ahead s c.requires.settled c.requires.legal.0 c.args.plan.now c.requires.legal.1 after c.in_ok-own.own.items are c.in_ok-kept.kept c.in_ok-kept.ensures
