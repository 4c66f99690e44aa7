use Rattle.std.proofs.Common.{ℕ, ◌/◌, Option, not, ap, ◌∙◌}
use Rattle.std.specs.Prelude.{◌==◌, is_some, option_and_then}
use Rattle.cxl_model.specs.Hosts.{as_system}
use Rattle.cxl_pick.specs.Picking.{gives}
use Rattle.cxl_reason.proofs.Targets.{one_tells}
use Rattle.cxl_reason.proofs.windows.gives_at.Goals as goal

pub returns-in-Some : goal.returns-in-Some
returns-in-Some c =
    let s = as_system c.args.host.now in
    let want = c.args.want.now in
    let w = c.args.w.now in
    ap (λ (k : ℕ). not (k == 0)) (c.told.ensures _ c.counts_of-counts.ensures)
    ∙ one_tells (gives s want w c.args.start c.in-Some.bridge (want.ways / c.ways.result))
    ∙ ap (λ (k : ℕ). is_some (gives s want w c.args.start c.in-Some.bridge (want.ways / k))) c.ways.ensures.value
    ∙ ap (λ (o : Option ℕ). is_some (option_and_then (λ b. gives s want w c.args.start b (want.ways / w.ways)) o)) c.in-Some.ensures.bridge
