use Rattle.std.proofs.Common.{refl, sym, ◌∙◌}
use Rattle.cxl_check.proofs.targets.keeps_targets.Goals as goal

pub returns-then-entries_differ_and_lead_on : goal.returns-then-entries_differ_and_lead_on
returns-then-entries_differ_and_lead_on c =
    let kept = rw c.range-range.ensures at (sym c.entries_differ_and_lead_on.ensures ∙ c.if-entries_differ_and_lead_on.true) in
    (rw c.range-range.ensures at c.targets_land_with.ensures) ∙ sym (rw kept refl)

pub returns-else-entries_differ_and_lead_on : goal.returns-else-entries_differ_and_lead_on
returns-else-entries_differ_and_lead_on c =
    let broken = rw c.range-range.ensures at (sym c.entries_differ_and_lead_on.ensures ∙ c.if-entries_differ_and_lead_on.false) in
    c.if-entries_differ_and_lead_on.false ∙ sym (rw broken refl)
