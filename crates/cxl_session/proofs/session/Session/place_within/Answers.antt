use Rattle.std.proofs.Common.{sym, ◌∙◌}
use Rattle.cxl_session.proofs.Within.{found_within, found_holds, unheld, within_by, crosses_by}
use Rattle.cxl_session.proofs.session.Session.place_within.Goals as goal

pub returns-in_default : goal.returns-in_default
returns-in_default c = λ m stands is. unheld c.args.self.now m c.args.h c.args.len (c.in_default.ensures m stands is)

pub found_at-requires : goal.found_at-requires
found_at-requires c =
    let (m, stands, is) = c.requires in
    let holds = c.in-Some.ensures m stands is in
    found_within c.args.self.now m c.in-Some.place holds.0 holds.2

pub ends_within-requires : goal.ends_within-requires
ends_within-requires c =
    let (m, stands, is) = c.requires in
    found_holds c.args.self.now m c.args.h c.args.len c.in-Some.place (c.in-Some.ensures m stands is) c.found_at.result.now c.found_at.ensures

pub returns-then-ends_within : goal.returns-then-ends_within
returns-then-ends_within c = λ m stands is.
    within_by c.args.self.now m c.args.h c.args.len c.in-Some.place (c.in-Some.ensures m stands is) c.found_at.result.now c.found_at.ensures (sym c.ends_within.ensures ∙ c.if-ends_within.true)

pub returns-else-ends_within : goal.returns-else-ends_within
returns-else-ends_within c = λ m stands is.
    crosses_by c.args.self.now m c.args.h c.args.len c.in-Some.place (c.in-Some.ensures m stands is) c.found_at.result.now c.found_at.ensures (sym c.ends_within.ensures ∙ c.if-ends_within.false)
