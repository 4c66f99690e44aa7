use Rattle.cxl_session.proofs.Loads.{kept_down, told_down}
use Rattle.cxl_session.proofs.Within.{name_within, kept_within}
use Rattle.cxl_session.proofs.session.Session.down.Goals as goal

pub down_details-requires : goal.down_details-requires
down_details-requires c =
    let (m, stands, is) = c.requires in
    kept_down c.args.self.now m is c.args.h c.in-Some.place (c.in-Some.ensures m stands is) c.kept_at.result.now c.kept_at.ensures

pub returns-in-Some : goal.returns-in-Some
returns-in-Some c = λ m stands is.
    told_down c.args.self.now m is c.args.h c.in-Some.place (c.in-Some.ensures m stands is) c.kept_at.result.now c.kept_at.ensures c.name_at.result c.down_details.result c.name_at.ensures c.down_details.ensures

pub name_at-requires : goal.name_at-requires
name_at-requires c =
    let (m, stands, is) = c.requires in
    let held = c.in-Some.ensures m stands is in
    name_within c.args.self.now m c.in-Some.place held.0 held.2

pub kept_at-requires : goal.kept_at-requires
kept_at-requires c =
    let (m, stands, is) = c.requires in
    let held = c.in-Some.ensures m stands is in
    kept_within c.args.self.now m c.in-Some.place held.0 held.2
