use Rattle.std.proofs.Common.{Bool, Some, None, sym, ap, ◌∙◌}
use Rattle.std.specs.Prelude.{if◌then◌else◌}
use Rattle.cxl_pick.proofs.picking.all_given.Goals as goal

pub give_for_each-requires : goal.give_for_each-requires
give_for_each-requires c = record {
  ready = c.requires.ready;
  sound = c.requires.sound;
  count = c.requires.count;
  highest = c.requires.highest;
  none = c.new-given.ensures.items;
  gifts = c.requires.gifts;
  asked = c.requires.asked;
}

pub returns : goal.returns
returns c =
    let given = sym (ap (λ (each : Bool). if each then Some c.give_for_each.new.given.items else None) c.if-not-branch.false) ∙ c.in_ok-give_for_each.ensures.given in
    record { gifts = c.in_ok-give_for_each.ensures.gifts; given = cc given }

pub returns-then-not-branch : goal.returns-then-not-branch
returns-then-not-branch c = record {
  gifts = c.in_ok-give_for_each.ensures.gifts;
  given = sym (ap (λ (each : Bool). if each then Some c.give_for_each.new.given.items else None) c.if-not-branch.true) ∙ c.in_ok-give_for_each.ensures.given;
}
