use Rattle.std.proofs.Common.{◌≡◌, ℕ, ◌≤◌, List, sym, ◌∙◌, arith}
use Rattle.std.proofs.lemmas.Bool.{false≢true}
use Rattle.cxl_window.specs.Fields.{WindowFields}
use Rattle.cxl_model.specs.Hosts.{as_system}
use Rattle.cxl_model.specs.System.{System}
use Rattle.cxl_pick.specs.declared.want.Want.{Want}
use Rattle.cxl_pick.specs.Picking.{HasPlanIn}
use Rattle.cxl_reason.specs.Reasons.{IsAskedOf, HasNoPlanIn, count_there, with_size}
use Rattle.cxl_reason.specs.inner.Sizes.{GivesAt}
use Rattle.cxl_reason.proofs.Fresh.{open_parts}
use Rattle.cxl_reason.proofs.FirstReasons.{first_at, none_6}
use Rattle.cxl_reason.proofs.RoomReasons.{room_says}
use Rattle.cxl_reason.proofs.answering.answer_of_sets.Goals as goal

-- a set is asked of the host at any size
asked_at : (s : System) (want : Want) (size : ℕ) → IsAskedOf s want → IsAskedOf s (with_size want size)
asked_at s want size is = record { system = is.system; ports = is.ports; accepted = is.accepted; ways = is.ways; code = is.code }

many_of : (count ways from there : ℕ) → count ≡ there → from ≡ ways → from ≤ count → ways ≤ there
many_of count ways from there is same enough = omega (arith, is, same, enough)

pub largest_size-requires-clause-falls : goal.largest_size-requires-clause-falls
largest_size-requires-clause-falls c = λ size lower less legal gives. record {
  legal = legal;
  gives = c.plans_stand_where_bridges_give.ensures.lower (as_system c.args.host.now) (with_size c.args.want.now size) c.args.w.now lower (asked_at (as_system c.args.host.now) c.args.want.now size c.requires.ready.asked) gives.legal c.requires.there legal less gives.gives;
}

pub returns : goal.returns
returns c =
    let s : System = as_system c.args.host.now in
    let want : Want = c.args.want.now in
    let w : WindowFields = c.args.w.now in
    let law = c.plans_stand_where_bridges_give.ensures in
    let none : HasNoPlanIn s want w = λ set has. false≢true (sym (sym c.is_given.ensures ∙ c.if-is_given.false) ∙ law.given s want w set c.requires.ready.asked has) in
    let given : (size : ℕ) (set : List ℕ) → HasPlanIn s (with_size want size) w set → GivesAt s want w size =
    λ size set has. record {
      legal = law.size s (with_size want size) w set (asked_at s want size c.requires.ready.asked) has;
      gives = law.given s (with_size want size) w set (asked_at s want size c.requires.ready.asked) has;
    } in
    let plan : (size : ℕ) → GivesAt s want w size → (set : List ℕ) × HasPlanIn s (with_size want size) w set =
    λ size gives. law.plan s (with_size want size) w (asked_at s want size c.requires.ready.asked) gives.legal c.requires.there gives.gives in
    let many = many_of c.count_there-count.result want.ways c.from.result (count_there s want.kind w) c.count_there-count.ensures c.from.ensures c.if-count-from.false in
    record {
      holds = room_says s want w given plan c.largest_size.result none c.largest_size.ensures;
      first = first_at s want w 6 (none_6 s want w (open_parts want w c.requires.opened) many (c.has_codes.ensures.some c.if-not-has_codes.false));
    }
