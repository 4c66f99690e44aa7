use Rattle.std.proofs.Common.{◌≡◌, ℕ, ◌/◌, List, length, get_or, Some, None, refl, sym, ap, subst, ◌∙◌, arith}
use Rattle.std.specs.Prelude.{slice_get}
use Rattle.cxl_model.specs.declared.found.Place.{Place}
use Rattle.cxl_model.specs.Bytes.{slot_on}
use Rattle.cxl_model.proofs.FirstSlots.{slot_within, slot_there, no_slot}
use Rattle.cxl_poison.proofs.live.span_on.Goals as goal

pub returns-in_err-slot-clause-none : goal.returns-in_err-slot-clause-none
returns-in_err-slot-clause-none c =
    let none : slot_on c.args.endpoint c.args.found.now.spans ≡ None = sym c.slot_on.ensures ∙ c.in_err-slot.was in
    rw c.from_residual.ensures (λ other is. no_slot c.args.endpoint c.args.found.now.spans other.slot _ none is.place refl)

pub overflow_cast-result : goal.overflow_cast-result
overflow_cast-result c =
    let within = slot_within c.args.endpoint c.args.found.now.spans c.in_ok-slot.slot (record { endpoint = 0; start = 0 }) (sym c.slot_on.ensures ∙ c.in_ok-slot.was) in
    omega (arith, within, c.requires.2.1.slots)

pub bounds-items-slot : goal.bounds-items-slot
bounds-items-slot c =
    let within = slot_within c.args.endpoint c.args.found.now.spans c.in_ok-slot.slot (record { endpoint = 0; start = 0 }) (sym c.slot_on.ensures ∙ c.in_ok-slot.was) in
    omega (arith, within, ap (λ (places : List Place). length places) c.items.ensures)

pub nonzero_div-result : goal.nonzero_div-result
nonzero_div-result c =
    let within = slot_within c.args.endpoint c.args.found.now.spans c.in_ok-slot.slot (record { endpoint = 0; start = 0 }) (sym c.slot_on.ensures ∙ c.in_ok-slot.was) in
    omega (arith, within, c.requires.2.1.slots, c.from.ensures)

pub returns-clause-some : goal.returns-clause-some
returns-clause-some c =
    let spans : List Place = c.args.found.now.spans in
    let none : Place = record { endpoint = 0; start = 0 } in
    let there = slot_there c.args.endpoint spans c.in_ok-slot.slot none (sym c.slot_on.ensures ∙ c.in_ok-slot.was) in
    record {
      place = subst (λ (places : List Place). slice_get spans c.in_ok-slot.slot ≡ Some (record { endpoint = c.args.endpoint; start = (get_or places c.in_ok-slot.slot none).start })) (sym c.items.ensures) there;
      len = ap (λ (n : ℕ). c.args.found.now.size / n) c.from.ensures;
    }
