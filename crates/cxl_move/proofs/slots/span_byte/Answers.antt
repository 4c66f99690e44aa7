use Rattle.std.proofs.Common.{ℕ, List, length, get_or, sym, ap, ◌∙◌, arith}
use Rattle.cxl_model.specs.declared.found.Found.{Found}
use Rattle.cxl_model.specs.declared.found.Place.{Place}
use Rattle.cxl_model.proofs.FirstSlots.{slot_within, no_slot}
use Rattle.cxl_move.proofs.Dealt.{lies_there, byte_there}
use Rattle.cxl_move.proofs.slots.span_byte.Goals as goal
use Rattle.cxl_move.proofs.slots.span_byte.Goals.{then-dpa-start-via-then-dpa-start, then-dpa-start-via-else-dpa-start+then-dpa-start-2}

pub returns-in_err-slot-clause-none : goal.returns-in_err-slot-clause-none
returns-in_err-slot-clause-none c = rw c.from_residual.ensures (λ lies. no_slot c.args.endpoint c.args.found.now.spans lies.slot lies.place (sym c.slot_on.ensures ∙ c.in_err-slot.was) lies.there lies.here)

pub bounds-items-slot : goal.bounds-items-slot
bounds-items-slot c =
    let within = slot_within c.args.endpoint c.args.found.now.spans c.in_ok-slot.slot (record { endpoint = 0; start = 0 }) (sym c.slot_on.ensures ∙ c.in_ok-slot.was) in
    omega (arith, within, ap (λ (places : List Place). length places) c.items.ensures)

pub slot_length-requires : goal.slot_length-requires
slot_length-requires c = c.requires

pub returns-then-dpa-start-clause-none : goal.returns-then-dpa-start-clause-none
returns-then-dpa-start-clause-none c = λ lies.
    let found : Found = c.args.found.now in
    let d : Place = record { endpoint = 0; start = 0 } in
    let inside =
    lies_there found (λ a b p q. c.slots_are_endpoints.ensures.apart c.requires.0 c.requires.2.0 found a b p q c.requires.1 c.requires.2.1) c.items.result.now d c.items.ensures c.args.endpoint c.in_ok-slot.slot (sym c.slot_on.ensures ∙ c.in_ok-slot.was) c.args.dpa lies in
    elim c.then-dpa-start.branch [
      | then-dpa-start-via-then-dpa-start x ↦ omega (arith, x.if-dpa-start.true, inside.0)
      | then-dpa-start-via-else-dpa-start+then-dpa-start-2 x ↦ omega (arith, x.if-dpa-start.false, x.if-dpa-start-2.true, x.slot_length.ensures, inside.0, inside.1)
    ]

pub overflow_cast-result : goal.overflow_cast-result
overflow_cast-result c =
    let found : Found = c.args.found.now in
    let within = slot_within c.args.endpoint found.spans c.in_ok-slot.slot (record { endpoint = 0; start = 0 }) (sym c.slot_on.ensures ∙ c.in_ok-slot.was) in
    let few = (c.weaves_fill_their_regions.ensures.kept c.requires.0 c.requires.2.0 found c.requires.1 c.requires.2.1).few_ways in
    let ways = c.weaves_fill_their_regions.ensures.ways c.requires.0 c.requires.2.0 found c.requires.1 c.requires.2.1 in
    omega (arith, within, few, ways, c.requires.2.1.slots)

pub returns-clause-some : goal.returns-clause-some
returns-clause-some c =
    let found : Found = c.args.found.now in
    let d : Place = record { endpoint = 0; start = 0 } in
    let spans : List Place = c.items.result.now in
    let slot : ℕ = c.in_ok-slot.slot in
    let start : ℕ = (get_or spans slot d).start in
    let below = c.if-dpa-start-2.false in
    let length = c.slot_length.ensures in
    byte_there found (λ a b p q. c.slots_are_endpoints.ensures.apart c.requires.0 c.requires.2.0 found a b p q c.requires.1 c.requires.2.1) spans d c.items.ensures c.args.endpoint slot (sym c.slot_on.ensures ∙ c.in_ok-slot.was)
    c.args.dpa c.if-dpa-start.false (omega (arith, below, length))
