use Rattle.std.proofs.Common.{ℕ, ◌/◌, ap, arith}
use Rattle.cxl_model.specs.Regions.{weave_fields}
use Rattle.cxl_move.proofs.slots.slot_length.Goals as goal

pub nonzero_div-result : goal.nonzero_div-result
nonzero_div-result c =
    let r = c.requires in
    let some = c.region_fills_slots.ensures.slot (weave_fields c.args.found.now r.2.0) 0 in
    omega (arith, some, c.weaves_fill_their_regions.ensures.ways r.0 r.2.0 c.args.found.now r.1 r.2.1, c.from.ensures)

pub returns : goal.returns
returns c = ap (λ (n : ℕ). c.args.found.now.size / n) c.from.ensures
