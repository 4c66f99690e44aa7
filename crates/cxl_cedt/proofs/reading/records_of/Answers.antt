use Rattle.std.proofs.Common.{◌<◌, length, [], inr, sym, arith}
use Rattle.std.proofs.lemmas.Bool.Decides.{nat_tests}
use Rattle.std.proofs.lemmas.List.{take_rest}
use Rattle.cxl_cedt.proofs.Fronts.{has_record}
use Rattle.cxl_cedt.proofs.Keeping.{kept_none}
use Rattle.cxl_cedt.proofs.Kept.{kept_more_read, kept_fault}
use Rattle.cxl_cedt.proofs.Scanning.{read_none, place_of}
use Rattle.cxl_cedt.proofs.reading.records_of.Goals as goal

pub loop-rest-init : goal.loop-rest-init
loop-rest-init c = rw (take_rest c.args.bytes.now 36) (record { all = []; read_to = read_none c.args.bytes.now; kept_are = kept_none c.args.others c.new-kept.result c.new-kept.ensures })

pub length_said-requires : goal.length_said-requires
length_said-requires c =
    let has = has_record c.loop-rest.kept.records c.loop-rest.rest.now c.loop-rest.at (sym c.in_default.ensures) in
    omega (arith, has.long, has.within)

pub split_at-requires : goal.split_at-requires
split_at-requires c =
    let has = has_record c.loop-rest.kept.records c.loop-rest.rest.now c.loop-rest.at (sym c.in_default.ensures) in
    omega (arith, c.length_said.ensures, has.within)

pub add_record-requires-clause-sound : goal.add_record-requires-clause-sound
add_record-requires-clause-sound c =
    let has = has_record c.loop-rest.kept.records c.loop-rest.rest.now c.loop-rest.at (sym c.in_default.ensures) in
    rw (c.split_at.ensures.front, c.length_said.ensures) has.sound

pub add_record-requires-clause-room : goal.add_record-requires-clause-room
add_record-requires-clause-room c =
    let has = has_record c.loop-rest.kept.records c.loop-rest.rest.now c.loop-rest.at (sym c.in_default.ensures) in
    rw (c.split_at.ensures.front, c.length_said.ensures) has.room

pub overflow_add-at : goal.overflow_add-at
overflow_add-at c =
    let has = has_record c.loop-rest.kept.records c.loop-rest.rest.now c.loop-rest.at (sym c.in_default.ensures) in
    let so_far = c.loop-rest.invariant in
    let place = place_of c.args.bytes.now so_far.all c.loop-rest.rest.now c.loop-rest.at c.requires.long so_far.read_to in
    omega (arith, place, has.within, c.split_at.ensures.front_len, c.length_said.ensures)

pub loop-rest-smaller : goal.loop-rest-smaller
loop-rest-smaller c =
    let has = has_record c.loop-rest.kept.records c.loop-rest.rest.now c.loop-rest.at (sym c.in_default.ensures) in
    omega (arith, has.long, c.split_at.ensures.back_len, c.length_said.ensures)

pub loop-rest-preserved : goal.loop-rest-preserved
loop-rest-preserved c =
    let next = kept_more_read c.args.others c.args.bytes.now c.loop-rest.kept c.loop-rest.rest.now c.loop-rest.at c.loop-rest.invariant c.add_record.new.kept c.length_said.result c.split_at.result.0.now (sym c.in_default.ensures) c.length_said.ensures c.split_at.ensures.front c.in_ok-add_record.ensures.records c.in_ok-add_record.ensures.places in
    rw (c.split_at.ensures.back, c.split_at.ensures.front_len) next

pub returns-in-Some-clause-fault : goal.returns-in-Some-clause-fault
returns-in-Some-clause-fault c =
    let some : 0 < length c.loop-rest.rest.now = grind (arith, nat_tests) in
    inr (kept_fault c.args.others c.args.bytes.now c.loop-rest.kept c.loop-rest.rest.now c.loop-rest.at c.loop-rest.invariant c.in-Some.fault some (sym c.in-Some.ensures))
