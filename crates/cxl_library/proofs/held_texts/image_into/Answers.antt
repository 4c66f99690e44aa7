use Rattle.std.proofs.Common.{Some, subst, ap, arith}
use Rattle.cxl_io.specs.Sink.{SinkState}
use Rattle.cxl_reads.specs.Answers.{IsAnswered, image_name}
use Rattle.cxl_reads.proofs.Statuses.{write_fault_rose}
use Rattle.cxl_library.specs.Behind.{IsToldBehind}
use Rattle.cxl_library.specs.Rooms.{room_state}
use Rattle.cxl_library.proofs.Telling.{behind_faults}
use Rattle.cxl_library.proofs.Marks as marks
use Rattle.cxl_library.proofs.held_texts.image_into.Goals as goal

pub returns-clause-same_reference : goal.returns-clause-same_reference
returns-clause-same_reference c =
    marks.reads_same_room (IsToldBehind c.args.of c.args.files (Some image_name) c.args.script.now) c.told_from_image.result c.args.room.now.bytes.ghost_name c.told_from_image.new.out
    (subst (λ (s : SinkState). IsAnswered (IsToldBehind c.args.of c.args.files (Some image_name) c.args.script.now) c.told_from_image.result s (room_state c.told_from_image.new.out)) c.requires.fresh c.told_from_image.ensures)

pub returns-clause-answered : goal.returns-clause-answered
returns-clause-answered c =
    marks.read_over (IsToldBehind c.args.of c.args.files (Some image_name) c.args.script.now) c.told_from_image.result c.args.room.now.bytes.ghost_name c.told_from_image.new.out
    (subst (λ (s : SinkState). IsAnswered (IsToldBehind c.args.of c.args.files (Some image_name) c.args.script.now) c.told_from_image.result s (room_state c.told_from_image.new.out)) c.requires.fresh c.told_from_image.ensures)

pub returns-clause-full : goal.returns-clause-full
returns-clause-full c is =
    let none = ap (λ (s : SinkState). s.faults) c.requires.fresh in
    let rose = write_fault_rose (IsToldBehind c.args.of c.args.files (Some image_name) c.args.script.now) (behind_faults c.args.of c.args.files (Some image_name) c.args.script.now) c.told_from_image.result _ _ c.told_from_image.ensures is in
    c.told_from_image.new.out.full (omega (arith, rose, none))
