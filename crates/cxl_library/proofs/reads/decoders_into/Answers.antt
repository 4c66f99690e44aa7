use Rattle.std.proofs.Common.{subst, ap, arith}
use Rattle.cxl_io.specs.Sink.{SinkState}
use Rattle.cxl_reads.specs.Answers.{IsAnswered}
use Rattle.cxl_reads.specs.Decoders.{AreDecoders}
use Rattle.cxl_reads.proofs.Statuses.{write_fault_rose, decoders_faults}
use Rattle.cxl_library.specs.Rooms.{room_state}
use Rattle.cxl_library.proofs.Marks as marks
use Rattle.cxl_library.proofs.reads.decoders_into.Goals as goal

pub returns-clause-same_reference : goal.returns-clause-same_reference
returns-clause-same_reference c =
    marks.reads_same_room (AreDecoders c.args.topo.now c.args.image.now) c.decoders.result c.args.room.now.bytes.ghost_name c.decoders.new.out
    (subst (λ (s : SinkState). IsAnswered (AreDecoders c.args.topo.now c.args.image.now) c.decoders.result s (room_state c.decoders.new.out)) c.requires.fresh c.decoders.ensures.answer)

pub returns-clause-answered : goal.returns-clause-answered
returns-clause-answered c =
    marks.read_over (AreDecoders c.args.topo.now c.args.image.now) c.decoders.result c.args.room.now.bytes.ghost_name c.decoders.new.out
    (subst (λ (s : SinkState). IsAnswered (AreDecoders c.args.topo.now c.args.image.now) c.decoders.result s (room_state c.decoders.new.out)) c.requires.fresh c.decoders.ensures.answer)

pub returns-clause-full : goal.returns-clause-full
returns-clause-full c is =
    let none = ap (λ (s : SinkState). s.faults) c.requires.fresh in
    let rose = write_fault_rose (AreDecoders c.args.topo.now c.args.image.now) (decoders_faults c.args.topo.now c.args.image.now) c.decoders.result _ _ c.decoders.ensures.answer is in
    c.decoders.new.out.full (omega (arith, rose, none))
