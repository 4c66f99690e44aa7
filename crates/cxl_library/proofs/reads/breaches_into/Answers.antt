use Rattle.std.proofs.Common.{subst, ap, arith}
use Rattle.cxl_io.specs.Sink.{SinkState}
use Rattle.cxl_reads.specs.Answers.{IsAnswered}
use Rattle.cxl_reads.specs.Breaches.{AreBreaches}
use Rattle.cxl_reads.proofs.Statuses.{write_fault_rose, breaches_faults}
use Rattle.cxl_library.specs.Rooms.{room_state}
use Rattle.cxl_library.proofs.Marks as marks
use Rattle.cxl_library.proofs.reads.breaches_into.Goals as goal

pub returns-clause-same_reference : goal.returns-clause-same_reference
returns-clause-same_reference c =
    marks.reads_same_room (AreBreaches c.args.cedt.now c.args.topo.now c.args.image.now) c.breaches.result c.args.room.now.bytes.ghost_name c.breaches.new.out
    (subst (λ (s : SinkState). IsAnswered (AreBreaches c.args.cedt.now c.args.topo.now c.args.image.now) c.breaches.result s (room_state c.breaches.new.out)) c.requires.fresh c.breaches.ensures.answer)

pub returns-clause-answered : goal.returns-clause-answered
returns-clause-answered c =
    marks.read_over (AreBreaches c.args.cedt.now c.args.topo.now c.args.image.now) c.breaches.result c.args.room.now.bytes.ghost_name c.breaches.new.out
    (subst (λ (s : SinkState). IsAnswered (AreBreaches c.args.cedt.now c.args.topo.now c.args.image.now) c.breaches.result s (room_state c.breaches.new.out)) c.requires.fresh c.breaches.ensures.answer)

pub returns-clause-full : goal.returns-clause-full
returns-clause-full c is =
    let none = ap (λ (s : SinkState). s.faults) c.requires.fresh in
    let rose = write_fault_rose (AreBreaches c.args.cedt.now c.args.topo.now c.args.image.now) (breaches_faults c.args.cedt.now c.args.topo.now c.args.image.now) c.breaches.result _ _ c.breaches.ensures.answer is in
    c.breaches.new.out.full (omega (arith, rose, none))
