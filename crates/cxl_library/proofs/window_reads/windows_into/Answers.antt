use Rattle.std.proofs.Common.{subst, ap, arith}
use Rattle.cxl_io.specs.Sink.{SinkState}
use Rattle.cxl_reads.specs.Answers.{IsAnswered}
use Rattle.cxl_reads.specs.Windows.{AreWindows}
use Rattle.cxl_reads.proofs.Statuses.{write_fault_rose, windows_faults}
use Rattle.cxl_library.specs.Rooms.{room_state}
use Rattle.cxl_library.proofs.Marks as marks
use Rattle.cxl_library.proofs.window_reads.windows_into.Goals as goal

pub returns-clause-same_reference : goal.returns-clause-same_reference
returns-clause-same_reference c =
    marks.reads_same_room (AreWindows c.args.cedt.now c.args.topo.now) c.windows.result c.args.room.now.bytes.ghost_name c.windows.new.out
    (subst (λ (s : SinkState). IsAnswered (AreWindows c.args.cedt.now c.args.topo.now) c.windows.result s (room_state c.windows.new.out)) c.requires.fresh c.windows.ensures.answer)

pub returns-clause-answered : goal.returns-clause-answered
returns-clause-answered c =
    marks.read_over (AreWindows c.args.cedt.now c.args.topo.now) c.windows.result c.args.room.now.bytes.ghost_name c.windows.new.out
    (subst (λ (s : SinkState). IsAnswered (AreWindows c.args.cedt.now c.args.topo.now) c.windows.result s (room_state c.windows.new.out)) c.requires.fresh c.windows.ensures.answer)

pub returns-clause-full : goal.returns-clause-full
returns-clause-full c is =
    let none = ap (λ (s : SinkState). s.faults) c.requires.fresh in
    let rose = write_fault_rose (AreWindows c.args.cedt.now c.args.topo.now) (windows_faults c.args.cedt.now c.args.topo.now) c.windows.result _ _ c.windows.ensures.answer is in
    c.windows.new.out.full (omega (arith, rose, none))
