use Rattle.std.proofs.Common.{subst, ap, arith}
use Rattle.cxl_io.specs.Sink.{SinkState}
use Rattle.cxl_reads.specs.Answers.{IsAnswered}
use Rattle.cxl_reads.specs.Tree.{IsTreeTold}
use Rattle.cxl_reads.proofs.Statuses.{write_fault_rose, tree_faults}
use Rattle.cxl_library.specs.Rooms.{room_state}
use Rattle.cxl_library.proofs.Marks as marks
use Rattle.cxl_library.proofs.reads.tree_into.Goals as goal

pub returns-clause-same_reference : goal.returns-clause-same_reference
returns-clause-same_reference c =
    marks.reads_same_room (IsTreeTold c.args.topo.now) c.tree.result c.args.room.now.bytes.ghost_name c.tree.new.out
    (subst (λ (s : SinkState). IsAnswered (IsTreeTold c.args.topo.now) c.tree.result s (room_state c.tree.new.out)) c.requires.fresh c.tree.ensures.answer)

pub returns-clause-answered : goal.returns-clause-answered
returns-clause-answered c =
    marks.read_over (IsTreeTold c.args.topo.now) c.tree.result c.args.room.now.bytes.ghost_name c.tree.new.out
    (subst (λ (s : SinkState). IsAnswered (IsTreeTold c.args.topo.now) c.tree.result s (room_state c.tree.new.out)) c.requires.fresh c.tree.ensures.answer)

pub returns-clause-full : goal.returns-clause-full
returns-clause-full c is =
    let none = ap (λ (s : SinkState). s.faults) c.requires.fresh in
    let rose = write_fault_rose (IsTreeTold c.args.topo.now) (tree_faults c.args.topo.now) c.tree.result _ _ c.tree.ensures.answer is in
    c.tree.new.out.full (omega (arith, rose, none))
