use Rattle.std.proofs.Common.{◌≡◌, [], ◌∷◌, ◌∙◌, ap, subst, sym}
use Rattle.std.proofs.lemmas.Result.{IfOk-weaker, IfErr-weaker}
use Rattle.std.specs.Prelude.{None}
use Rattle.cxl_held.specs.Sessions.{IsKept, IsOpened, OpensNone}
use Rattle.cxl_io.specs.Sink.{SinkState}
use Rattle.cxl_library.specs.Rooms.{sink_of, room_state}
use Rattle.cxl_library.specs.Slices.{files_of, told_in}
use Rattle.cxl_library.specs.declared.room.TextRoom.{TextRoom}
use Rattle.cxl_reads.specs.Answers.{table_name, topology_name}
use Rattle.cxl_handle.proofs.Holding.{on_ok}
use Rattle.cxl_handle.proofs.Rooms.{none_taken}
use Rattle.cxl_handle.proofs.Unopened.{IsAnsweredInRoom, told_unopened, told_in_room, full_in_room, same_room_told, out_in_room}
use Rattle.cxl_handle.proofs.opening.reset_into.Goals.{In-Err}
use Rattle.cxl_handle.proofs.opening.reset_into.Goals as goal

-- ---- one opened, and the room is as it was

fresh : (c : goal.After-boxed) → room_state c.open_from_reset.new.out ≡ sink_of (c.args.room.now.bytes.ghost_name ∷ [])
fresh c = ap room_state c.in-Ok.ensures.quiet ∙ c.requires.fresh

pub returns-in-Ok-clause-kept : goal.returns-in-Ok-clause-kept
returns-in-Ok-clause-kept c = IfOk-weaker c.boxed.result _ _ (λ box same. subst IsKept (sym same) c.in-Ok.ensures.kept) c.boxed.ensures.same

pub returns-in-Ok-clause-opened : goal.returns-in-Ok-clause-opened
returns-in-Ok-clause-opened c =
    IfOk-weaker c.boxed.result _ _ (λ box same. subst (IsOpened (told_in c.args.files) table_name topology_name None) (sym same) c.in-Ok.ensures.opened) c.boxed.ensures.same

pub returns-in-Ok-clause-quiet : goal.returns-in-Ok-clause-quiet
returns-in-Ok-clause-quiet c = on_ok c.boxed.result (none_taken _ c.open_from_reset.new.out (fresh c))

pub returns-in-Ok-clause-same_reference : goal.returns-in-Ok-clause-same_reference
returns-in-Ok-clause-same_reference c = ap (λ (room : TextRoom). room.bytes.ghost_name) c.in-Ok.ensures.quiet

pub returns-in-Ok-clause-unopened : goal.returns-in-Ok-clause-unopened
returns-in-Ok-clause-unopened c =
    IfErr-weaker c.boxed.result _ _ (λ status is. told_in_room c.args.files None status _ c.open_from_reset.new.out (out_in_room c.args.files None status _ c.open_from_reset.new.out is (fresh c))) c.boxed.ensures.memory

pub returns-in-Ok-clause-full : goal.returns-in-Ok-clause-full
returns-in-Ok-clause-full c =
    IfErr-weaker c.boxed.result _ _ (λ status is. full_in_room c.args.files None status _ c.open_from_reset.new.out (out_in_room c.args.files None status _ c.open_from_reset.new.out is (fresh c))) c.boxed.ensures.memory

-- ---- none opened

answered : (c : In-Err) → IsAnsweredInRoom c.args.files None c.in-Err.status c.args.room.now.bytes.ghost_name c.open_from_reset.new.out
answered c =
    told_unopened c.args.files None c.in-Err.status _ (room_state c.open_from_reset.new.out) c.open_from_reset.new.files
    (subst (λ (sink : SinkState). OpensNone table_name topology_name None (files_of c.args.files) (files_of c.open_from_reset.new.files) c.in-Err.status sink (room_state c.open_from_reset.new.out))
    c.requires.fresh c.in-Err.ensures.unopened)

pub returns-in-Err-clause-same_reference : goal.returns-in-Err-clause-same_reference
returns-in-Err-clause-same_reference c = same_room_told c.args.files None c.in-Err.status _ c.open_from_reset.new.out (answered c)

pub returns-in-Err-clause-unopened : goal.returns-in-Err-clause-unopened
returns-in-Err-clause-unopened c = told_in_room c.args.files None c.in-Err.status _ c.open_from_reset.new.out (answered c)

pub returns-in-Err-clause-full : goal.returns-in-Err-clause-full
returns-in-Err-clause-full c = full_in_room c.args.files None c.in-Err.status _ c.open_from_reset.new.out (answered c)
