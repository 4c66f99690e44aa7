use Rattle.std.proofs.Common.{[], ◌∷◌, subst, arith}
use Rattle.cxl_held.specs.Sessions.{IsHeldAt}
use Rattle.cxl_io.specs.Sink.{SinkState}
use Rattle.cxl_library.specs.Rooms.{sink_of, room_state}
use Rattle.cxl_library.specs.Slices.{source_of}
use Rattle.cxl_machine.specs.Machine.{Machine}
use Rattle.cxl_shell.specs.Endings.{EndsScript}
use Rattle.cxl_handle.proofs.Lines.{same_room, lines_told, script_rose}
use Rattle.cxl_handle.proofs.acting.act_into.Goals as goal

module _ (c : goal.After-act) (m : Machine) (at : IsHeldAt c.args.held.now m) where
  -- the lines, into the room that had taken nothing
  ended : EndsScript m.settled.nodes (c.act.ensures.answered m at).0 (c.act.ensures.answered m at).1 (source_of c.args.lines.now) (source_of c.act.new.lines)
      (sink_of (c.args.room.now.bytes.ghost_name ∷ [])) (room_state c.act.new.out) c.act.result
  ended =
      let turns = c.act.ensures.answered m at in
      subst (λ lines. EndsScript m.settled.nodes turns.0 turns.1 (source_of lines) (source_of c.act.new.lines)
      (sink_of (c.args.room.now.bytes.ghost_name ∷ [])) (room_state c.act.new.out) c.act.result) c.new-source.ensures
      (subst (λ (sink : SinkState). EndsScript m.settled.nodes turns.0 turns.1 (source_of c.new-source.result) (source_of c.act.new.lines)
      sink (room_state c.act.new.out) c.act.result) c.requires.fresh turns.3)

pub returns-clause-same_reference : goal.returns-clause-same_reference
returns-clause-same_reference c =
    let m = c.requires.kept.0 in let at = c.requires.kept.1 in let turns = c.act.ensures.answered m at in
    same_room m turns.0 turns.1 c.args.lines.now (source_of c.act.new.lines) c.act.result c.args.room.now.bytes.ghost_name c.act.new.out (ended c m at)

pub returns-clause-told : goal.returns-clause-told
returns-clause-told c m at =
    let turns = c.act.ensures.answered m at in
    (turns.0, turns.1, turns.2, lines_told m turns.0 turns.1 c.args.lines.now (source_of c.act.new.lines) c.act.result c.args.room.now.bytes.ghost_name c.act.new.out (ended c m at))

pub returns-clause-full : goal.returns-clause-full
returns-clause-full c is =
    let m = c.requires.kept.0 in let at = c.requires.kept.1 in let turns = c.act.ensures.answered m at in
    let rose = script_rose m.settled.nodes turns.0 turns.1 (source_of c.args.lines.now) (source_of c.act.new.lines) (sink_of (c.args.room.now.bytes.ghost_name ∷ [])) (room_state c.act.new.out)
    c.act.result (ended c m at) is in
    c.act.new.out.full (omega (arith, rose))
