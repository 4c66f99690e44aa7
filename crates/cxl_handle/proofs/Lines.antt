-- Lines that are carried out into a room: it keeps all that it took, so it is the same that it was.
use Rattle.std.proofs.Common.{◌≡◌, ℕ, List, [], ◌∷◌, take, Some, ap}
use Rattle.cxl_enc.specs.Faults.{Rose}
use Rattle.cxl_inputs.specs.declared.status.Status.{Status}
use Rattle.cxl_inputs.specs.declared.status.Status.TheVariants.{WriteFault}
use Rattle.cxl_io.specs.Sink.{SinkState}
use Rattle.cxl_io.specs.Source.{SourceState}
use Rattle.cxl_library.specs.Rooms.{sink_of, room_state}
use Rattle.cxl_library.specs.Slices.{source_of}
use Rattle.cxl_library.specs.declared.room.TextRoom.{TextRoom}
use Rattle.cxl_library.proofs.Growing.{script_grows}
use Rattle.cxl_library.proofs.Runs.{first_of}
use Rattle.cxl_machine.specs.Machine.{Machine}
use Rattle.cxl_machine.specs.Scripts.{Asked, Turn}
use Rattle.cxl_shell.specs.Endings.{EndsScript, read_out, ending_cut, reply_cut, runs_out}
use Rattle.cxl_topo.specs.declared.node.Node.{Node}
use Rattle.cxl_turns.specs.declared.endings.Ending.TheVariants as endings
use Rattle.cxl_handle.specs.Told.{AreLinesTold}

module _ (m : Machine) (asked : List Asked) (turns : List Turn) (lines : List ℕ) (last : SourceState) (status : Status) (mark : ℕ) (room : TextRoom) where
  -- lines into a room that had taken nothing
  abbrev EndsInRoom : Type 0
  EndsInRoom = EndsScript m.settled.nodes asked turns (source_of lines) last (sink_of (mark ∷ [])) (room_state room) status

  pub same_room : EndsInRoom → room.bytes.ghost_name ≡ mark
  same_room end = ap first_of (script_grows m.settled.nodes asked turns (source_of lines) last (sink_of (mark ∷ [])) (room_state room) status end).taken

  pub lines_told : EndsInRoom → AreLinesTold m asked turns lines status (take room.taken room.bytes.now)
  lines_told end = record {
    before = mark ∷ [];
    source = last;
    new = room_state room;
    ends = end;
    written = ap (λ first. Some (first ∷ take room.taken room.bytes.now)) (same_room end);
  }

-- status 6 comes where the sink failed
pub script_rose : (nodes : List Node) (asked : List Asked) (turns : List Turn) (first last : SourceState) (old new : SinkState) (status : Status)
    → EndsScript nodes asked turns first last old new status → status ≡ WriteFault → Rose old.faults new.faults
script_rose nodes asked turns first last old new status (read_out endings.Done lines is stops e text source sink) failed = absurd (cc)
script_rose nodes asked turns first last old new status (read_out endings.ReadFault lines is stops e text source sink) failed = absurd (cc)
script_rose nodes asked turns first last old new status (read_out endings.TooMuch lines is stops e text source sink) failed = absurd (cc)
script_rose nodes asked turns first last old new status (read_out endings.WriteFault lines is stops e text source sink) failed = absurd stops
script_rose nodes asked turns first last old new status (read_out endings.Memory lines is stops e text source sink) failed = absurd stops
script_rose nodes asked turns first last old new status (ending_cut end lines is stops e short) failed = short.rose
script_rose nodes asked turns first last old new status (reply_cut lines earlier one is stops e f short source) failed = short.rose
script_rose nodes asked turns first last old new status (runs_out lines is stops e text source sink) failed = absurd (cc)
