-- What a caller is answered: what a run says, over the caller's bytes and the simulator's devices.
use Rattle.std.specs.Prelude.{◌≡◌, ◌≢◌, ℕ, ◌⊎◌, true, None, Some, List, [], ◌++◌}
use Rattle.std.specs.FinMap as map
use Rattle.cxl_bus.specs.RegsState.{RegsState}
use Rattle.cxl_commands.specs.Form.{Form}
use Rattle.cxl_commands.specs.Outside.{Outside, outside}
use Rattle.cxl_inputs.specs.Exit.{exit_code}
use Rattle.cxl_inputs.specs.declared.status.Status.{Status}
use Rattle.cxl_inputs.specs.declared.status.Status.TheVariants as statuses
use Rattle.cxl_io.specs.Sink.{SinkState}
use Rattle.cxl_media.specs.MediaState.{MediaState}
use Rattle.cxl_shell.specs.Completeness.{IsReady, IsAnsweredWhole}
use Rattle.cxl_shell.specs.Devices.{Devices, devices}
use Rattle.cxl_shell.specs.Headline.{BehavesAsFlatMemory}
use Rattle.cxl_shell.specs.Run.{IsRun}
use Rattle.cxl_library.specs.Rooms.{sink_of}
use Rattle.cxl_library.specs.Slices.{Slices, files_of, source_of}

-- the simulator's registers before they are powered on
abbrev pub off_regs : RegsState
off_regs = record { blocks = []; trail = None; failed_at = Some []; faults = 0; counts_failures_alone = true }

-- the simulator's device memory before it is powered on
abbrev pub off_media : MediaState
off_media = record { blocks = map.empty; free = 0 }

-- a script, and these devices
abbrev pub devices_of : List ℕ → Devices
devices_of script = devices (source_of script) off_regs off_media

-- A run of this form over these files, a script and devices, from one sink to the next, with this status.
pub record IsRunFrom (form : Form) (files : Slices) (before : Devices) (status : Status) (old new : SinkState) : Type 0 where
  pub outside_after : Outside
  pub after : Devices
  -- how it comes to its end, and the headline
  pub run : IsRun form (outside (files_of files) old) outside_after before after status
  pub flat : BehavesAsFlatMemory form (outside (files_of files) old) outside_after before after status
  -- completeness: where files and script have a reading, it is answered whole, or memory ran out, or the room is too small
  pub whole : IsReady form (files_of files) before.script → status ≢ statuses.WriteFault
      → (status ≡ statuses.Memory) ⊎ IsAnsweredWhole form (outside (files_of files) old) outside_after before after status
  -- files, script and registers, which are the caller's bytes and the simulator's, did not fail
  pub calm : (outside_after.files.faults ≡ 0) × (after.script.faults ≡ 0) × (after.regs.faults ≡ 0)
  -- the sink is the one that it was handed
  pub out_is : outside_after.out ≡ new

-- A run of this form over these files and this script, with this status, and this text behind what its sink took before.
pub record IsRunOver (form : Form) (files : Slices) (script : List ℕ) (status : Status) (text : List ℕ) : Type 0 where
  pub before : List ℕ
  pub new : SinkState
  pub run : IsRunFrom form files (devices_of script) status (sink_of before) new
  -- the text is all that is written
  pub written : new.taken ≡ Some (before ++ text)

-- a run, or memory ran out before it began, and there is no text
abbrev pub IsAnswered : Form → Slices → List ℕ → Status → List ℕ → Type 0
IsAnswered form files script status text =
    IsRunOver form files script status text ⊎ ((status ≡ statuses.Memory) × (text ≡ []))

-- what C is told: the exit status of the program, and its text
abbrev pub IsTold : Form → Slices → List ℕ → ℕ → List ℕ → Type 0
IsTold form files script code text = (status : Status) × (code ≡ exit_code status) × IsAnswered form files script status text
