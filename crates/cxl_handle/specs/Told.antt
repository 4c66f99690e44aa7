-- What a program is told that keeps a session by its handle (this project's rules).
use Rattle.std.specs.Prelude.{◌≡◌, ℕ, ◌<◌, ◌⊎◌, Option, Some, None, List, [], ◌++◌, length, take}
use Rattle.cxl_commands.specs.commands.RefusedStart.{too_many_regions}
use Rattle.cxl_commands.specs.inner.Reports.{TellsBreach}
use Rattle.cxl_held.specs.Sessions.{IsHeldAt, IsHostOf, IsOpened, HasAnswered, HasNoFiles}
use Rattle.cxl_held.specs.Trails.{room}
use Rattle.cxl_held.specs.declared.held.Held.{Held}
use Rattle.cxl_image.specs.File.{IsImageFile}
use Rattle.cxl_inputs.specs.Exit.{exit_code}
use Rattle.cxl_inputs.specs.Outcome.{Outcome}
use Rattle.cxl_inputs.specs.declared.status.Status.{Status}
use Rattle.cxl_io.specs.Sink.{SinkState}
use Rattle.cxl_io.specs.Source.{SourceState}
use Rattle.cxl_library.specs.Reads.{IsReadTold}
use Rattle.cxl_library.specs.Rooms.{sink_of}
use Rattle.cxl_library.specs.Slices.{Slices, files_of, source_of, told_in}
use Rattle.cxl_machine.specs.Machine.{Machine}
use Rattle.cxl_machine.specs.Scripts.{Asked, Turn}
use Rattle.cxl_model.specs.Listed.{region_limit}
use Rattle.cxl_model.specs.System.{System}
use Rattle.cxl_opening.specs.Opening.{HasRegions}
use Rattle.cxl_reads.specs.Answers.{table_name, topology_name}
use Rattle.cxl_shell.specs.Endings.{EndsScript}
use Rattle.cxl_handle.specs.Owned.{HoldsSuch}

-- the status where there is no session, or one already where one is to be opened
abbrev pub misused : ℕ
misused = 1

-- ---- opening

-- No session opens over these files: one of them has no reading; or the image of their host has a breach, or more regions than
-- may live.
pub data OpensNoneOver (files : Slices) (image : Option (List ℕ)) (outcome : Outcome) : Type 0 where
  no_files : (after : Slices) → HasNoFiles table_name topology_name image (files_of files) (files_of after) outcome
      → OpensNoneOver files image outcome
  breach : (s : System) (frames : ℕ) → IsHostOf (told_in files) table_name topology_name image s frames → TellsBreach s outcome
      → OpensNoneOver files image outcome
  full : (s : System) (frames n : ℕ) → IsHostOf (told_in files) table_name topology_name image s frames
      → HasRegions s n → region_limit < n → outcome ≡ too_many_regions → OpensNoneOver files image outcome

-- one opened, as over the files, and there is no text
pub record IsOpenedNow (files : Slices) (image : Option (List ℕ)) (held : Option Held) (code : ℕ) (text : List ℕ) : Type 0 where
  pub code_is : code ≡ 0
  pub text_is : text ≡ []
  pub opened : HoldsSuch held (IsOpened (told_in files) table_name topology_name image)

-- none opened, and the text says why; or memory ran out, and there is none
pub record IsUnopened (files : Slices) (image : Option (List ℕ)) (held : Option Held) (code : ℕ) (text : List ℕ) : Type 0 where
  pub failed : 0 < code
  pub none : held ≡ None
  pub told : IsReadTold (OpensNoneOver files image) code text

-- one or the other
abbrev pub OpensOrTells : Slices → Option (List ℕ) → Option Held → ℕ → List ℕ → Type 0
OpensOrTells files image held code text = IsOpenedNow files image held code text ⊎ IsUnopened files image held code text

-- ---- lines

-- from this machine on, bytes end as a script does, which asked this and was answered so, with this status, this text, and no other
pub record AreLinesTold (m : Machine) (asked : List Asked) (turns : List Turn) (lines : List ℕ) (status : Status) (text : List ℕ) : Type 0 where
  pub before : List ℕ
  pub source : SourceState
  pub new : SinkState
  pub ends : EndsScript m.settled.nodes asked turns (source_of lines) source (sink_of before) new status
  pub written : new.taken ≡ Some (before ++ text)

-- whatever machine it was at, the session answered lines from there on, and they are told
abbrev pub HasToldLines : Held → Held → List ℕ → Status → List ℕ → Type 0
HasToldLines old new lines status text =
    (m : Machine) → IsHeldAt old m → (asked : List Asked) × (turns : List Turn) × HasAnswered m asked turns old new
    × AreLinesTold m asked turns lines status text

-- no call of its registers failed, where its trail has room for more words
abbrev pub IsUnfailed : Held → Type 0
IsUnfailed held = length held.regs.trail < room → held.regs.overruns ≡ 0

-- a session carried out lines, with the exit status of the program
pub record HasActed (old new : Held) (lines : List ℕ) (code : ℕ) (text : List ℕ) : Type 0 where
  pub status : Status
  pub code_is : code ≡ exit_code status
  pub told : HasToldLines old new lines status text
  pub unfailed : IsUnfailed new

-- ---- its image

-- these bytes are the file of its register image
abbrev pub IsFileOf : Held → List ℕ → Type 0
IsFileOf held bytes = IsImageFile bytes held.session.topo.nodes held.session.image

-- The file of its register image is told; or a room of so many bytes is full of its front; or memory ran out, and there is none.
pub data IsImageTold (held : Held) (size code : ℕ) (text : List ℕ) : Type 0 where
  whole : IsFileOf held text → code ≡ 0 → IsImageTold held size code text
  cut : (file : List ℕ) → IsFileOf held file → size < length file → text ≡ take size file → code ≡ 6 → IsImageTold held size code text
  unmade : text ≡ [] → code ≡ 9 → IsImageTold held size code text
