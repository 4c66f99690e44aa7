-- A session with its registers and its device memory, and what it comes to where none opens.
use Rattle.std.specs.Prelude.{◌≡◌, ℕ, ◌<◌, Option, Some, None, List, []}
use Rattle.cxl_table.specs.CedtFields.{CedtFields}
use Rattle.cxl_commands.specs.commands.RefusedStart.{too_many_regions}
use Rattle.cxl_commands.specs.inner.Reports.{TellsBreach}
use Rattle.cxl_inputs.specs.Ends.{Ends, WritesNothing}
use Rattle.cxl_inputs.specs.File.{HasNotFailed}
use Rattle.cxl_inputs.specs.Host.{AreRead, HasNoHost, host_of}
use Rattle.cxl_inputs.specs.Outcome.{Outcome}
use Rattle.cxl_inputs.specs.ResetHost.{AreBothRead, HasNoResetHost, reset_host_of}
use Rattle.cxl_inputs.specs.declared.status.Status.{Status}
use Rattle.cxl_inputs.specs.declared.status.Status.TheVariants.{Memory}
use Rattle.cxl_io.specs.Fetch.{FetchState}
use Rattle.cxl_io.specs.Sink.{SinkState}
use Rattle.cxl_io.specs.Told.{Told}
use Rattle.cxl_machine.specs.Machine.{Machine}
use Rattle.cxl_machine.specs.Scripts.{Asked, Turn}
use Rattle.cxl_machine.specs.Sound.{Opens}
use Rattle.cxl_machine.specs.Turns.{AreTurns, machine_after, failed_in}
use Rattle.cxl_media.specs.Sim.{shipped_state}
use Rattle.cxl_model.specs.Listed.{region_limit}
use Rattle.cxl_model.specs.System.{System}
use Rattle.cxl_opening.specs.Opening.{HasRegions, endpoints_in, enabling}
use Rattle.cxl_regs.specs.Registers.{Registers}
use Rattle.cxl_session.specs.Standing.{IsAt}
use Rattle.cxl_topo.specs.Tree.{Tree}
use Rattle.cxl_turns.specs.Going.{HasGoneOn}
use Rattle.cxl_held.specs.Trails.{trailed_state, emptied}
use Rattle.cxl_held.specs.declared.held.Held.{Held}

-- ---- a session that is kept

-- it is at this machine, with its registers and its device memory
abbrev pub IsHeldAt : Held → Machine → Type 0
IsHeldAt held m = IsAt held.session (trailed_state held.regs) (shipped_state held.media) m

-- session, registers and device memory stand for one machine
abbrev pub IsKept : Held → Type 0
IsKept held = (m : Machine) × IsHeldAt held m

-- from this machine on it was asked this and answered so, and its trail has the words of these turns and no other
abbrev pub HasAnswered : Machine → List Asked → List Turn → Held → Held → Type 0
HasAnswered m asked turns old new =
    HasGoneOn m asked turns new.session (trailed_state (emptied old.regs)) (trailed_state new.regs) (shipped_state new.media)

-- from this machine on it was asked this and answered so, no call of its registers failed, and its trail is empty
pub record HasPassedOver (m : Machine) (asked : List Asked) (turns : List Turn) (new : Held) : Type 0 where
  pub answered : AreTurns m asked turns
  pub at : IsHeldAt new (machine_after m turns)
  pub unfailed : failed_in turns ≡ []
  pub words : new.regs.trail ≡ []

-- ---- where none opens

-- Over this host no session opened: its image has a breach, or more regions than may live, which is told, or the sink
-- failed; or memory ran out, and nothing is written. Its registers never fail so early: their trail has room for what opening
-- sends.
pub data IsRefused (s : System) (status : Status) (old new : SinkState) : Type 0 where
  breach : (outcome : Outcome) → TellsBreach s outcome → Ends outcome status old new → IsRefused s status old new
  full : (n : ℕ) → HasRegions s n → region_limit < n → Ends too_many_regions status old new → IsRefused s status old new
  unmade : status ≡ Memory → WritesNothing old new → IsRefused s status old new

-- the files are read as this host: after reset, or with the image of a file
abbrev pub IsHostOf : (List ℕ → Told) → List ℕ → List ℕ → Option (List ℕ) → System → ℕ → Type 0
IsHostOf told cedt topo None s frames =
    (table : CedtFields) × (tree : Tree) × AreBothRead told cedt topo table tree × (s ≡ reset_host_of table tree) × (frames ≡ tree.frames)
IsHostOf told cedt topo (Some image) s frames =
    (table : CedtFields) × (tree : Tree) × (blocks : List Registers) × AreRead told cedt topo image table tree blocks
    × (s ≡ host_of table tree blocks) × (frames ≡ tree.frames)

-- a session is at the machine that the host of the files opens with, and its trail has the words that let the endpoints decode
abbrev pub IsOpened : (List ℕ → Told) → List ℕ → List ℕ → Option (List ℕ) → Held → Type 0
IsOpened told cedt topo image held =
    (s : System) × (frames : ℕ) × (m : Machine) × IsHostOf told cedt topo image s frames × Opens s frames m × IsHeldAt held m
    × (held.regs.trail ≡ enabling (endpoints_in s.nodes))

-- a file has no reading
abbrev pub HasNoFiles : List ℕ → List ℕ → Option (List ℕ) → FetchState → FetchState → Outcome → Type 0
HasNoFiles cedt topo None old new outcome = HasNoResetHost cedt topo old new outcome
HasNoFiles cedt topo (Some image) old new outcome = HasNoHost cedt topo image old new outcome

-- No session opened: a file has no reading, which is told; or none opened over the host of the files; or memory ran out, in which no
-- fault of the files is hidden.
pub data OpensNone (cedt topo : List ℕ) (image : Option (List ℕ)) (before after : FetchState) (status : Status) (old new : SinkState) : Type 0 where
  no_host : (outcome : Outcome) → HasNoFiles cedt topo image before after outcome → Ends outcome status old new
      → OpensNone cedt topo image before after status old new
  refused : (s : System) (frames : ℕ) → IsHostOf before.told cedt topo image s frames → IsRefused s status old new
      → OpensNone cedt topo image before after status old new
  unread : status ≡ Memory → HasNotFailed before after → WritesNothing old new → OpensNone cedt topo image before after status old new
