-- How a session opens over the host of files, or why none does.
use Rattle.std.proofs.Common.{◌≡◌, ◌∙◌, ap, ℕ, List, Option, Some, Result, Ok, Err}
use Rattle.std.specs.Prelude.{IfOk, IfErr, OnOk}
use Rattle.cxl_table.specs.CedtFields.{CedtFields}
use Rattle.cxl_image.specs.Images.{reset_blocks}
use Rattle.cxl_inputs.specs.Host.{host_of}
use Rattle.cxl_inputs.specs.ResetHost.{reset_host_of}
use Rattle.cxl_opening.specs.Opening.{endpoints_in, enabling}
use Rattle.cxl_regs.specs.Registers.{Registers}
use Rattle.cxl_topo.specs.Tree.{Tree}
use Rattle.cxl_window.specs.Fields.{WindowFields}
use Rattle.cxl_window.specs.Windows.{windows_of}
use Rattle.cxl_inputs.specs.Ends.{Finishes}
use Rattle.cxl_inputs.specs.File.{RunsOutBehind}
use Rattle.cxl_inputs.specs.Stop.{IsStop}
use Rattle.cxl_inputs.specs.declared.status.Status.{Status}
use Rattle.cxl_inputs.specs.declared.stop.Stop.{Stop}
use Rattle.cxl_inputs.specs.declared.stop.Stop.TheVariants as stop
use Rattle.cxl_io.specs.Fetch.{FetchState}
use Rattle.cxl_io.specs.Sink.{SinkState}
use Rattle.cxl_machine.specs.Machine.{Machine}
use Rattle.cxl_machine.specs.Sound.{Opens}
use Rattle.cxl_model.specs.System.{System, system_of, bridge_uids}
use Rattle.cxl_held.specs.Sessions.{IsHeldAt, IsKept, IsHostOf, IsOpened, IsRefused, HasNoFiles, OpensNone, no_host, refused, unread}
use Rattle.cxl_held.specs.declared.held.Held.{Held}

module _ (table : CedtFields) (tree : Tree) (blocks : List Registers) (windows : List WindowFields) (are : windows ≡ windows_of table.records (Some (bridge_uids tree.nodes))) where
  pub host_is : system_of blocks tree windows ≡ host_of table tree blocks
  host_is = ap (λ (w : List WindowFields). system_of blocks tree w) are

  pub reset_is : blocks ≡ reset_blocks tree.nodes → system_of blocks tree windows ≡ reset_host_of table tree
  reset_is reset = host_is ∙ ap (λ (b : List Registers). host_of table tree b) reset

module _ (cedt topo : List ℕ) (image : Option (List ℕ)) (before after : FetchState) (old new : SinkState) where
  pub opened_over : (s : System) (frames : ℕ) → IsHostOf before.told cedt topo image s frames → (result : Result Held Status)
      → IfOk result (λ held. (m : Machine) × Opens s frames m × IsHeldAt held m × (held.regs.trail ≡ enabling (endpoints_in s.nodes))) → IfOk result (IsOpened before.told cedt topo image)
  opened_over s frames host (Ok held) is = (s, frames, is.0, host, is.1, is.2, is.3)
  opened_over s frames host (Err status) is = tt

  pub refused_over : (s : System) (frames : ℕ) → IsHostOf before.told cedt topo image s frames → (result : Result Held Status)
      → IfErr result (λ status. IsRefused s status old new) → IfErr result (λ status. OpensNone cedt topo image before after status old new)
  refused_over s frames host (Ok held) is = tt
  refused_over s frames host (Err status) is = refused s frames host is

  pub stopped : (names : List (List ℕ)) (why : Stop) (status : Status) → IsStop (HasNoFiles cedt topo image before after) (RunsOutBehind names before after) why
      → Finishes (Err why) status old new → OpensNone cedt topo image before after status old new
  stopped names (stop.Outcome outcome) status is ends = no_host outcome is ends
  stopped names stop.Memory status is ends = unread ends.0 is.unfailed ends.1

-- a session that opened is one that is kept
pub kept_over : (s : System) (frames : ℕ) (result : Result Held Status)
    → IfOk result (λ held. (m : Machine) × Opens s frames m × IsHeldAt held m × (held.regs.trail ≡ enabling (endpoints_in s.nodes))) → IfOk result IsKept
kept_over s frames (Ok held) is = (is.0, is.2)
kept_over s frames (Err status) is = tt

-- what holds whether a session opens or not
pub asked_over : (result : Result Held Status) (P : Type 0) → P → OnOk result P
asked_over (Ok held) P p = p
asked_over (Err status) P p = tt
