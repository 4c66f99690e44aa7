-- Where a region may stand, of all windows.
use Rattle.std.specs.Prelude.{◌≡◌, ℕ, ◌<◌, true, List, length, slice_get, Some}
use Rattle.cxl_topo.specs.declared.node.Node.{Node}
use Rattle.cxl_topo.specs.Tree.{is_bridge_at, uid_at}
use Rattle.cxl_window.specs.Fields.{WindowFields}
use Rattle.cxl_model.specs.declared.request.Request.{Request}
use Rattle.cxl_model.specs.declared.plan.Reason.{Reason}
use Rattle.cxl_model.specs.System.{System}
use Rattle.cxl_legal.specs.Used.{is_used}
use Rattle.cxl_plan.specs.declared.choosing.Choice.{Choice}
use Rattle.cxl_plan.specs.declared.choosing.Choice.TheVariants as choices
use Rattle.cxl_plan.specs.Faults.{IsReason, AreReasons, TakesFirst}
use Rattle.cxl_plan.specs.inner.Uses.{tree_alone}

-- a window with its base, where one takes the region; or the reason of each window
abbrev pub IsChoice : System → Request → Choice → Type 0
IsChoice s request (choices.Found i base) = (w : WindowFields) × (slice_get s.windows i ≡ Some w) × TakesFirst s request w base
IsChoice s request (choices.Nowhere reasons) = AreReasons s request reasons.items

-- the UID of a bridge that leads to an endpoint of the request
pub record IsUsedUid (nodes : List Node) (request : Request) (uid : ℕ) : Type 0 where
  pub node : ℕ
  pub inside : node < length nodes
  pub bridge : is_bridge_at nodes node ≡ true
  pub used : is_used (tree_alone nodes) request node ≡ true
  pub own : uid_at nodes node ≡ Some uid

-- there is a reason why the window does not take the request
abbrev pub HasReason : System → Request → WindowFields → Type 0
HasReason s request w = (reason : Reason) × IsReason s request w reason

-- no window takes the request
abbrev pub NoneTakes : System → Request → Type 0
NoneTakes s request = (i : ℕ) (w : WindowFields) → slice_get s.windows i ≡ Some w → HasReason s request w
