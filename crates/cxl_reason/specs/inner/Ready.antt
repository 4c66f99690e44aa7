-- What is known once the reasons of windows are asked for, and what is told.
use Rattle.std.specs.Prelude.{◌≡◌, ℕ, ◌≤◌, List, length, slice_get, Option, Some, MatchOption}
use Rattle.cxl_topo.specs.declared.node.Parent.{Parent}
use Rattle.cxl_topo.specs.Tree.{parent_of}
use Rattle.cxl_window.specs.Fields.{WindowFields}
use Rattle.cxl_model.specs.System.{System}
use Rattle.cxl_model.specs.Accepted.{IsOrderlySystem}
use Rattle.cxl_pick.specs.declared.want.Want.{Want}
use Rattle.cxl_pick.specs.Picking.{HasPlanIn, IsWantedSize}
use Rattle.cxl_reason.specs.declared.reason.SetReason.{SetReason}
use Rattle.cxl_reason.specs.Reasons.{IsAskedOf, IsSetReason}
use Rattle.cxl_reason.specs.inner.Asked.{HasResetBlocks, after_reset}

-- a host of which a set is asked, the same host after reset, and a port above which no child stands
pub record AreReady (s t : System) (want : Want) (highest : ℕ) : Type 0 where
  pub asked : IsAskedOf s want
  pub size : IsWantedSize want
  pub ready : IsOrderlySystem s
  pub fresh : HasResetBlocks s
  pub same : t ≡ after_reset s
  pub orderly : IsOrderlySystem t
  pub child_ports : (c : ℕ) (parent : Parent) → parent_of s.nodes c ≡ Some parent → parent.port ≤ highest

-- a set that has a legal plan in the window, or the first reason why none has
abbrev pub HasAnswer : System → Want → WindowFields → Option SetReason → Type 0
HasAnswer s want w answer = MatchOption answer ((set : List ℕ) × HasPlanIn s want w set) (IsSetReason s want w)

-- an answer for each window
pub record AreAnswers (s : System) (want : Want) (windows : List WindowFields) (answers : List (Option SetReason)) : Type 0 where
  pub count : length answers ≡ length windows
  pub each : (i : ℕ) (w : WindowFields) (answer : Option SetReason) → slice_get windows i ≡ Some w → slice_get answers i ≡ Some answer → HasAnswer s want w answer
