-- Why no set of so many endpoints has a legal plan in a window (this project's rules).
use Rattle.std.specs.Prelude.{◌≡◌, ◌≢◌, ℕ, ◌<◌, ◌≤◌, nat_lt, ◌&&◌, Bool, true, false, List, length, filter, AllPairs, Contains, Some, None, IfSome}
use Rattle.std.specs.List.{list_any, range_with_len}
use Rattle.std.specs.Option.{option_map_or}
use Rattle.cxl_enc.specs.Bits.{window_fixed}
use Rattle.cxl_enc.specs.Codes.{is_ways}
use Rattle.cxl_enc.specs.declared.caps.MemKind.{MemKind}
use Rattle.cxl_topo.specs.declared.node.Node.{Node}
use Rattle.cxl_topo.specs.Tree.{is_endpoint_at, bridge_with}
use Rattle.cxl_regs.specs.Words.{has_bit}
use Rattle.cxl_span.specs.Partitions.{partition_start, partition_end}
use Rattle.cxl_window.specs.Fields.{WindowFields}
use Rattle.cxl_window.specs.Position.{is_usable}
use Rattle.cxl_model.specs.System.{System, IsSystem, ram_at, pmem_at}
use Rattle.cxl_model.specs.Accepted.{IsAccepted}
use Rattle.cxl_model.specs.Counts.{is_under}
use Rattle.cxl_model.specs.Rules.{permits}
use Rattle.cxl_legal.specs.Used.{AreEndpoints, HasBytePorts}
use Rattle.cxl_legal.specs.Endpoints.{is_uneven}
use Rattle.cxl_legal.specs.Sizes.{IsSizeFor}
use Rattle.cxl_legal.specs.Windows.{has_used_bridges, agrees_on_gran, can_select, can_have_ways}
use Rattle.cxl_pick.specs.declared.want.Want.{Want}
use Rattle.cxl_pick.specs.Picking.{asked, HasPlanIn}
use Rattle.cxl_reason.specs.declared.reason.SetReason.{SetReason}
use Rattle.cxl_reason.specs.declared.reason.SetReason.TheVariants as reasons

-- ---- what is asked

-- an accepted image over a program's nodes, a number of ways that a region can have, and a stated granularity that is a code
pub record IsAskedOf (s : System) (want : Want) : Type 0 where
  pub system : IsSystem s
  pub ports : HasBytePorts s.nodes
  pub accepted : IsAccepted s
  pub ways : is_ways want.ways ≡ true
  pub code : IfSome want.gran (λ code. code ≤ 6)

-- ---- endpoints that lead to a window

-- node m's device has memory of the kind
abbrev pub has_kind : System → MemKind → ℕ → Bool
has_kind s kind m = nat_lt (partition_start kind (ram_at s m)) (partition_end kind (ram_at s m) (pmem_at s m))

-- the bridge of this UID stands on the path of node m
abbrev pub is_below : List Node → ℕ → ℕ → Bool
is_below nodes uid m = option_map_or (λ b. is_under nodes b m) (bridge_with nodes uid) false

-- a target bridge of the window does
abbrev pub lies_below : System → WindowFields → ℕ → Bool
lies_below s w m = list_any (λ uid. is_below s.nodes uid m) w.targets

-- node m is an endpoint of the kind, below a target bridge of the window
abbrev pub leads_there : System → MemKind → WindowFields → ℕ → Bool
leads_there s kind w m = is_endpoint_at s.nodes m && has_kind s kind m && lies_below s w m

-- how many endpoints of the kind lead to the window
abbrev pub count_there : System → MemKind → WindowFields → ℕ
count_there s kind w = length (filter (leads_there s kind w) (range_with_len 0 (length s.nodes)))

-- ---- codes

-- So many endpoints of the kind, under exactly the window's target bridges, that lie evenly below used ports and bridges,
-- where each used node can select with the code and ways that it would have, and each endpoint can have the ways. Nothing
-- is said of what is committed in these nodes.
pub record HasCodes (s : System) (want : Want) (w : WindowFields) (set : List ℕ) : Type 0 where
  pub named : AreEndpoints s (asked want set)
  pub distinct : AllPairs (λ a b. a ≢ b) set
  pub count : length set ≡ want.ways
  pub kind : (m : ℕ) → Contains set m → has_kind s want.kind m ≡ true
  pub bridges : has_used_bridges s (asked want set) w ≡ true
  pub even : (n : ℕ) → is_uneven s (asked want set) n ≡ false
  pub selects : (n : ℕ) → can_select s (asked want set) w n ≡ true
  pub ways : (n : ℕ) → can_have_ways s (asked want set) n ≡ true

-- no set of so many endpoints has codes in the window
abbrev pub HasNoCodes : System → Want → WindowFields → Type 0
HasNoCodes s want w = (set : List ℕ) → HasCodes s want w set → ⊥

-- ---- sizes

-- the same is wanted at another size
abbrev pub with_size : Want → ℕ → Want
with_size want size = record want { size = size }

-- no set of so many endpoints has a legal plan in the window
abbrev pub HasNoPlanIn : System → Want → WindowFields → Type 0
HasNoPlanIn s want w = (set : List ℕ) → HasPlanIn s want w set → ⊥

-- at this size some set of so many endpoints has a legal plan in the window, and at none above it
pub record IsLargest (s : System) (want : Want) (w : WindowFields) (size : ℕ) : Type 0 where
  pub legal : IsSizeFor size want.ways
  pub set : List ℕ
  pub has : HasPlanIn s (with_size want size) w set
  pub most : (other : ℕ) (others : List ℕ) → HasPlanIn s (with_size want other) w others → other ≤ size

-- at no size has any
abbrev pub FitsNoSize : System → Want → WindowFields → Type 0
FitsNoSize s want w = (size : ℕ) → HasNoPlanIn s (with_size want size) w

-- ---- reasons

-- what each reason says of a window
abbrev pub SaysOfSets : System → Want → WindowFields → SetReason → Type 0
SaysOfSets s want w reasons.Unusable = is_usable w.verdict ≡ false
SaysOfSets s want w reasons.Kind = permits w want.kind ≡ false
SaysOfSets s want w reasons.Fixed = has_bit w.restrict window_fixed ≡ true
SaysOfSets s want w reasons.Gran = agrees_on_gran want.gran w ≡ false
SaysOfSets s want w (reasons.Few count) = (count ≡ count_there s want.kind w) × (count < want.ways)
SaysOfSets s want w reasons.NoCodes = HasNoCodes s want w
SaysOfSets s want w (reasons.NoRoom (Some size)) = HasNoPlanIn s want w × IsLargest s want w size
SaysOfSets s want w (reasons.NoRoom None) = FitsNoSize s want w

-- the order in which reasons are tried
abbrev pub turn_of_reason : SetReason → ℕ
turn_of_reason reasons.Unusable = 0
turn_of_reason reasons.Kind = 1
turn_of_reason reasons.Fixed = 2
turn_of_reason reasons.Gran = 3
turn_of_reason (reasons.Few count) = 4
turn_of_reason reasons.NoCodes = 5
turn_of_reason (reasons.NoRoom largest) = 6

-- the reason holds of the window, and none that is tried before it does
pub record IsSetReason (s : System) (want : Want) (w : WindowFields) (reason : SetReason) : Type 0 where
  pub holds : SaysOfSets s want w reason
  pub first : (other : SetReason) → SaysOfSets s want w other → turn_of_reason reason ≤ turn_of_reason other
