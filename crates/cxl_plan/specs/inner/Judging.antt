-- What is tested of each used node.
use Rattle.std.specs.Prelude.{◌≡◌, ℕ, ◌≤◌, not, Bool, true, false, List, [], length, find, None}
use Rattle.std.specs.List.{range_with_len}
use Rattle.cxl_enc.specs.Bits.{window_fixed}
use Rattle.cxl_enc.specs.Codes.{is_ways}
use Rattle.cxl_enc.specs.Limits.{address_limit}
use Rattle.cxl_topo.specs.declared.node.Node.{Node}
use Rattle.cxl_topo.specs.Laws.{AreTreeLaws}
use Rattle.cxl_regs.specs.Registers.{Registers}
use Rattle.cxl_regs.specs.Words.{has_bit}
use Rattle.cxl_window.specs.Fields.{WindowFields}
use Rattle.cxl_window.specs.Position.{is_usable}
use Rattle.cxl_window.specs.Windows.{first_repeat}
use Rattle.cxl_model.specs.declared.request.Request.{Request}
use Rattle.cxl_model.specs.System.{System, IsSystem}
use Rattle.cxl_model.specs.Accepted.{KeepsBlocks}
use Rattle.cxl_model.specs.Rules.{permits}
use Rattle.cxl_legal.specs.Used.{AreEndpoints, request_ways}
use Rattle.cxl_legal.specs.Endpoints.{FitsEndpoints, IsSize, has_even_ports, has_even_children, is_uneven}
use Rattle.cxl_legal.specs.Windows.{FitsWindow, has_used_bridges, agrees_on_gran, can_select, can_have_ways}
use Rattle.cxl_plan.specs.declared.used.Uses.{Uses}
use Rattle.cxl_plan.specs.inner.Uses.{tree_alone, AreUses, HasWays}

-- opaque, since the list of all ports is long
unfoldable pub uneven_at : List Node → Request → ℕ → Bool
uneven_at nodes request n = is_uneven (tree_alone nodes) request n

-- the used ports of node n are 1, 2, 4 or 8, and no more than its targets
unfoldable pub even_at : List Node → Request → ℕ → Bool
even_at nodes request n = has_even_ports (tree_alone nodes) request n

-- each used port of node n leads to as many requested endpoints as any other
unfoldable pub same_at : List Node → Request → ℕ → Bool
same_at nodes request n = has_even_children (tree_alone nodes) request n

-- a system whose blocks keep K2 to K8, for a request of endpoints; with what is known of its tree
pub record AsksOrderlySystem (s : System) (request : Request) : Type 0 where
  pub system : IsSystem s
  pub laws : AreTreeLaws s.nodes
  pub blocks : KeepsBlocks s
  pub named : AreEndpoints s request

-- what is known of its ways and size
pub record HasLowShare (request : Request) : Type 0 where
  pub ways : is_ways (request_ways request) ≡ true
  pub low : request.size ≤ address_limit

-- a tree and its blocks, with no window
abbrev pub without_windows : List Node → List Registers → System
without_windows nodes blocks = record { nodes = nodes; blocks = blocks; windows = [] }

-- node n could select, or is not used
unfoldable pub selects_at : List Node → Request → WindowFields → ℕ → Bool
selects_at nodes request w n = can_select (tree_alone nodes) request w n

-- any blocks and windows over a tree
abbrev pub over : List Node → List Registers → List WindowFields → System
over nodes blocks windows = record { nodes = nodes; blocks = blocks; windows = windows }

-- what is asked of a window before its room
pub record KeepsWindow (nodes : List Node) (request : Request) (w : WindowFields) : Type 0 where
  pub usable : is_usable w.verdict ≡ true
  pub kind : permits w request.kind ≡ true
  pub open_to_plans : has_bit w.restrict window_fixed ≡ false
  pub bridges : has_used_bridges (tree_alone nodes) request w ≡ true
  pub gran : agrees_on_gran request.gran w ≡ true
  pub selects : find (λ m. not (selects_at nodes request w m)) (range_with_len 0 (length nodes)) ≡ None
  pub ways : find (λ m. not (can_have_ways (tree_alone nodes) request m)) (range_with_len 0 (length nodes)) ≡ None

-- what is known of a request by itself
pub record IsEarly (request : Request) : Type 0 where
  pub distinct : first_repeat [] request.endpoints ≡ None
  pub ways : is_ways (request_ways request) ≡ true
  pub size : IsSize request

-- a window that takes a request which keeps all that it has to in its nodes, with the tables of what it uses
pub record IsTakenBy (s : System) (request : Request) (uses : Uses) (w : WindowFields) : Type 0 where
  pub ready : AsksOrderlySystem s request
  pub tables : AreUses s.nodes request uses
  pub ways : HasWays s.nodes request
  pub endpoints : FitsEndpoints s request
  pub window : FitsWindow s request w
