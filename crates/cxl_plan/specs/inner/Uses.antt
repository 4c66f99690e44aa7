-- What is known of the tables of used nodes and ports.
use Rattle.std.specs.Prelude.{◌≡◌, ℕ, ◌<◌, nat_lt, min, true, Vec, List, [], length, filter, slice_get, slice_index_or, Some}
use Rattle.std.specs.Global.{Global}
use Rattle.std.specs.List.{range_with_len}
use Rattle.cxl_enc.specs.Codes.{is_ways}
use Rattle.cxl_topo.specs.declared.node.Node.{Node}
use Rattle.cxl_window.specs.Fields.{WindowFields}
use Rattle.cxl_model.specs.declared.request.Request.{Request}
use Rattle.cxl_model.specs.System.{System}
use Rattle.cxl_legal.specs.Used.{is_used, count_under, used_ports, planned_ways, planned_ways_above, planned_bits_above, planned_code}
use Rattle.cxl_plan.specs.declared.used.Uses.{Uses}

-- nodes alone, for what speaks of no block and no window
abbrev pub tree_alone : List Node → System
tree_alone nodes = record { nodes = nodes; blocks = []; windows = [] }

-- the used nodes in rising order
abbrev pub used_nodes : List Node → Request → List ℕ
used_nodes nodes request = filter (is_used (tree_alone nodes) request) (range_with_len 0 (length nodes))

-- the used ports of node n; opaque, since the list of all ports is long
unfoldable pub ports_at : List Node → Request → ℕ → List ℕ
ports_at nodes request n = used_ports (tree_alone nodes) request n

-- the ways that node n would have
unfoldable pub ways_at : List Node → Request → ℕ → ℕ
ways_at nodes request n = planned_ways (tree_alone nodes) request n

-- the product of the ways above node n, and the sum of their k
unfoldable pub ways_above_at : List Node → Request → ℕ → ℕ
ways_above_at nodes request n = planned_ways_above (tree_alone nodes) request n

-- the sum of the k of the ways above node n
unfoldable pub bits_above_at : List Node → Request → ℕ → ℕ
bits_above_at nodes request n = planned_bits_above (tree_alone nodes) request n

-- the code that node n would have
unfoldable pub code_at : List Node → Request → WindowFields → ℕ → ℕ
code_at nodes request w n = planned_code (tree_alone nodes) request w n

-- each number below the limit that f counts something at, in rising order, with what it counts there
pub record AreCounted (f : ℕ → ℕ) (limit : ℕ) (nodes counts : List ℕ) : Type 0 where
  pub listed : nodes ≡ filter (λ n. nat_lt 0 (f n)) (range_with_len 0 limit)
  pub count : length counts ≡ length nodes
  pub each : (k : ℕ) → k < length nodes → slice_index_or counts k 0 ≡ min (f (slice_index_or nodes k 0)) 255

-- how many of the endpoints lie under each of the used nodes
pub record AreCounts (nodes : List Node) (request : Request) (used counts : List ℕ) : Type 0 where
  pub count : length counts ≡ length used
  pub each : (k : ℕ) → k < length used → slice_index_or counts k 0 ≡ count_under (tree_alone nodes) request (slice_index_or used k 0)

-- the used ports of each of the used nodes
pub record ArePorts (nodes : List Node) (request : Request) (used : List ℕ) (ports : List (Vec ℕ Global)) : Type 0 where
  pub count : length ports ≡ length used
  pub each : (k : ℕ) (own : Vec ℕ Global) → slice_get ports k ≡ Some own → own.items ≡ ports_at nodes request (slice_index_or used k 0)

-- the used nodes, how many of the endpoints lie under each, and its used ports
pub record AreUses (nodes : List Node) (request : Request) (uses : Uses) : Type 0 where
  pub listed : uses.nodes.items ≡ used_nodes nodes request
  pub counts : AreCounts nodes request uses.nodes.items uses.counts.items
  pub ports : ArePorts nodes request uses.nodes.items uses.ports.items

-- each used node would have a number of ways that a decoder can have
abbrev pub HasWays : List Node → Request → Type 0
HasWays nodes request = (n : ℕ) → is_used (tree_alone nodes) request n ≡ true → is_ways (ways_at nodes request n) ≡ true
