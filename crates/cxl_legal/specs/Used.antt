-- The nodes and ports of a tree that lead to the endpoints of a request (this project's rules).
use Rattle.std.specs.Prelude.{◌≡◌, ℕ, ◌+◌, ◌==◌, Bool, true, false, if◌then◌else◌, List, length, filter, sum_by, map, unwrap_or, Some, All, ◌<◌}
use Rattle.std.specs.Option.{option_map_or}
use Rattle.std.specs.List.{list_any, range_with_len}
use Rattle.cxl_enc.specs.Codes.{bits_of, code_in_table}
use Rattle.cxl_topo.specs.declared.node.Node.{Node}
use Rattle.cxl_topo.specs.declared.node.Parent.{Parent}
use Rattle.cxl_topo.specs.Tree.{is_endpoint_at, parent_of, child_of, ports_above}
use Rattle.cxl_window.specs.Fields.{WindowFields}
use Rattle.cxl_model.specs.declared.request.Request.{Request}
use Rattle.cxl_model.specs.System.{System}
use Rattle.cxl_model.specs.Counts.{is_under}
use Rattle.cxl_model.specs.Ranges.{product}
use Rattle.cxl_model.specs.Plans.{plan_code}

-- ports are bytes, as in the nodes of every program
abbrev pub HasBytePorts : List Node → Type 0
HasBytePorts nodes = (i : ℕ) (parent : Parent) → parent_of nodes i ≡ Some parent → parent.port < 256

-- each number of the request is that of an endpoint
abbrev pub AreEndpoints : System → Request → Type 0
AreEndpoints s request = All (λ m. is_endpoint_at s.nodes m ≡ true) request.endpoints

-- as many ways as endpoints
abbrev pub request_ways : Request → ℕ
request_ways request = length request.endpoints

-- ---- used nodes

-- the node stands on the path of a requested endpoint, which may be itself
abbrev pub is_used : System → Request → ℕ → Bool
is_used s request n = list_any (is_under s.nodes n) request.endpoints

-- how many requested endpoints lie under node n
abbrev pub count_under : System → Request → ℕ → ℕ
count_under s request n = length (filter (is_under s.nodes n) request.endpoints)

-- ---- used ports

-- the child at the port is used
abbrev pub is_port_used : System → Request → ℕ → ℕ → Bool
is_port_used s request n port = option_map_or (is_used s request) (child_of s.nodes n port) false

-- the ports of node n whose child is used, in rising order
abbrev pub used_ports : System → Request → ℕ → List ℕ
used_ports s request n = filter (is_port_used s request n) (range_with_len 0 256)

-- how many requested endpoints lie under the child at the port
abbrev pub count_at_port : System → Request → ℕ → ℕ → ℕ
count_at_port s request n port = option_map_or (count_under s request) (child_of s.nodes n port) 0

-- ---- the ways and the code that a node's decoder would have

-- an endpoint has those of the request, and a port one for each used port
abbrev pub planned_ways : System → Request → ℕ → ℕ
planned_ways s request n =
    if is_endpoint_at s.nodes n then request_ways request else length (used_ports s request n)

-- the product of the ways of the ports above node n
abbrev pub planned_ways_above : System → Request → ℕ → ℕ
planned_ways_above s request n = product (map (λ parent. planned_ways s request parent.node) (ports_above s.nodes n))

-- the sum of the k of the ways of the ports above node n
abbrev pub planned_bits_above : System → Request → ℕ → ℕ
planned_bits_above s request n = sum_by (λ parent. bits_of (planned_ways s request parent.node)) (ports_above s.nodes n)

-- 0 at one way; an endpoint has the region's code, and a port that code plus the k of the window and of each port above it
abbrev pub planned_code : System → Request → WindowFields → ℕ → ℕ
planned_code s request w n =
    if planned_ways s request n == 1 then 0
    else (if is_endpoint_at s.nodes n then plan_code request w (request_ways request)
    else plan_code request w (request_ways request) + bits_of w.ways + planned_bits_above s request n)

-- the code of those ways
abbrev pub planned_ways_code : System → Request → ℕ → ℕ
planned_ways_code s request n = unwrap_or (code_in_table (planned_ways s request n)) 0
