-- The endpoints of a range, and those of them that lie under a node (this project's rules).
use Rattle.std.specs.Prelude.{ℕ, ◌==◌, ◌&&◌, Bool, List, length, filter}
use Rattle.std.specs.List.{list_any, range_with_len}
use Rattle.cxl_topo.specs.declared.node.Node.{Node}
use Rattle.cxl_topo.specs.Tree.{is_endpoint_at, path_of}
use Rattle.cxl_model.specs.System.{System}
use Rattle.cxl_regs.specs.declared.reading.Range.{Range}
use Rattle.cxl_model.specs.Ranges.{serves}

-- node n stands on the path of node m, which may be itself
abbrev pub is_under : List Node → ℕ → ℕ → Bool
is_under nodes n m = list_any (λ q. q == n) (path_of nodes m)

-- an endpoint with a committed decoder of the range
abbrev pub is_endpoint_of : System → Range → ℕ → Bool
is_endpoint_of s r m = is_endpoint_at s.nodes m && serves s r m

-- the range's endpoints, in rising order
abbrev pub endpoints_of : System → Range → List ℕ
endpoints_of s r = filter (is_endpoint_of s r) (range_with_len 0 (length s.nodes))

-- those that lie under node n
abbrev pub endpoints_under : System → Range → ℕ → List ℕ
endpoints_under s r n = filter (is_under s.nodes n) (endpoints_of s r)
