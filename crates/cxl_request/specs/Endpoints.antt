-- The endpoints that a line names (this project's rules).
use Rattle.std.specs.Prelude.{ℕ, List, find, Option, is_none}
use Rattle.std.specs.List.{filter_map}
use Rattle.cxl_topo.specs.declared.node.Node.{Node}
use Rattle.cxl_topo.specs.Tree.{endpoint_named}

-- the first of these names that no endpoint has
abbrev pub first_unknown : List Node → List (List ℕ) → Option (List ℕ)
first_unknown nodes names = find (λ name. is_none (endpoint_named nodes name)) names

-- the endpoints that have one of these names, in their order
abbrev pub endpoints_named : List Node → List (List ℕ) → List ℕ
endpoints_named nodes names = filter_map (endpoint_named nodes) names
