-- What is entered by port, a child at a time.
use Rattle.std.specs.Prelude.{◌≡◌, ℕ, ◌==◌, Bool, false, List, filter, if◌then◌else◌}
use Rattle.std.specs.List.{list_any, range_with_len}
use Rattle.std.specs.Option.{option_map_or}
use Rattle.cxl_topo.specs.declared.node.Node.{Node}
use Rattle.cxl_topo.specs.Tree.{child_of}
use Rattle.cxl_model.specs.declared.request.Request.{Request}
use Rattle.cxl_legal.specs.Used.{count_under}
use Rattle.cxl_plan.specs.inner.Uses.{tree_alone}

-- the child at the port is among those that were entered
abbrev pub is_entered : List Node → List ℕ → ℕ → ℕ → Bool
is_entered nodes entered n port = option_map_or (λ c. list_any (λ m. m == c) entered) (child_of nodes n port) false

-- the ports whose child is among them, in rising order; the limit is no numeral, since the list of all ports is long
abbrev pub ArePortsOf : List Node → List ℕ → ℕ → List ℕ → Type 0
ArePortsOf nodes entered n ports = (limit : ℕ) → limit ≡ 256 → ports ≡ filter (is_entered nodes entered n) (range_with_len 0 limit)

-- the count of the child at the port, once it is among those that were entered
abbrev pub entered_at : List Node → Request → List ℕ → ℕ → ℕ → ℕ
entered_at nodes request entered n port =
    option_map_or (λ c. if list_any (λ m. m == c) entered then count_under (tree_alone nodes) request c else 0) (child_of nodes n port) 0
