-- Landings of bridges, one bridge at a time.
use Rattle.std.specs.Prelude.{ℕ, ◌==◌, ◌&&◌, Bool, false, List}
use Rattle.std.specs.Option.{option_map_or}
use Rattle.cxl_topo.specs.declared.node.Node.{Node}
use Rattle.cxl_topo.specs.Tree.{is_bridge_at, landing_of}

-- node b is a bridge with this landing
abbrev pub lands_at : List Node → ℕ → ℕ → Bool
lands_at nodes n b = is_bridge_at nodes b && option_map_or (λ m. m == n) (landing_of nodes b) false
