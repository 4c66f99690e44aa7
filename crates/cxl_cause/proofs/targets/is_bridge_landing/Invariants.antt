use Rattle.std.proofs.Common.{◌≡◌, ◌&&◌, false}
use Rattle.std.specs.Prelude.{◌==◌}
use Rattle.std.specs.List.{list_any, range_with_len}
use Rattle.std.specs.Option.{option_map_or}
use Rattle.cxl_topo.specs.Tree.{is_bridge_at, landing_of}
use Rattle.cxl_cause.proofs.targets.is_bridge_landing.Given as goal

abbrev pub invariant-loop-bridge : goal.invariant-loop-bridge
invariant-loop-bridge l =
    list_any (λ b. is_bridge_at l.topo.nodes b && option_map_or (λ m. m == l.node) (landing_of l.topo.nodes b) false) (range_with_len 0 l.bridge) ≡ false
