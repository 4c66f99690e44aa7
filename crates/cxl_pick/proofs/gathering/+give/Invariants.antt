use Rattle.std.proofs.Common.{◌≡◌, ◌-◌, ◌/◌, ◌++◌, length}
use Rattle.std.specs.Prelude.{take}
use Rattle.std.specs.List.{filter_map, flat_map}
use Rattle.cxl_model.specs.Hosts.{as_system}
use Rattle.cxl_pick.specs.Picking.{gives}
use Rattle.cxl_pick.proofs.Walking.{to_come}
use Rattle.cxl_pick.proofs.gathering.+give.Given as goal

abbrev pub decreases-give : goal.decreases-give
decreases-give l = length l.host.now.topo.now.nodes - l.node

abbrev pub invariant-loop-child : goal.invariant-loop-child
invariant-loop-child l =
    l.given.items ++ to_come (λ child. gives (as_system l.host) l.want l.w l.start child (l.m / l.used)) l.left l.children l.child-index
    ≡ l.fn.given.items ++ flat_map (λ ns. ns) (take l.used (filter_map (λ child. gives (as_system l.host) l.want l.w l.start child (l.m / l.used)) l.children))
