use Rattle.std.proofs.Common.{◌-◌, length}
use Rattle.std.specs.List.{filter_map, range_with_len}
use Rattle.cxl_topo.specs.Tree.{child_of}
use Rattle.cxl_model.specs.Hosts.{as_system}
use Rattle.cxl_pick.specs.Picking.{gives}
use Rattle.cxl_reason.specs.inner.Gifts.{AreCounts}
use Rattle.cxl_reason.proofs.serving.+counts_of.Given as goal

abbrev pub decreases-counts_of : goal.decreases-counts_of
decreases-counts_of l = length l.host.now.topo.now.nodes - l.node

abbrev pub invariant-loop-port : goal.invariant-loop-port
invariant-loop-port l =
    AreCounts l.counts
    (λ v. length (filter_map (λ c. gives (as_system l.host) l.want l.w l.start c v) (filter_map (child_of l.host.topo.now.nodes l.node) (range_with_len 0 l.port))))
