use Rattle.std.proofs.Common.{◌≡◌, ◌+◌, Bool, Vec, Global, length, sym, ap, subst, arith, rules}
use Rattle.cxl_check.proofs.Marks.{AreMarked, not_marked, none_marked, one_marked, all_marked}
use Rattle.cxl_check.proofs.landings.landings_of_bridges.Goals as goal
use Rattle.cxl_check.proofs.landings.landings_of_bridges.Goals.{in-Some, in_default}

pub loop-bridge-preserved : goal.loop-bridge-preserved
loop-bridge-preserved c =
    elim c.match-bridge_landing.branch [
      | in-Some w ↦
          one_marked c.args.topo.now.nodes c.loop-bridge.bridge c.loop-bridge.landings.items c.loop-bridge.invariant w.in-Some.landing w.in-Some.ensures.inside w.in-Some.ensures.lands c.match-bridge_landing.landings.items
          (ap (λ (v : Vec Bool Global). v.items) w.landings-is)
      | in_default w ↦
          subst (λ (v : Vec Bool Global). AreMarked c.args.topo.now.nodes (c.loop-bridge.bridge + 1) v.items) (sym w.landings-is)
          (none_marked c.args.topo.now.nodes c.loop-bridge.bridge c.loop-bridge.landings.items c.loop-bridge.invariant w.in_default.ensures.lands)
    ]

pub returns : goal.returns
returns c =
    let whole : c.loop-bridge.bridge ≡ length c.args.topo.now.nodes = omega (arith, c.count-bridge-end.ensures.count) in
    all_marked c.args.topo.now.nodes c.loop-bridge.landings.items (rw whole at c.loop-bridge.invariant)

pub loop-bridge-init : goal.loop-bridge-init
loop-bridge-init c = not_marked c.args.topo.now.nodes c.count.result c.in_ok-landings.landings.items c.count.ensures.count (c.in_ok-landings.ensures.items_if_clones_equal (search rules))
