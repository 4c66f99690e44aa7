use Rattle.std.proofs.Common.{◌≡◌, ◌≤◌}
use Rattle.cxl_model.specs.Hosts.{as_system}
use Rattle.cxl_model.specs.Ranges.{ways_above, bits_above}
use Rattle.cxl_check.proofs.above.ports_above.Given as goal

-- as far as is gone up, no port has a decoder of the range
abbrev pub invariant-loop-parent : goal.invariant-loop-parent
invariant-loop-parent l = record {
  ways : ways_above (as_system l.host) l.range l.node ≡ ways_above (as_system l.host) l.range l.below;
  bits : bits_above (as_system l.host) l.range l.node ≡ bits_above (as_system l.host) l.range l.below;
  up : l.below ≤ l.node;
}

abbrev pub decreases-loop-parent : goal.decreases-loop-parent
decreases-loop-parent l = l.below
