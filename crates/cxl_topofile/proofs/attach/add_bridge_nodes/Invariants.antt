use Rattle.std.proofs.Common.{◌≡◌, take}
use Rattle.cxl_topofile.specs.inner.Ports.{ListsPorts}
use Rattle.cxl_topofile.proofs.attach.add_bridge_nodes.Given as goal

abbrev pub invariant-loop-bridge : goal.invariant-loop-bridge
invariant-loop-bridge l = record {
  same : l.nodes.items ≡ take l.bridge-index l.bridges;
  listed : ListsPorts l.nodes.items l.ports;
}
