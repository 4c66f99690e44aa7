use Rattle.std.proofs.Common.{◌≡◌, ◌+◌, length, drop}
use Rattle.cxl_topofile.specs.File.{attached}
use Rattle.cxl_topofile.specs.inner.Ports.{ListsPorts}
use Rattle.cxl_topofile.proofs.attach.add_drafts.Given as goal

abbrev pub invariant-loop-draft : goal.invariant-loop-draft
invariant-loop-draft l = record {
  same : attached l.nodes.items (drop l.draft-index l.drafts) ≡ attached l.initial.nodes.items l.drafts;
  len : length l.nodes.items ≡ length l.initial.nodes.items + l.draft-index;
  listed : ListsPorts l.nodes.items l.ports;
}
