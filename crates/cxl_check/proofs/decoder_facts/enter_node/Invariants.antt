use Rattle.std.proofs.Common.{◌+◌, ◌*◌}
use Rattle.cxl_model.specs.Hosts.{as_system}
use Rattle.cxl_check.specs.inner.DecoderFacts.{AreFactsBefore, IsTaken}
use Rattle.cxl_check.proofs.decoder_facts.enter_node.Given as goal

-- what stands before is worked out, and so many bytes of an endpoint's device are skipped or taken
abbrev pub invariant-loop-i : goal.invariant-loop-i
invariant-loop-i l = record {
  before : AreFactsBefore (as_system l.host) (10 * l.node + l.i) l.all.items;
  taken : IsTaken (as_system l.host) l.node l.i l.taken;
}
