use Rattle.std.proofs.Common.{◌*◌}
use Rattle.cxl_model.specs.Hosts.{as_system}
use Rattle.cxl_check.specs.inner.DecoderFacts.{AreFactsBefore}
use Rattle.cxl_check.proofs.decoder_facts.all_decoder_facts.Given as goal

abbrev pub invariant-loop-node : goal.invariant-loop-node
invariant-loop-node l = AreFactsBefore (as_system l.host) (10 * l.node) l.all.items
