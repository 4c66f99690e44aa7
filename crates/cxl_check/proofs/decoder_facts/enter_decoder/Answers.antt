use Rattle.std.proofs.Common.{ℕ, ◌+◌, ◌*◌, set, ap, ◌∙◌, arith}
use Rattle.cxl_regs.specs.declared.reading.Range.{Range}
use Rattle.cxl_model.specs.Hosts.{as_system}
use Rattle.cxl_model.specs.System.{System}
use Rattle.cxl_model.specs.Ranges.{ways_above, bits_above}
use Rattle.cxl_check.specs.inner.DecoderFacts.{AreDecoderFacts}
use Rattle.cxl_check.specs.declared.decoder_facts.DecoderFacts.{DecoderFacts}
use Rattle.cxl_check.proofs.Worked.{one_worked, fewer_worked}
use Rattle.cxl_check.proofs.decoder_facts.enter_decoder.Goals as goal

pub ports_above-above-requires-clause-before : goal.ports_above-above-requires-clause-before
ports_above-above-requires-clause-before c = rw c.deref.ensures.value (fewer_worked (as_system c.args.host.now) _ _ c.args.all.now.items (omega arith) c.requires.before)

pub returns : goal.returns
returns c =
    let s : System = as_system c.args.host.now in
    let above = c.ports_above-above.ensures in
    let facts : DecoderFacts = record { start = c.args.span.now.start; ways = c.ports_above-above.result.ways; bits = c.ports_above-above.result.bits; kind = c.args.span.now.kind } in
    let are : AreDecoderFacts s c.args.node c.args.i c.args.d.now facts =
    record {
      ways = above.ways ∙ ap (λ (r : Range). ways_above s r c.args.node) c.range.ensures;
      few_ways = above.few_ways;
      bits = above.bits ∙ ap (λ (r : Range). bits_above s r c.args.node) c.range.ensures;
      few_bits = above.few_bits;
      start = c.requires.span.start;
      kind = c.requires.span.kind;
    } in
    one_worked s c.args.node c.args.i c.args.d.now c.requires.few c.requires.committed.there c.args.all.now.items _ facts
    c.requires.here are c.requires.before
    (ap (λ (k : ℕ). set c.args.all.now.items (10 * c.args.node + k) facts) c.from.ensures)
