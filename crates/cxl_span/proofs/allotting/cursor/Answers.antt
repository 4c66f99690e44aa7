use Rattle.std.proofs.Common.{ℕ, ◌%◌, ap, ◌∙◌, arith}
use Rattle.std.proofs.lemmas.List.Sums.{prefix_len-le-length}
use Rattle.cxl_enc.specs.Limits.{unit}
use Rattle.cxl_regs.specs.declared.decoder.Decoder.{Decoder}
use Rattle.cxl_regs.specs.Reading.{committed_count}
use Rattle.cxl_span.proofs.Cursors.{taken_to_cursor, cursor_within}
use Rattle.cxl_span.proofs.SpanLaws.{taken_same}
use Rattle.cxl_span.proofs.Wholes.{taken_aligned}
use Rattle.cxl_span.proofs.allotting.cursor.Goals as goal

pub taken_before-requires : goal.taken_before-requires
taken_before-requires c =
    let few = prefix_len-le-length (λ (x : Decoder). x.committed) c.args.block.now.decoders in
    let counted = c.requires.counted in
    omega (arith, few, counted)

at_cursor : goal.returns-clause-value
at_cursor c = c.taken_before.ensures.value ∙ taken_same c.args.block.now.decoders c.args.committed (committed_count c.args.block.now.decoders) c.requires.counted ∙ taken_to_cursor c.args.block.now.decoders

pub overflow_cast-result : goal.overflow_cast-result
overflow_cast-result c =
    let there = at_cursor c in
    let within = cursor_within c.args.block.now c.args.ram c.args.pmem c.requires.keeps c.requires.endpoint in
    omega (arith, there, within)

pub returns-clause-value : goal.returns-clause-value
returns-clause-value c = at_cursor c

pub returns-clause-within : goal.returns-clause-within
returns-clause-within c =
    let there = at_cursor c in
    let within = cursor_within c.args.block.now c.args.ram c.args.pmem c.requires.keeps c.requires.endpoint in
    omega (arith, there, within)

pub returns-clause-aligned : goal.returns-clause-aligned
returns-clause-aligned c =
    let counted = c.requires.counted in
    ap (λ (n : ℕ). n % unit) c.taken_before.ensures.value
    ∙ taken_aligned c.args.block.now c.args.ram c.args.pmem c.requires.block c.requires.keeps c.requires.endpoint c.args.committed (omega arith)
