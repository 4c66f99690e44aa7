use Rattle.std.proofs.Common.{Err, inl, arith}
use Rattle.std.proofs.lemmas.List.Sums.{prefix_len-le-length}
use Rattle.cxl_regs.specs.declared.decoder.Decoder.{Decoder}
use Rattle.cxl_span.specs.declared.allotting.SpanFault.TheVariants.{NoDecoder, PastRam, NoRoom}
use Rattle.cxl_span.proofs.Cursors.{full_from_count, left_from_count}
use Rattle.cxl_span.proofs.OneAnswer.{exactly, not_past_from, least_is_max}
use Rattle.cxl_span.proofs.allotting.allot.Goals as goal

pub returns-then-committed-count-clause-exact : goal.returns-then-committed-count-clause-exact
returns-then-committed-count-clause-exact c =
    exactly c.args.block.now.decoders c.args.ram c.args.pmem c.args.kind c.args.len (Err NoDecoder)
    (full_from_count c.args.block.now.decoders (omega arith))

pub returns-then-committed-count-clause-refused : goal.returns-then-committed-count-clause-refused
returns-then-committed-count-clause-refused c = inl (full_from_count c.args.block.now.decoders (omega arith))

pub returns-then-is_past_ram-clause-exact : goal.returns-then-is_past_ram-clause-exact
returns-then-is_past_ram-clause-exact c =
    let few = prefix_len-le-length (λ (x : Decoder). x.committed) c.args.block.now.decoders in
    let past = c.is_past_ram.ensures.0 c.if-is_past_ram.true in
    exactly c.args.block.now.decoders c.args.ram c.args.pmem c.args.kind c.args.len (Err (PastRam c.cursor-cursor.result))
    (record {
      left = left_from_count c.args.block.now.decoders (omega arith);
      of_ram = past.0;
      past = past.1;
      told = c.cursor-cursor.ensures.value;
    })

pub returns-then-start-len-clause-exact : goal.returns-then-start-len-clause-exact
returns-then-start-len-clause-exact c =
    let few = prefix_len-le-length (λ (x : Decoder). x.committed) c.args.block.now.decoders in
    let at = c.cursor-cursor.ensures.value in
    let from = c.partition_start.ensures in
    let limit = c.partition_end-limit.ensures in
    let least = c.max-start.ensures in
    let end = c.if-start-len.true in
    exactly c.args.block.now.decoders c.args.ram c.args.pmem c.args.kind c.args.len
    (Err (NoRoom record { start = c.max-start.result; limit = c.partition_end-limit.result }))
    (record {
      left = left_from_count c.args.block.now.decoders (omega arith);
      not_past = not_past_from _ _ _ _ _ at c.is_past_ram.ensures c.if-is_past_ram.false;
      start = omega (arith, at, from, least);
      limit = limit;
      short = omega (arith, end);
    })

pub returns-clause-exact : goal.returns-clause-exact
returns-clause-exact c =
    let few = prefix_len-le-length (λ (x : Decoder). x.committed) c.args.block.now.decoders in
    let from = c.partition_start.ensures in
    let limit = c.partition_end-limit.ensures in
    let least = c.max-start.ensures in
    let end = c.if-start-len.false in
    exactly c.args.block.now.decoders c.args.ram c.args.pmem c.args.kind c.args.len _
    (least_is_max c.args.block.now.decoders c.args.ram c.args.pmem c.args.kind c.args.len c.cursor-cursor.result c.max-start.result
    (left_from_count c.args.block.now.decoders (omega arith)) c.cursor-cursor.ensures.value
    (omega (arith, from, least)) (omega (arith, limit, end)))
