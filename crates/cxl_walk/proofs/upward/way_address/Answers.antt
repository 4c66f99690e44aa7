use Rattle.std.proofs.Common.{◌≡◌, ℕ, ◌+◌, ◌*◌, ◌/◌, ◌^◌, ◌<◌, refl, ◌∙◌, arith}
use Rattle.cxl_regs.specs.Reading.{decoder_ways, decoder_granularity}
use Rattle.cxl_walk.proofs.upward.way_address.Goals as goal

pub returns : goal.returns
returns c =
    let gran : c.from-gran.result ≡ decoder_granularity c.args.byte.now.decoder = c.from-gran.ensures ∙ c.interleave_granularity.ensures in
    let ways : c.from-ways.result ≡ decoder_ways c.args.byte.now.decoder = c.from-ways.ensures ∙ c.interleave_ways.ensures.value in
    rw (gran, ways, c.from.ensures) refl

-- the chunks that a way goes to, and their places, are far from wrapping
few_chunks : (along gran ways way : ℕ) → along < 2 ^ 52 → ways < 256 → way < 256 → along / gran * ways + way < 2 ^ 61
few_chunks along gran ways way a b c = grind arith

few_bits : (along gran ways way : ℕ) → along < 2 ^ 52 → gran < 2 ^ 32 → ways < 256 → way < 256 → (along / gran * ways + way) * gran < 2 ^ 61
few_bits along gran ways way a b c d = grind arith

pub overflow_mul-chunk : goal.overflow_mul-chunk
overflow_mul-chunk c = omega (arith, few_chunks c.args.byte.now.along c.from-gran.result c.from-ways.result 0 (omega arith) (omega arith) (omega arith))

pub overflow_add-chunk : goal.overflow_add-chunk
overflow_add-chunk c = omega (arith, few_chunks c.args.byte.now.along c.from-gran.result c.from-ways.result c.from.result (omega arith) (omega arith) (omega arith))

pub overflow_mul-result : goal.overflow_mul-result
overflow_mul-result c = omega (arith, few_bits c.args.byte.now.along c.from-gran.result c.from-ways.result c.from.result (omega arith) (omega arith) (omega arith) (omega arith))

pub overflow_add-result : goal.overflow_add-result
overflow_add-result c = omega (arith, few_bits c.args.byte.now.along c.from-gran.result c.from-ways.result c.from.result (omega arith) (omega arith) (omega arith) (omega arith))

pub overflow_add-result-2 : goal.overflow_add-result-2
overflow_add-result-2 c = omega (arith, few_bits c.args.byte.now.along c.from-gran.result c.from-ways.result c.from.result (omega arith) (omega arith) (omega arith) (omega arith))
