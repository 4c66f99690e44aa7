use Rattle.std.proofs.Common.{◌≡◌, ℕ, ◌+◌, ◌-◌, ◌*◌, ◌/◌, ◌%◌, ◌^◌, cond, refl, ap, ◌∙◌, arith}
use Rattle.cxl_regs.specs.Reading.{decoder_ways, decoder_granularity}
use Rattle.cxl_span.proofs.Turns.{share_small, turns_are}
use Rattle.cxl_span.proofs.spans.endpoint_place_of.Goals as goal

pub overflow_add-result : goal.overflow_add-result
overflow_add-result c =
    let third : ℕ = cond c.split-factors.result.third 3 1 in
    let ways : decoder_ways c.args.d.now ≡ third * 2 ^ c.split-factors.result.bits = cc in
    let small = share_small c.saturating_sub-offset.result c.args.d.now.gran c.split-factors.result.bits third (decoder_ways c.args.d.now) (decoder_granularity c.args.d.now) c.third_part-turn.result ways refl c.third_part-turn.ensures in
    omega (arith, small)

pub overflow_add-result-2 : goal.overflow_add-result-2
overflow_add-result-2 c =
    let third : ℕ = cond c.split-factors.result.third 3 1 in
    let ways : decoder_ways c.args.d.now ≡ third * 2 ^ c.split-factors.result.bits = cc in
    let bytes : c.from.result ≡ decoder_granularity c.args.d.now = c.from.ensures ∙ c.interleave_granularity.ensures in
    let small = share_small c.saturating_sub-offset.result c.args.d.now.gran c.split-factors.result.bits third (decoder_ways c.args.d.now) c.from.result c.third_part-turn.result ways bytes c.third_part-turn.ensures in
    omega (arith, small)

pub returns : goal.returns
returns c =
    let third : ℕ = cond c.split-factors.result.third 3 1 in
    let ways : decoder_ways c.args.d.now ≡ third * 2 ^ c.split-factors.result.bits = cc in
    let gran : c.from.result ≡ decoder_granularity c.args.d.now = c.from.ensures ∙ c.interleave_granularity.ensures in
    let offset : ℕ = c.saturating_sub-offset.result in
    let bytes : ℕ = c.from.result in
    let turn : ℕ = c.third_part-turn.result in
    let shift : ℕ = c.args.d.now.gran + 8 in
    let small = share_small offset c.args.d.now.gran c.split-factors.result.bits third (decoder_ways c.args.d.now) bytes turn ways gran c.third_part-turn.ensures in
    let whole : turn * 2 ^ shift % 2 ^ 64 ≡ turn * 2 ^ shift = omega (arith, small) in
    let turns = turns_are offset c.args.d.now.gran c.split-factors.result.bits third (decoder_ways c.args.d.now) bytes turn ways gran c.third_part-turn.ensures in
    ap (λ (n : ℕ). c.args.start + n + offset % bytes) (whole ∙ turns)
    ∙ ap (λ (o : ℕ). c.args.start + o / (bytes * decoder_ways c.args.d.now) * bytes + o % bytes) c.saturating_sub-offset.ensures
    ∙ ap (λ (g : ℕ). c.args.start + (c.args.h - c.args.d.now.base) / (g * decoder_ways c.args.d.now) * g + (c.args.h - c.args.d.now.base) % g) gran
