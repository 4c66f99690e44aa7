use Rattle.std.proofs.Common.{◌≡◌, ℕ, ◌+◌, ◌-◌, ◌*◌, ◌/◌, sym, ap, subst, ◌∙◌, arith}
use Rattle.std.proofs.Math.Nat.{div-mul-le_self}
use Rattle.cxl_num.specs.Interleave.{chunk_size}
use Rattle.cxl_deal.specs.Weaves.{WeaveFields, weave_ways, turns_end}
use Rattle.cxl_range.specs.inner.Woven.{AreCountsBefore}
use Rattle.cxl_range.proofs.counting.counts_before.Goals as goal

-- where the whole turns end, as the code has it
end_is : (v : WeaveFields) (base ways size n : ℕ) → base ≡ v.base → ways ≡ weave_ways v → size ≡ chunk_size v.gran → base + n * (ways * size) ≡ turns_end v n
end_is v base ways size n base_is ways_is size_is =
    ap (λ (x : ℕ). x + n * (ways * size)) base_is ∙ ap (λ (x : ℕ). v.base + n * (x * size)) ways_is ∙ ap (λ (x : ℕ). v.base + n * (weave_ways v * x)) size_is
    ∙ ap (λ (x : ℕ). v.base + x) (grouped n (weave_ways v) (chunk_size v.gran))
  where
    grouped : (n w g : ℕ) → n * (w * g) ≡ n * w * g
    grouped n w g = grind arith

pub whole_turns-requires : goal.whole_turns-requires
whole_turns-requires c =
    let v : WeaveFields = c.args.weave.now in
    let turn : ℕ = c.from.result * c.chunk_bytes.result in
    let n : ℕ = (c.args.end - c.base-base.result) / turn in
    let end = end_is v c.base-base.result c.from.result c.chunk_bytes.result n c.base-base.ensures.value (c.from.ensures ∙ c.ways.ensures.value) c.chunk_bytes.ensures.value in
    let up = div-mul-le_self (c.args.end - c.base-base.result) turn in
    let base = c.base-base.ensures.value in
    let r = c.requires in
    let from = r.from in
    let low = r.low in
    omega (arith, end, up, base, from, low)

pub with_chunks-requires-clause-before : goal.with_chunks-requires-clause-before
with_chunks-requires-clause-before c =
    let v : WeaveFields = c.args.weave.now in
    let turn : ℕ = c.from.result * c.chunk_bytes.result in
    let n : ℕ = (c.args.end - c.base-base.result) / turn in
    let end = end_is v c.base-base.result c.from.result c.chunk_bytes.result n c.base-base.ensures.value (c.from.ensures ∙ c.ways.ensures.value) c.chunk_bytes.ensures.value in
    subst (λ (x : ℕ). AreCountsBefore v x c.whole_turns.result) (sym end) c.whole_turns.ensures
