use Rattle.std.proofs.Common.{◌≡◌, ℕ, ◌*◌, ◌<◌, ◌≤◌, ap, ◌∙◌, arith}
use Rattle.std.proofs.lemmas.Grind.{common_steps}
use Rattle.std.proofs.Math.Nat.{mul-le-mul_right}
use Rattle.std.proofs.lemmas.Nat.{mul-le}
use Rattle.cxl_num.specs.Interleave.{chunk_size}
use Rattle.cxl_deal.specs.Weaves.{WeaveFields, weave_ways}
use Rattle.cxl_range.proofs.Turns.{TurnLaws}
use Rattle.cxl_range.proofs.Slots.{turns_counted}
use Rattle.cxl_range.proofs.counting.whole_turns.Goals as goal

-- a chunk a turn is no more than a turn
fewer : (turns ways g : ℕ) → 0 < ways → turns * g ≤ turns * ways * g
fewer turns ways g some = let more : turns * 1 ≤ turns * ways = mul-le turns 1 turns ways (omega arith) some in mul-le-mul_right g (omega (arith, more))

pub overflow_mul-each : goal.overflow_mul-each
overflow_mul-each c =
    let v : WeaveFields = c.args.weave.now in
    let each : c.args.turns * c.chunk_bytes.result ≡ c.args.turns * chunk_size v.gran = ap (λ (x : ℕ). c.args.turns * x) c.chunk_bytes.ensures.value in
    let few = fewer c.args.turns (weave_ways v) (chunk_size v.gran) (omega (arith, c.region_fills_slots.ensures.slot v 0)) in
    let low = c.requires in
    omega (arith, each, few, low)

pub returns : goal.returns
returns c =
    let v : WeaveFields = c.args.weave.now in
    let is = c.chunk_bytes.ensures.weave in
    let laws : TurnLaws v = record {
      below = c.region_fills_slots.ensures.slot v;
      slot = λ h d. c.chunks_deal_whole.ensures.slot v h d is;
      apart = λ h i. c.place_tells_address.ensures v h i is;
      hit = λ n slot offset. c.region_fills_slots.ensures.hit v n slot offset is;
    } in
    let inv = c.loop-slot.invariant in
    let ways : c.ways-slot-end.result ≡ weave_ways v = c.ways-slot-end.ensures.value in
    let end = c.loop-slot.auto.slot-end in
    let all : c.loop-slot.slot ≡ weave_ways v = omega (arith, ways, end, c.loop-slot-test.false) in
    turns_counted v laws c.args.turns c.loop-slot.counts inv.sixteen (λ k below. inv.dealt k (omega (arith, all, below)) ∙ ap (λ (x : ℕ). c.args.turns * x) c.chunk_bytes.ensures.value)
    (λ k from below. inv.past k (omega (arith, all, from)) below)

pub loop-slot-preserved : goal.loop-slot-preserved
loop-slot-preserved c = grind (arith, common_steps)
