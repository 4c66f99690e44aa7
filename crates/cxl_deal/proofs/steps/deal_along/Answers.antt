use Rattle.std.proofs.Common.{ℕ, ◌+◌, ◌*◌, ◌/◌, ◌%◌, ◌^◌, ap, ◌∙◌, arith}
use Rattle.std.proofs.Math.Nat.{mod-lt}
use Rattle.cxl_num.specs.Interleave.{ways_by}
use Rattle.cxl_deal.proofs.Ways.{ways_by-few, ways_by-pos, chunk_size-pow}
use Rattle.cxl_deal.proofs.StepLemmas.{place-mod, turn_fits}
use Rattle.cxl_deal.proofs.steps.deal_along.Goals as goal

pub overflow_cast-result : goal.overflow_cast-result
overflow_cast-result c =
    let chunk = c.args.o / 2 ^ (c.args.gran + 8) in
    let f = c.args.factors in
    let ways = ways_by f.third f.bits in
    let place = place-mod chunk ways c.turn-turn.result c.ways_by.result c.turn-turn.ensures c.ways_by.ensures in
    omega (arith, mod-lt chunk (ways_by-pos f.third f.bits), ways_by-few f.third f.bits c.requires.few)

pub returns-clause-slot : goal.returns-clause-slot
returns-clause-slot c = rw (chunk_size-pow c.args.gran)
    (place-mod (c.args.o / 2 ^ (c.args.gran + 8)) (ways_by c.args.factors.third c.args.factors.bits) c.turn-turn.result c.ways_by.result c.turn-turn.ensures c.ways_by.ensures)

pub returns-clause-offset : goal.returns-clause-offset
returns-clause-offset c =
    let e = c.args.gran + 8 in
    let ways = ways_by c.args.factors.third c.args.factors.bits in
    rw (chunk_size-pow c.args.gran)
    (ap (λ (j : ℕ). j * 2 ^ e % 2 ^ 64 + c.low_bits.result) c.turn-turn.ensures
    ∙ ap (λ (j : ℕ). c.args.o / 2 ^ e / ways * 2 ^ e % 2 ^ 64 + j) c.low_bits.ensures
    ∙ ap (λ (j : ℕ). j + c.args.o % 2 ^ e) (turn_fits c.args.o e ways c.requires.below))
