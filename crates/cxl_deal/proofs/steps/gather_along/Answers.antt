use Rattle.std.proofs.Common.{ℕ, ◌≡◌, ◌+◌, ◌*◌, ◌/◌, ◌%◌, ◌^◌, ◌<◌, ap, ◌∙◌, arith}
use Rattle.std.proofs.Math.Nat.{mod-eq_of_lt}
use Rattle.cxl_num.specs.Interleave.{ways_by}
use Rattle.cxl_deal.proofs.Ways.{chunk_size-pow}
use Rattle.cxl_deal.proofs.StepLemmas.{gather_fits}
use Rattle.cxl_deal.proofs.steps.gather_along.Goals as goal

pub overflow_mul-chunk : goal.overflow_mul-chunk
overflow_mul-chunk c =
    let f = c.args.factors in
    let fits = gather_fits f.third f.bits c.args.gran c.args.slot c.args.offset c.requires.slot_below c.requires.fits in
    rw c.ways_by.ensures (omega (arith, fits.product))

pub overflow_add-chunk : goal.overflow_add-chunk
overflow_add-chunk c =
    let f = c.args.factors in
    let fits = gather_fits f.third f.bits c.args.gran c.args.slot c.args.offset c.requires.slot_below c.requires.fits in
    rw (c.ways_by.ensures, c.from.ensures) (omega (arith, fits.chunk))

-- the chunk number moved up by the shift is a whole word
shifted : (c : goal.After-low_bits) → (c.args.offset / 2 ^ (c.args.gran + 8) * c.ways_by.result + c.from.result) * 2 ^ (c.args.gran + 8) % 2 ^ 64
    ≡ (c.args.offset / 2 ^ (c.args.gran + 8) * ways_by c.args.factors.third c.args.factors.bits + c.args.slot) * 2 ^ (c.args.gran + 8)
shifted c =
    let e = c.args.gran + 8 in
    let f = c.args.factors in
    let ways = ways_by f.third f.bits in
    let fits = gather_fits f.third f.bits c.args.gran c.args.slot c.args.offset c.requires.slot_below c.requires.fits in
    let below : (c.args.offset / 2 ^ e * ways + c.args.slot) * 2 ^ e < 2 ^ 64 = omega (arith, fits.shifted) in
    ap (λ (j : ℕ). (c.args.offset / 2 ^ e * j + c.from.result) * 2 ^ e % 2 ^ 64) c.ways_by.ensures
    ∙ ap (λ (j : ℕ). (c.args.offset / 2 ^ e * ways + j) * 2 ^ e % 2 ^ 64) c.from.ensures
    ∙ mod-eq_of_lt below

pub overflow_add-result : goal.overflow_add-result
overflow_add-result c =
    let f = c.args.factors in
    let fits = gather_fits f.third f.bits c.args.gran c.args.slot c.args.offset c.requires.slot_below c.requires.fits in
    rw (shifted c, c.low_bits.ensures) (omega (arith, fits.whole))

pub returns : goal.returns
returns c = rw (shifted c, c.low_bits.ensures, chunk_size-pow c.args.gran)
