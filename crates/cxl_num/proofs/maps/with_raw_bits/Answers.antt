use Rattle.std.proofs.Common.{◌≡◌, ℕ, ◌+◌, ◌-◌, ◌*◌, ◌/◌, ◌%◌, ◌^◌, ◌≤◌, ap, ◌∙◌, arith}
use Rattle.cxl_num.specs.Maps.{with_raw_bits}
use Rattle.cxl_num.proofs.RawBits.{with-below, with-words}
use Rattle.cxl_num.proofs.maps.with_raw_bits.Goals as goal
use Rattle.cxl_num.proofs.maps.with_raw_bits.Goals.{After-from}

-- the word that the code makes
whole : (c : After-from) → (let e = c.args.gran + 8 in
    c.args.h - c.low_bits-own.result * 2 ^ e % 2 ^ 64 + c.from.result * 2 ^ e % 2 ^ 64
    ≡ with_raw_bits c.args.gran c.args.bits c.args.h c.args.raw)
whole c =
    let e = c.args.gran + 8 in
    ap (λ (j : ℕ). c.args.h - j * 2 ^ e % 2 ^ 64 + c.from.result * 2 ^ e % 2 ^ 64) c.low_bits-own.ensures
    ∙ ap (λ (j : ℕ). c.args.h - c.args.h / 2 ^ e % 2 ^ c.args.bits * 2 ^ e % 2 ^ 64 + j * 2 ^ e % 2 ^ 64) c.from.ensures
    ∙ with-words c.args.gran c.args.bits c.args.h c.args.raw c.requires.gran c.requires.bits c.requires.raw

pub overflow_add-result : goal.overflow_add-result
overflow_add-result c =
    let places : c.args.gran + 8 + c.args.bits ≤ 64 = omega (arith, c.requires.gran, c.requires.bits) in
    let below = with-below c.args.gran c.args.bits c.args.h 64 c.args.raw places c.requires.raw c.ranges.h.fits in
    omega (arith, whole c, below)

pub returns : goal.returns
returns c = whole c
