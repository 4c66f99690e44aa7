use Rattle.std.proofs.Common.{ℕ, ◌/◌, ◌^◌, ap, ◌∙◌, arith}
use Rattle.std.proofs.Math.Nat.{div-div-eq-div-mul, mul_comm}
use Rattle.cxl_num.specs.Interleave.{factor_of}
use Rattle.cxl_deal.proofs.Ways.{factor_of-pos}
use Rattle.cxl_deal.proofs.steps.turn.Goals as goal

pub nonzero_div-result : goal.nonzero_div-result
nonzero_div-result c = omega (arith, factor_of-pos c.args.factors.third, c.factor_of.ensures)

pub returns : goal.returns
returns c =
    let f = c.args.factors in
    ap (λ (j : ℕ). c.args.chunk / 2 ^ f.bits / j) c.factor_of.ensures
    ∙ div-div-eq-div-mul c.args.chunk (2 ^ f.bits) (factor_of f.third)
    ∙ ap (λ (j : ℕ). c.args.chunk / j) (mul_comm (2 ^ f.bits) (factor_of f.third))
