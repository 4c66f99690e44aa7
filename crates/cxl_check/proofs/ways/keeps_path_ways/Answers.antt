use Rattle.std.proofs.Common.{◌≡◌, ℕ, ◌≤◌, arith}
use Rattle.cxl_enc.proofs.Ways.{few_ways}
use Rattle.cxl_check.proofs.WaysUp.{ways_fit}
use Rattle.cxl_check.proofs.ways.keeps_path_ways.Goals as goal

pub overflow_mul-result : goal.overflow_mul-result
overflow_mul-result c =
    let ways : ℕ = c.from-2.result in
    let above : ℕ = c.args.own.now.ways in
    let few = few_ways c.ways.result c.ways.ensures.known in
    let fit = ways_fit ways above (at_most ways c.ways.result c.from-2.ensures few) c.requires.own.few_ways in
    omega (arith, fit)
  where
    at_most : (a b : ℕ) → a ≡ b → b ≤ 16 → a ≤ 16
    at_most a b same few = omega arith
