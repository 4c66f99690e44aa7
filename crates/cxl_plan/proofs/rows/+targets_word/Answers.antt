use Rattle.std.proofs.Common.{length, arith}
use Rattle.cxl_plan.proofs.StatedRows.{power_low}
use Rattle.cxl_plan.proofs.rows.+targets_word.Goals as goal

pub overflow_mul-result : goal.overflow_mul-result
overflow_mul-result t c =
    let power = power_low (length c.in-Some.rest.now) (omega (arith, c.in-Some.ensures.cases.1, c.requires)) in
    let low = c.targets_word.ensures.low in
    omega arith

pub overflow_add-result : goal.overflow_add-result
overflow_add-result t c =
    let power = power_low (length c.in-Some.rest.now) (omega (arith, c.in-Some.ensures.cases.1, c.requires)) in
    let low = c.targets_word.ensures.low in
    omega arith
