use Rattle.std.proofs.Common.{◌≡◌, zero, suc, Some, refl, sym, ap, ◌∙◌, arith}
use Rattle.std.proofs.lemmas.Option.{none-some, same_Some}
use Rattle.cxl_worked_machines.proofs.ExampleFlat.{eleven_first, zero_behind}
use Rattle.cxl_worked_machines.proofs.flat_examples.flat_bytes_on_examples.Goals as goal

pub returns-clause-first : goal.returns-clause-first
returns-clause-first c = ap Some eleven_first

pub returns-clause-next : goal.returns-clause-next
returns-clause-next c = ap Some (zero_behind 1 (omega arith))

pub returns-clause-last : goal.returns-clause-last
returns-clause-last c = ap Some (zero_behind 0x1fffffff (omega arith))

pub returns-clause-before : goal.returns-clause-before
returns-clause-before c = refl

pub returns-clause-behind : goal.returns-clause-behind
returns-clause-behind c = refl

pub returns-clause-stand : goal.returns-clause-stand
returns-clause-stand c zero below = ap Some eleven_first
returns-clause-stand c (suc zero) below = ap Some (zero_behind 1 (omega arith))
returns-clause-stand c (suc (suc k)) below = absurd (omega (arith, below))

pub returns-clause-not_first : goal.returns-clause-not_first
returns-clause-not_first c has =
    let wrong : 0x11 ≡ 0x12 = sym eleven_first ∙ same_Some _ _ (has 0 (omega arith)) in
    omega (arith, wrong)

pub returns-clause-not_last : goal.returns-clause-not_last
returns-clause-not_last c has =
    let wrong : 0 ≡ 1 = sym (zero_behind 1 (omega arith)) ∙ same_Some _ _ (has 1 (omega arith)) in
    omega (arith, wrong)

pub returns-clause-not_across : goal.returns-clause-not_across
returns-clause-not_across c has = none-some 0 (has 1 (omega arith))
