use Rattle.std.proofs.Common.{List, ℕ, ◌++◌, length, drop, sym, ap, ◌∙◌, arith}
use Rattle.cxl_io.proofs.ReadBack.{decimal-one, decimal-two}
use Rattle.cxl_text.proofs.slots.put_decimal.Goals as goal

pub returns-then-number-lt10-clause-at : goal.returns-then-number-lt10-clause-at
returns-then-number-lt10-clause-at c =
    omega (arith, c.put_before.ensures.at, ap length (decimal-one c.args.number c.if-number-lt10.true))

pub returns-then-number-lt10-clause-text : goal.returns-then-number-lt10-clause-text
returns-then-number-lt10-clause-text c =
    c.put_before.ensures.text
    ∙ ap (λ (digits : List ℕ). digits ++ drop c.args.at c.args.text.now) (sym (decimal-one c.args.number c.if-number-lt10.true))

pub returns-then-number-lt100-clause-at : goal.returns-then-number-lt100-clause-at
returns-then-number-lt100-clause-at c =
    omega (arith, c.put_before-then-number-lt100.ensures.at, ap length (decimal-two c.args.number c.if-number-lt10.false c.if-number-lt100.true))

pub returns-then-number-lt100-clause-text : goal.returns-then-number-lt100-clause-text
returns-then-number-lt100-clause-text c =
    c.put_before-then-number-lt100.ensures.text
    ∙ ap (λ (digits : List ℕ). digits ++ drop c.args.at c.args.text.now) (sym (decimal-two c.args.number c.if-number-lt10.false c.if-number-lt100.true))
