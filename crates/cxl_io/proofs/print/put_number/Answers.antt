use Rattle.std.proofs.Common.{◌++◌, List, ℕ, ap, sym, ◌∙◌, arith}
use Rattle.cxl_io.proofs.ReadBack.{decimal-one, number_of-decimal}
use Rattle.cxl_io.proofs.print.put_number.Goals as goal

pub returns-then-n-lt10-clause-ok : goal.returns-then-n-lt10-clause-ok
returns-then-n-lt10-clause-ok c =
    c.in_ok-push.ensures.items ∙ ap (λ (t : List ℕ). c.args.out.now.items ++ t) (sym (decimal-one c.args.n c.if-n-lt10.true))

pub returns-then-n-lt10-clause-read_back : goal.returns-then-n-lt10-clause-read_back
returns-then-n-lt10-clause-read_back c = number_of-decimal c.args.n (omega arith)

pub returns-in_err-push-clause-read_back : goal.returns-in_err-push-clause-read_back
returns-in_err-push-clause-read_back c = number_of-decimal c.args.n (omega arith)

pub returns-then-n-lt100-clause-ok : goal.returns-then-n-lt100-clause-ok
returns-then-n-lt100-clause-ok c = rw c.two_digits.ensures at c.put_digits.ensures.ok

pub returns-then-n-lt100-clause-read_back : goal.returns-then-n-lt100-clause-read_back
returns-then-n-lt100-clause-read_back c = number_of-decimal c.args.n (omega arith)

pub returns-then-n-lt1000-clause-ok : goal.returns-then-n-lt1000-clause-ok
returns-then-n-lt1000-clause-ok c = rw c.three_digits.ensures at c.put_digits-then-n-lt1000.ensures.ok

pub returns-then-n-lt1000-clause-read_back : goal.returns-then-n-lt1000-clause-read_back
returns-then-n-lt1000-clause-read_back c = number_of-decimal c.args.n (omega arith)

pub returns-clause-read_back : goal.returns-clause-read_back
returns-clause-read_back c = number_of-decimal c.args.n (omega arith)
