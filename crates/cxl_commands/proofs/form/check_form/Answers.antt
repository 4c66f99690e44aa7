use Rattle.std.proofs.Common.{arith}
use Rattle.std.proofs.lemmas.Bool.Decides.{nat_tests}
use Rattle.cxl_commands.proofs.WordCounts.{check_form-few, check_form-many}
use Rattle.cxl_commands.proofs.form.check_form.Goals as goal
use Rattle.cxl_commands.proofs.form.check_form.Goals.{in_default-via-then-words-lt3, in_default-via-else-words-lt3+else-words-lt4}

pub returns-in_default : goal.returns-in_default
returns-in_default c =
    elim c.in_default.branch [
      | in_default-via-then-words-lt3 w ↦ check_form-few c.args.words.now (grind (arith, nat_tests))
      | in_default-via-else-words-lt3+else-words-lt4 w ↦ check_form-many c.args.words.now (grind (arith, nat_tests))
    ]
