use Rattle.std.proofs.Common.{arith}
use Rattle.std.proofs.lemmas.Bool.Decides.{nat_tests}
use Rattle.cxl_commands.proofs.WordCounts.{gen_form-few, gen_form-many}
use Rattle.cxl_commands.proofs.form.gen_form.Goals as goal
use Rattle.cxl_commands.proofs.form.gen_form.Goals.{in_default-via-then-words-lt1, in_default-via-else-words-lt1+else-words-lt2}

pub returns-in_default : goal.returns-in_default
returns-in_default c =
    elim c.in_default.branch [
      | in_default-via-then-words-lt1 w ↦ gen_form-few c.args.words.now (grind (arith, nat_tests))
      | in_default-via-else-words-lt1+else-words-lt2 w ↦ gen_form-many c.args.words.now (grind (arith, nat_tests))
    ]
