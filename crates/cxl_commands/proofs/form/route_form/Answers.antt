use Rattle.std.proofs.Common.{arith}
use Rattle.std.proofs.lemmas.Bool.Decides.{nat_tests}
use Rattle.cxl_commands.proofs.WordCounts.{route_form-few, route_form-many}
use Rattle.cxl_commands.proofs.form.route_form.Goals as goal
use Rattle.cxl_commands.proofs.form.route_form.Goals.{in_default-via-then-words-lt2, in_default-via-else-words-lt2+else-words-lt3}

pub returns-in_default : goal.returns-in_default
returns-in_default c =
    elim c.in_default.branch [
      | in_default-via-then-words-lt2 w ↦ route_form-few c.args.words.now (grind (arith, nat_tests))
      | in_default-via-else-words-lt2+else-words-lt3 w ↦ route_form-many c.args.words.now (grind (arith, nat_tests))
    ]
