use Rattle.std.proofs.Common.{length}
use Rattle.cxl_plan.proofs.rows.+targets_word.Given as goal

abbrev pub decreases-targets_word : goal.decreases-targets_word
decreases-targets_word l = length l.ports.now
