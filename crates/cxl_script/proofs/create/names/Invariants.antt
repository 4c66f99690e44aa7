use Rattle.std.proofs.Common.{◌≡◌, length}
use Rattle.cxl_script.specs.Grammar.{names_in}
use Rattle.cxl_script.proofs.NameLists.{behind_names}
use Rattle.cxl_script.proofs.create.names.Given as goal

-- the names so far stand before those that are left
abbrev pub invariant-loop-word : goal.invariant-loop-word
invariant-loop-word l = names_in l.fn.words.words ≡ behind_names l.names.items (names_in l.words.words)

abbrev pub decreases-loop-word : goal.decreases-loop-word
decreases-loop-word l = length l.words.words
