-- What lines ask for is ranged.
use Rattle.std.proofs.Common.{◌≡◌, ℕ, List, [], ◌∷◌, Option, Some, None, Result, Ok, Err, refl}
use Rattle.std.specs.Prelude.{IfOk}
use Rattle.std.proofs.lemmas.List.Elements.{All-nil, All-cons}
use Rattle.cxl_script.specs.declared.command.Command.{Command}
use Rattle.cxl_script.specs.declared.fault.BadLine.{BadLine}
use Rattle.cxl_script.specs.Grammar.{asked_in, IsRanged}
use Rattle.cxl_machine.specs.Scripts.{Asked, asked_before, lines_asked}
use Rattle.cxl_flat.specs.Flat.{AreRanged}

abbrev IsRangedOne : Asked → Type 0
IsRangedOne one = IfOk one IsRanged

module _ (ranged : (line : List ℕ) (command : Command) → asked_in line ≡ Ok (Some command) → IsRanged command) where
  one_more : (line : List ℕ) (at : Result (Option Command) BadLine) (more : List Asked) → asked_in line ≡ at → AreRanged more → AreRanged (asked_before at more)
  one_more line (Ok None) more is all = all
  one_more line (Ok (Some command)) more is all = All-cons IsRangedOne (Ok command) more (ranged line command is) all
  one_more line (Err fault) more is all = All-cons IsRangedOne (Err fault) more tt all

  pub lines_ranged : (lines : List (List ℕ)) → AreRanged (lines_asked lines)
  lines_ranged [] = All-nil IsRangedOne
  lines_ranged (line ∷ lines) = one_more line (asked_in line) (lines_asked lines) refl (lines_ranged lines)
