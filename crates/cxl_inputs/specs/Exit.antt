-- The exit statuses of the program.
use Rattle.std.specs.Prelude.{ℕ}
use Rattle.cxl_inputs.specs.declared.status.Status.{Status}
use Rattle.cxl_inputs.specs.declared.status.Status.TheVariants.{Done, Usage, FetchFault, BadTable, BadTopo, ReadFault, WriteFault, BusFault, Refused, Memory, BadImage, TooMuch, TooLarge}

-- the number of each status (this project's rule)
abbrev pub exit_code : Status → ℕ
exit_code Done = 0
exit_code Usage = 1
exit_code FetchFault = 2
exit_code (BadTable fault) = 3
exit_code (BadTopo fault) = 4
exit_code ReadFault = 5
exit_code WriteFault = 6
exit_code BusFault = 7
exit_code Refused = 8
exit_code Memory = 9
exit_code (BadImage fault) = 10
exit_code TooMuch = 11
exit_code TooLarge = 12
