-- What a status alone says of a run.
use Rattle.std.specs.Prelude.{Bool, true, false}
use Rattle.cxl_inputs.specs.declared.status.Status.{Status}
use Rattle.cxl_inputs.specs.declared.status.Status.TheVariants.{Done, Usage, FetchFault, BadTable, BadTopo, ReadFault, WriteFault, BusFault, Refused, Memory, BadImage, TooMuch, TooLarge}

-- a run ends so by its words and files alone
abbrev pub is_of_files : Status → Bool
is_of_files Done = false
is_of_files Usage = true
is_of_files FetchFault = true
is_of_files (BadTable fault) = true
is_of_files (BadTopo fault) = true
is_of_files ReadFault = false
is_of_files WriteFault = false
is_of_files BusFault = false
is_of_files Refused = true
is_of_files Memory = false
is_of_files (BadImage fault) = true
is_of_files TooMuch = false
is_of_files TooLarge = true
