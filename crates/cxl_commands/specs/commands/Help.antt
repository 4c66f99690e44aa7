-- What the program says of itself, and to words that are no command.
use Rattle.std.specs.Prelude.{codes}
use Rattle.cxl_inputs.specs.Outcome.{Outcome, one_piece}
use Rattle.cxl_inputs.specs.declared.status.Status.TheVariants.{Done, Usage}
use Rattle.cxl_reply.specs.Words.{line}
use Rattle.cxl_commands.specs.declared.commands.help.TheConstants.{HELP}

-- what `--help` comes to
abbrev pub helped : Outcome
helped = one_piece Done HELP.now

-- what `--version` comes to
abbrev pub version_told : Outcome
version_told = one_piece Done (line (codes "cxlplan 1.0.0"))

-- what words come to that are no command
abbrev pub misused : Outcome
misused = one_piece Usage (line (codes "usage"))
