-- Which commands take memory (this project's rule).
use Rattle.std.specs.Prelude.{Bool, true, false}
use Rattle.cxl_script.specs.declared.command.Command.{Command}
use Rattle.cxl_script.specs.declared.command.Command.TheVariants as commands

-- all but `down`, `up`, `store`, and what goes on with a pending job, `step` and `abort`
abbrev pub takes_memory : Command → Bool
takes_memory (commands.Down h) = false
takes_memory (commands.Up up) = false
takes_memory (commands.Store store) = false
takes_memory (commands.Step steps) = false
takes_memory commands.Abort = false
takes_memory other = true
