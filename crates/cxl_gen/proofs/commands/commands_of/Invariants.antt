use Rattle.std.proofs.Common.{◌≡◌, take}
use Rattle.cxl_gen.specs.Made.{made_commands}
use Rattle.cxl_gen.proofs.commands.commands_of.Given as goal

abbrev pub invariant-loop-k : goal.invariant-loop-k
invariant-loop-k l = l.commands.items ≡ take l.k (made_commands l.n)
