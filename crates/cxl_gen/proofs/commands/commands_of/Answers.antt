use Rattle.std.proofs.Common.{◌∙◌, arith}
use Rattle.std.proofs.lemmas.List.{take_all}
use Rattle.cxl_gen.specs.Made.{made_commands}
use Rattle.cxl_gen.proofs.Growing.{next_taken}
use Rattle.cxl_gen.proofs.commands.commands_of.Goals as goal

pub loop-k-preserved : goal.loop-k-preserved
loop-k-preserved c = next_taken (made_commands c.args.n) _ _ c.loop-k.k _ c.loop-k.invariant c.in_ok-make_command.ensures.ok c.in_ok-push.ensures.items

pub returns : goal.returns
returns c = c.loop-k.invariant ∙ take_all c.loop-k.k (made_commands c.args.n) (omega (arith, c.command_count-count.ensures))
