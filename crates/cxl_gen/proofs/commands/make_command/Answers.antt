use Rattle.std.proofs.Common.{arith}
use Rattle.std.proofs.lemmas.Result.{on_ok_weaker}
use Rattle.cxl_gen.proofs.Order.{commands_length, in_region, in_loads}
use Rattle.cxl_gen.proofs.commands.make_command.Goals as goal

pub returns-then-k-filling-clause-ok : goal.returns-then-k-filling-clause-ok
returns-then-k-filling-clause-ok c =
    on_ok_weaker c.make_filling.result (in_region c.args.n c.args.k c.make_filling.new.command c.if-k-filling.true) c.make_filling.ensures.ok

pub make_load-requires-clause-region : goal.make_load-requires-clause-region
make_load-requires-clause-region c =
    let there = c.requires.there in let few = c.requires.few in
    omega (arith, few, there, commands_length c.args.n)

pub returns-clause-ok : goal.returns-clause-ok
returns-clause-ok c =
    let there = c.requires.there in
    in_loads c.args.n c.args.k c.make_load.new.command (omega arith) (omega (arith, there, commands_length c.args.n)) c.make_load.ensures
