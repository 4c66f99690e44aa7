use Rattle.std.proofs.Common.{arith}
use Rattle.std.proofs.lemmas.Result.{on_ok_weaker}
use Rattle.cxl_gen.proofs.Order.{store_there}
use Rattle.cxl_gen.proofs.commands.make_filling.Goals as goal

pub returns-else-i-eq0-clause-ok : goal.returns-else-i-eq0-clause-ok
returns-else-i-eq0-clause-ok c =
    on_ok_weaker c.make_store.result (store_there c.args.j c.args.i c.make_store.new.command (omega arith) c.requires.place) c.make_store.ensures.ok
