use Rattle.std.proofs.Common.{Ok, sym, ap, subst, ◌∙◌}
use Rattle.cxl_turns.specs.Counts.{counted}
use Rattle.cxl_turns.specs.inner.Counted.{LoadsFew}
use Rattle.cxl_turns.proofs.Going.{gone_one}
use Rattle.cxl_turns.proofs.Loads.{loads_few}
use Rattle.cxl_turns.proofs.commands.carry_out_counted.Goals as goal

pub count-requires-clause-loads : goal.count-requires-clause-loads
count-requires-clause-loads g c =
    let one = c.in_ok-act_into.ensures.answer c.requires.stands.0 c.requires.stands.1 in
    subst LoadsFew (sym one.2.told) (loads_few c.requires.stands.0 c.args.command.now one.0 c.requires.ranged one.1)

pub returns-clause-taken : goal.returns-clause-taken
returns-clause-taken g c = λ m at.
    let one = c.in_ok-act_into.ensures.answer m at in
    (one.0, gone_one m _ _ _ _ (Ok c.args.command.now) one.0 c.act_into.new.reply one.1 one.2, c.count.ensures.counted ∙ ap (counted c.args.counts.now) one.2.told, one.2.told)
