use Rattle.std.proofs.Common.{sym, ap, rules}
use Rattle.cxl_regs.specs.Writes.{AfterWrite}
use Rattle.cxl_regs.proofs.Landing.{is_reserved}
use Rattle.cxl_regs.proofs.block.Block.write_decoder.Goals as goal

pub returns-in-7-clause-left : goal.returns-in-7-clause-left
returns-in-7-clause-left c = λ d found. sym (ap (λ (o : AfterWrite). o.block) (is_reserved c.args.self.now c.args.index d c.args.place c.args.value c.in-7.is))

pub returns-in-7-clause-told : goal.returns-in-7-clause-told
returns-in-7-clause-told c = λ d found. sym (ap (λ (o : AfterWrite). o.effect) (is_reserved c.args.self.now c.args.index d c.args.place c.args.value c.in-7.is))

pub returns-in-4-clause-left : goal.returns-in-4-clause-left
returns-in-4-clause-left c = λ d found. rw c.in-4.is (c.write_control.ensures.left d found)

pub returns-in-4-clause-told : goal.returns-in-4-clause-told
returns-in-4-clause-told c = λ d found. rw c.in-4.is (c.write_control.ensures.told d found)

pub returns-in_default-2-clause-left : goal.returns-in_default-2-clause-left
returns-in_default-2-clause-left c = search rules

pub returns-in_default-2-clause-told : goal.returns-in_default-2-clause-told
returns-in_default-2-clause-told c = search rules
