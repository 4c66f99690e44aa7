use Rattle.std.proofs.Common.{sym, ap, ◌∙◌}
use Rattle.cxl_regs.specs.Writes.{AfterWrite}
use Rattle.cxl_regs.proofs.Landing.{stays, goes}
use Rattle.cxl_regs.proofs.block.Block.release.Goals as goal

pub returns-then-stays-clause-left : goal.returns-then-stays-clause-left
returns-then-stays-clause-left c =
    sym (ap (λ (o : AfterWrite). o.block) (stays c.args.self.now c.args.index c.args.d c.args.value (sym c.stays.ensures ∙ c.if-stays.true)))

pub returns-then-stays-clause-told : goal.returns-then-stays-clause-told
returns-then-stays-clause-told c =
    sym (ap (λ (o : AfterWrite). o.effect) (stays c.args.self.now c.args.index c.args.d c.args.value (sym c.stays.ensures ∙ c.if-stays.true)))

pub returns-clause-left : goal.returns-clause-left
returns-clause-left c =
    c.put.ensures
    ∙ sym (ap (λ (o : AfterWrite). o.block) (goes c.args.self.now c.args.index c.args.d c.args.value (sym c.stays.ensures ∙ c.if-stays.false)))

pub returns-clause-told : goal.returns-clause-told
returns-clause-told c =
    sym (ap (λ (o : AfterWrite). o.effect) (goes c.args.self.now c.args.index c.args.d c.args.value (sym c.stays.ensures ∙ c.if-stays.false)))
