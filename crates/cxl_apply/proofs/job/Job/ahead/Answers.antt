use Rattle.std.proofs.Common.{◌+◌, ◌-◌, List, length, take, drop, get_or, sym, ap, ◌∙◌, arith}
use Rattle.std.proofs.lemmas.List.Sums.{fold_more}
use Rattle.std.proofs.lemmas.Result.{err_from_is_err_and}
use Rattle.cxl_regs.specs.Registers.{Registers}
use Rattle.cxl_apply.specs.declared.write.Write.{Write}
use Rattle.cxl_apply.specs.Jobs.{blocks_after_write}
use Rattle.cxl_apply.proofs.Bounds.{all_ahead, ahead_whole, length_after}
use Rattle.cxl_apply.proofs.job.Job.ahead.Goals as goal

pub returns-clause-left : goal.returns-clause-left
returns-clause-left c =
    let ws : List Write = c.self.inside.writes.items in
    let items : List Write = take (length c.deref.result.now - c.self.inside.done) (drop c.self.inside.done c.deref.result.now) in
    let left = all_ahead c.args.image.now c.loop-write.after ws items c.self.inside.done c.loop-write.write-index c.loop-write.invariant.after (omega arith)
    (ap (λ (l : List Write). take (length l - c.self.inside.done) (drop c.self.inside.done l)) c.deref.ensures.value) in
    rw (← c.self.view_is) left

pub returns-clause-whole : goal.returns-clause-whole
returns-clause-whole c =
    let ws : List Write = c.self.inside.writes.items in
    let items : List Write = take (length c.deref.result.now - c.self.inside.done) (drop c.self.inside.done c.deref.result.now) in
    let left = all_ahead c.args.image.now c.loop-write.after ws items c.self.inside.done c.loop-write.write-index c.loop-write.invariant.after (omega arith)
    (ap (λ (l : List Write). take (length l - c.self.inside.done) (drop c.self.inside.done l)) c.deref.ensures.value) in
    rw (← c.self.view_is) (λ start is. ahead_whole start c.args.image.now c.loop-write.after ws c.self.inside.done left is)

pub returns-in_err-after-clause-left : goal.returns-in_err-after-clause-left
returns-in_err-after-clause-left c =
    let p = err_from_is_err_and c.from_residual.result c.from_residual.ensures.1 in rw p.1 tt

pub returns-in_err-after-clause-whole : goal.returns-in_err-after-clause-whole
returns-in_err-after-clause-whole c =
    let p = err_from_is_err_and c.from_residual.result c.from_residual.ensures.1 in rw p.1 tt

pub loop-write-preserved : goal.loop-write-preserved
loop-write-preserved c =
    let items : List Write = take (length c.deref.result.now - c.self.inside.done) (drop c.self.inside.done c.deref.result.now) in
    let i = c.loop-write.write-index in
    let none : Write = record { node = 0; off = 0; value = 0; back = 0 } in
    let after = c.write32.ensures.left ∙ ap (λ (b : List Registers). blocks_after_write b (get_or items i none)) c.loop-write.invariant.after
    ∙ sym (fold_more blocks_after_write c.args.image.now items i none c.loop-write-test.true) in
    record { after = after; long = ap length after ∙ length_after c.args.image.now (take (i + 1) items) }
