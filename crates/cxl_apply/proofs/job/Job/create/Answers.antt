use Rattle.std.proofs.Common.{◌≡◌, ◌*◌, ◌≤◌, List, length, sym, ap, ◌∙◌, subst, arith}
use Rattle.cxl_model.specs.declared.plan.Row.{Row}
use Rattle.cxl_apply.specs.declared.write.Write.{Write}
use Rattle.cxl_apply.specs.Jobs.{CanCreate}
use Rattle.cxl_apply.specs.Steps.{HasWordsOf}
use Rattle.cxl_apply.proofs.JobWrites.{all_falling}
use Rattle.cxl_apply.proofs.Bounds.{few_falling, length_created, created_words}
use Rattle.cxl_apply.proofs.job.Job.create.Goals as goal

pub invariant_of-result : goal.invariant_of-result
invariant_of-result c =
    let made = c.in_ok-writes.ensures in
    let rows : List Row = made.falling in
    let long : length c.in_ok-writes.writes.items ≡ 8 * length rows = ap (λ (ws : List Write). length ws) made.each ∙ length_created c.args.image.now rows in
    let few : length rows ≤ length c.args.image.now = few_falling c.args.image.now c.args.rows.now rows made.order c.requires.each in
    let blocks : length c.args.image.now ≤ 1024 = c.count-count.ensures.image.few in
    record { within = omega arith; few = omega arith }

pub returns-clause-words : goal.returns-clause-words
returns-clause-words c =
    let made = c.in_ok-writes.ensures in
    subst (HasWordsOf c.args.image.now) (sym made.each)
    (created_words c.args.image.now c.args.image.now made.falling (all_falling (CanCreate c.args.image.now) c.args.rows.now made.falling made.order c.requires.each))

pub returns-clause-undone : goal.returns-clause-undone
returns-clause-undone c =
    c.writes_are_taken_back.ensures.create c.args.image.now c.args.rows.now c.in_ok-writes.writes.items c.count-count.ensures.image.each c.requires.each c.in_ok-writes.ensures

pub returns-clause-writes : goal.returns-clause-writes
returns-clause-writes c = c.in_ok-writes.ensures
