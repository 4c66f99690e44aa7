use Rattle.std.proofs.Common.{◌≡◌, List, map, sym, ap, ◌∙◌, subst, arith}
use Rattle.cxl_model.specs.declared.plan.Row.{Row}
use Rattle.cxl_apply.specs.Jobs.{release_write, CanRelease}
use Rattle.cxl_apply.specs.Steps.{HasWordsOf}
use Rattle.cxl_apply.proofs.JobWrites.{all_rising}
use Rattle.cxl_apply.proofs.Bounds.{few_rising, released_words}
use Rattle.cxl_apply.proofs.job.Job.release.Goals as goal

pub prove-unreachable-requires : goal.prove-unreachable-requires
prove-unreachable-requires c = omega (arith, few_rising c.args.image.now c.args.rows.now c.in_ok-rows.rows.items c.in_ok-rows.ensures c.requires.each)

pub release_writes-requires : goal.release_writes-requires
release_writes-requires c =
    rw c.deref.ensures.value (all_rising (CanRelease c.args.image.now) c.args.rows.now c.in_ok-rows.rows.items c.in_ok-rows.ensures c.requires.each)

pub returns-clause-writes : goal.returns-clause-writes
returns-clause-writes c = record { rising = c.in_ok-rows.rows.items; order = c.in_ok-rows.ensures; each = c.in_ok-writes.ensures ∙ ap (map release_write) c.deref.ensures.value }

pub returns-clause-words : goal.returns-clause-words
returns-clause-words c =
    let rows : List Row = c.in_ok-rows.rows.items in
    let all : c.in_ok-writes.writes.items ≡ map release_write rows = c.in_ok-writes.ensures ∙ ap (map release_write) c.deref.ensures.value in
    subst (HasWordsOf c.args.image.now) (sym all) (released_words c.args.image.now rows (all_rising (CanRelease c.args.image.now) c.args.rows.now rows c.in_ok-rows.ensures c.requires.each))

pub returns-clause-undone : goal.returns-clause-undone
returns-clause-undone c =
    let rows : List Row = c.in_ok-rows.rows.items in
    let all : c.in_ok-writes.writes.items ≡ map release_write rows = c.in_ok-writes.ensures ∙ ap (map release_write) c.deref.ensures.value in
    c.writes_are_taken_back.ensures.release c.args.image.now c.args.rows.now c.in_ok-writes.writes.items c.count.ensures.image.each c.requires.each (record { rising = rows; order = c.in_ok-rows.ensures; each = all })
