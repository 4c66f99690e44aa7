use Rattle.std.proofs.Common.{◌≡◌, ◌+◌, ◌-◌, ◌<◌, false, List, length, sym, ap, subst, ◌∙◌, arith, refl}
use Rattle.std.specs.Result.{is_err}
use Rattle.cxl_regs.specs.Registers.{Registers}
use Rattle.cxl_regs.specs.Blocks.{blocks_after, IsPlace}
use Rattle.cxl_bus.specs.Trail.{trail_after}
use Rattle.cxl_apply.specs.declared.write.Write.{Write}
use Rattle.cxl_apply.specs.Jobs.{AreTakenBack, blocks_done}
use Rattle.cxl_apply.specs.Steps.{JobState, HasWordsOf, IsSent, TakesBack}
use Rattle.cxl_apply.proofs.OneStep.{at_ok, told_last, told_more, write_failed, write_sent, keeps_words, has_word, takes, taken_on_way}
use Rattle.cxl_apply.proofs.job.Job.undo_step.Goals as goal
use Rattle.cxl_apply.proofs.job.Job.undo_step.Goals.{then-self-eq0, else-self-eq0}

pub returns-clause-kept_words : goal.returns-clause-kept_words
returns-clause-kept_words g c =
    let write : Write = c.index-write.result.now in
    keeps_words c.writes_keep_places.ensures c.args.image.now c.write32-2.new.self c.self.inside.writes.items write.node write.off write.back c.write32-2.ensures.left
    (subst (λ (j : JobState). HasWordsOf c.args.image.now j.writes) (sym c.self.view_is) c.requires.words)

pub returns-clause-on_way : goal.returns-clause-on_way
returns-clause-on_way g c = λ start taken before.
    let some : 0 < c.self.inside.done = subst (λ (j : JobState). 0 < j.done) (sym c.self.view_is) c.requires.made in
    let next : c.self.inside.done ≡ c.self.inside.done - 1 + 1 = omega (arith, some) in
    let within : c.self.inside.done - 1 < length c.self.inside.writes.items = omega (arith, some, c.self.invariant.within) in
    taken_on_way c.self.inside.writes.items (c.self.inside.done - 1) c.index-write.result.now c.index-write.ensures within start c.args.image.now c.write32-2.new.self c.self.inside.done
    (subst (λ (j : JobState). AreTakenBack start j.writes) (sym c.self.view_is) taken) next c.write32-2.ensures.left
    (subst (λ (j : JobState). c.args.image.now ≡ blocks_done start j.writes j.done) (sym c.self.view_is) before)

pub returns-clause-event : goal.returns-clause-event
returns-clause-event g c =
    let write : Write = c.index-write.result.now in
    let old = g.R.Regs.state c.args.regs.now in
    let new = g.R.Regs.state c.write32.new.self in
    let fine : is_err c.write32.result ≡ false = sym c.is_err.ensures.value ∙ c.if-is_err.false in
    let regs : new.blocks ≡ blocks_after old.blocks write.node write.off write.back = at_ok c.write32.result _ c.write32.ensures.written fine in
    let trail : new.trail ≡ trail_after old.trail write.node write.off write.back = at_ok c.write32.result _ c.write32.ensures.sent fine in
    let sent : IsSent write.node write.off write.back c.args.image.now c.write32-2.new.self old new = record { image = c.write32-2.ensures.left; regs = regs; trail = trail } in
    let some : 0 < c.self.inside.done = subst (λ (j : JobState). 0 < j.done) (sym c.self.view_is) c.requires.made in
    let next : c.self.inside.done ≡ c.self.inside.done - 1 + 1 = omega (arith, some) in
    let within : c.self.inside.done - 1 < length c.self.inside.writes.items = omega (arith, some, c.self.invariant.within) in
    let event : TakesBack c.args.self.now (record { writes = c.self.inside.writes.items; done = c.self.inside.done - 1 }) c.args.image.now c.write32-2.new.self old new =
    subst (λ (j : JobState). TakesBack j (record { writes = c.self.inside.writes.items; done = c.self.inside.done - 1 }) c.args.image.now c.write32-2.new.self old new) c.self.view_is
    (takes c.self.inside.writes.items (c.self.inside.done - 1) write c.index-write.ensures within c.self.inside.done c.args.image.now c.write32-2.new.self old new next sent) in
    elim c.if-self-eq0.branch [ then-self-eq0 w ↦ rw w.result-is event | else-self-eq0 w ↦ rw w.result-is event ]

pub returns-clause-kept_same : goal.returns-clause-kept_same
returns-clause-kept_same g c =
    let write : Write = c.index-write.result.now in
    let fine : is_err c.write32.result ≡ false = sym c.is_err.ensures.value ∙ c.if-is_err.false in
    at_ok c.write32.result _ c.write32.ensures.written fine ∙ ap (λ (blocks : List Registers). blocks_after blocks write.node write.off write.back) c.requires.same ∙ sym c.write32-2.ensures.left

pub returns-clause-unswallowed : goal.returns-clause-unswallowed
returns-clause-unswallowed g c = λ other.
    let fine : is_err c.write32.result ≡ false = sym c.is_err.ensures.value ∙ c.if-is_err.false in
    at_ok c.write32.result _ c.write32.ensures.unswallowed fine

pub returns-then-is_err-clause-failed : goal.returns-then-is_err-clause-failed
returns-then-is_err-clause-failed g c = λ is.
    let wrote = c.write32.ensures in
    write_failed c.write32.result (g.R.Regs.state c.args.regs.now) (g.R.Regs.state c.write32.new.self) wrote.failed wrote.cause wrote.alone wrote.counted (sym c.is_err.ensures.value ∙ c.if-is_err.true)

pub returns-clause-unfailed : goal.returns-clause-unfailed
returns-clause-unfailed g c = λ other.
    let wrote = c.write32.ensures in
    write_sent c.write32.result (g.R.Regs.state c.args.regs.now) (g.R.Regs.state c.write32.new.self) wrote.unfailed wrote.counts wrote.alone wrote.unswallowed (sym c.is_err.ensures.value ∙ c.if-is_err.false)

pub returns-clause-last : goal.returns-clause-last
returns-clause-last g c =
    elim c.if-self-eq0.branch [
      | then-self-eq0 w ↦ told_last _ _ w.result-is (omega (arith, w.if-self-eq0.true))
      | else-self-eq0 w ↦ told_more _ _ w.result-is (λ last. omega (arith, last, w.if-self-eq0.false))
    ]

pub returns-then-is_err-clause-counts : goal.returns-then-is_err-clause-counts
returns-then-is_err-clause-counts g c = c.write32.ensures.counts

pub returns-then-is_err-clause-alone : goal.returns-then-is_err-clause-alone
returns-then-is_err-clause-alone g c = c.write32.ensures.alone

pub returns-then-is_err-clause-unswallowed : goal.returns-then-is_err-clause-unswallowed
returns-then-is_err-clause-unswallowed g c = λ other. absurd (other refl)

pub returns-then-is_err-clause-unfailed : goal.returns-then-is_err-clause-unfailed
returns-then-is_err-clause-unfailed g c = λ other. absurd (other refl)

pub returns-then-is_err-clause-on_way : goal.returns-then-is_err-clause-on_way
returns-then-is_err-clause-on_way g c = λ start back before. before

pub returns-then-is_err-clause-kept_words : goal.returns-then-is_err-clause-kept_words
returns-then-is_err-clause-kept_words g c = c.requires.words

pub returns-clause-counts : goal.returns-clause-counts
returns-clause-counts g c = c.write32.ensures.counts

pub returns-clause-alone : goal.returns-clause-alone
returns-clause-alone g c = c.write32.ensures.alone

pub write32-requires : goal.write32-requires
write32-requires g c =
    let write : Write = c.index-write.result.now in
    let words = subst (λ (j : JobState). HasWordsOf c.args.image.now j.writes) (sym c.self.view_is) c.requires.words in
    let some : 0 < c.self.inside.done = subst (λ (j : JobState). 0 < j.done) (sym c.self.view_is) c.requires.made in
    let within : c.self.inside.done - 1 < length c.self.inside.writes.items = omega (arith, some, c.self.invariant.within) in
    subst (λ (blocks : List Registers). IsPlace blocks write.node write.off) (sym c.requires.same)
    (has_word c.args.image.now c.self.inside.writes.items (c.self.inside.done - 1) write c.index-write.ensures within words)
