use Rattle.std.proofs.Common.{◌≡◌, ◌≢◌, sym, ap, ◌∙◌, arith, rules}
use Rattle.std.proofs.lemmas.Bool.{false≢true}
use Rattle.cxl_apply.specs.contracts.write.Stepped.{the_type}
use Rattle.cxl_apply.specs.declared.write.Stepped.{Stepped}
use Rattle.cxl_apply.specs.declared.write.Stepped.TheVariants.{BusFault}
use Rattle.cxl_apply.proofs.LoopJobs.{back_none, back_on, back_failed}
use Rattle.cxl_apply.proofs.job.Job.take_back_to.Goals as goal
use denote.Enum.Bare.{sameb, same_true}

pub loop-self-init : goal.loop-self-init
loop-self-init g c = back_none c.args.downto c.args.self.now c.args.image.now (g.R.Regs.state c.args.regs.now) c.requires.made c.requires.words c.requires.same

pub loop-self-preserved : goal.loop-self-preserved
loop-self-preserved g c =
    let other : c.undo_step.result ≢ BusFault = (λ e. false≢true (c.if-eq.ensures ∙ ap (λ (r : Stepped). sameb the_type r BusFault) e)) in
    back_on c.undo_step.result c.args.downto _ _ _ _ _ _ _ _ _ c.loop-self.invariant (let test = c.loop-self-test.true in let done = c.done.ensures.value in omega arith) c.undo_step.ensures.event other c.undo_step.ensures.on_way
    c.undo_step.ensures.kept_words c.undo_step.ensures.kept_same c.undo_step.ensures.counts c.undo_step.ensures.alone c.undo_step.ensures.unswallowed c.undo_step.ensures.unfailed

pub undo_step-requires : goal.undo_step-requires
undo_step-requires g c = record {
  made = omega (arith, c.loop-self-test.true, c.done.ensures.value);
  words = c.loop-self.invariant.words;
  same = c.loop-self.invariant.same;
}

pub returns-then-eq-clause-failed : goal.returns-then-eq-clause-failed
returns-then-eq-clause-failed g c =
    let is : c.undo_step.result ≡ BusFault = same_true the_type (search rules) _ _ (sym c.if-eq.ensures) in
    back_failed c.undo_step.result c.args.downto _ _ _ _ _ _ _ _ _ c.loop-self.invariant c.undo_step.ensures.event is c.undo_step.ensures.failed

pub returns-then-eq-clause-kept_words : goal.returns-then-eq-clause-kept_words
returns-then-eq-clause-kept_words g c = c.undo_step.ensures.kept_words

pub returns-then-eq-clause-kept_same : goal.returns-then-eq-clause-kept_same
returns-then-eq-clause-kept_same g c = c.undo_step.ensures.kept_same

pub returns-then-eq-clause-counts : goal.returns-then-eq-clause-counts
returns-then-eq-clause-counts g c = omega (arith, c.loop-self.invariant.counts, c.undo_step.ensures.counts)

pub returns-then-eq-clause-alone : goal.returns-then-eq-clause-alone
returns-then-eq-clause-alone g c = c.undo_step.ensures.alone ∙ c.loop-self.invariant.alone

pub returns-clause-writes : goal.returns-clause-writes
returns-clause-writes g c = c.loop-self.invariant.writes

pub returns-clause-on_way : goal.returns-clause-on_way
returns-clause-on_way g c = c.loop-self.invariant.on_way

pub returns-clause-kept_words : goal.returns-clause-kept_words
returns-clause-kept_words g c = c.loop-self.invariant.words

pub returns-clause-kept_same : goal.returns-clause-kept_same
returns-clause-kept_same g c = c.loop-self.invariant.same

pub returns-clause-counts : goal.returns-clause-counts
returns-clause-counts g c = c.loop-self.invariant.counts

pub returns-clause-alone : goal.returns-clause-alone
returns-clause-alone g c = c.loop-self.invariant.alone

pub returns-clause-unswallowed : goal.returns-clause-unswallowed
returns-clause-unswallowed g c = c.loop-self.invariant.unswallowed

pub returns-clause-unfailed : goal.returns-clause-unfailed
returns-clause-unfailed g c = c.loop-self.invariant.unfailed

pub returns-clause-taken : goal.returns-clause-taken
returns-clause-taken g c = omega (arith, c.loop-self-test.false, c.done.ensures.value, c.loop-self.invariant.within)
