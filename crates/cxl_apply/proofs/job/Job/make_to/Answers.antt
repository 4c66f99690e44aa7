use Rattle.std.proofs.Common.{◌≡◌, ◌≢◌, List, length, sym, ap, ◌∙◌, arith, rules}
use Rattle.std.proofs.lemmas.Bool.{false≢true}
use Rattle.cxl_apply.specs.contracts.write.Stepped.{the_type}
use Rattle.cxl_apply.specs.declared.write.Stepped.{Stepped}
use Rattle.cxl_apply.specs.declared.write.Stepped.TheVariants.{BusFault}
use Rattle.cxl_apply.specs.declared.write.Write.{Write}
use Rattle.cxl_apply.proofs.LoopJobs.{forward_none, forward_on, forward_failed}
use Rattle.cxl_apply.proofs.job.Job.make_to.Goals as goal
use denote.Enum.Bare.{sameb, same_true}

pub loop-self-init : goal.loop-self-init
loop-self-init g c = forward_none c.args.upto c.args.self.now c.args.image.now (g.R.Regs.state c.args.regs.now) c.requires.ahead c.requires.words c.requires.same

pub loop-self-preserved : goal.loop-self-preserved
loop-self-preserved g c =
    let other : c.step.result ≢ BusFault = (λ e. false≢true (c.if-eq.ensures ∙ ap (λ (r : Stepped). sameb the_type r BusFault) e)) in
    forward_on c.step.result c.args.upto _ _ _ _ _ _ _ _ _ c.loop-self.invariant (let test = c.loop-self-test.true in let done = c.done.ensures.value in omega arith) c.step.ensures.event other c.step.ensures.on_way
    c.step.ensures.kept_words c.step.ensures.kept_same c.step.ensures.counts c.step.ensures.alone c.step.ensures.unswallowed c.step.ensures.unfailed

pub step-requires : goal.step-requires
step-requires g c = record {
  left = omega (arith, c.loop-self-test.true, c.done.ensures.value, c.requires.within, ap (λ (ws : List Write). length ws) c.loop-self.invariant.writes);
  words = c.loop-self.invariant.words;
  same = c.loop-self.invariant.same;
}

pub returns-then-eq-clause-failed : goal.returns-then-eq-clause-failed
returns-then-eq-clause-failed g c =
    let is : c.step.result ≡ BusFault = same_true the_type (search rules) _ _ (sym c.if-eq.ensures) in
    forward_failed c.step.result c.args.upto _ _ _ _ _ _ _ _ _ c.loop-self.invariant c.step.ensures.event is c.step.ensures.failed

pub returns-then-eq-clause-kept_words : goal.returns-then-eq-clause-kept_words
returns-then-eq-clause-kept_words g c = c.step.ensures.kept_words

pub returns-then-eq-clause-kept_same : goal.returns-then-eq-clause-kept_same
returns-then-eq-clause-kept_same g c = c.step.ensures.kept_same

pub returns-then-eq-clause-counts : goal.returns-then-eq-clause-counts
returns-then-eq-clause-counts g c = omega (arith, c.loop-self.invariant.counts, c.step.ensures.counts)

pub returns-then-eq-clause-alone : goal.returns-then-eq-clause-alone
returns-then-eq-clause-alone g c = c.step.ensures.alone ∙ c.loop-self.invariant.alone

pub returns-then-eq-clause-on_way : goal.returns-then-eq-clause-on_way
returns-then-eq-clause-on_way g c = λ start is. c.step.ensures.on_way start (c.loop-self.invariant.on_way start is)

pub returns-clause-writes : goal.returns-clause-writes
returns-clause-writes g c = c.loop-self.invariant.writes

pub returns-clause-on_way : goal.returns-clause-on_way
returns-clause-on_way g c = c.loop-self.invariant.on_way

pub returns-clause-kept_words : goal.returns-clause-kept_words
returns-clause-kept_words g c = c.loop-self.invariant.words

pub returns-clause-kept_same : goal.returns-clause-kept_same
returns-clause-kept_same g c = c.loop-self.invariant.same

pub returns-clause-counts : goal.returns-clause-counts
returns-clause-counts g c = c.loop-self.invariant.counts

pub returns-clause-alone : goal.returns-clause-alone
returns-clause-alone g c = c.loop-self.invariant.alone

pub returns-clause-unswallowed : goal.returns-clause-unswallowed
returns-clause-unswallowed g c = c.loop-self.invariant.unswallowed

pub returns-clause-unfailed : goal.returns-clause-unfailed
returns-clause-unfailed g c = c.loop-self.invariant.unfailed

pub returns-clause-made : goal.returns-clause-made
returns-clause-made g c = omega (arith, c.loop-self-test.false, c.done.ensures.value, c.loop-self.invariant.within)
