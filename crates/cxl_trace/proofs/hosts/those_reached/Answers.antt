use Rattle.std.proofs.Common.{◌≡◌, ℕ, List, ap, sym, subst, refl, ◌+◌, ◌*◌, ◌∙◌}
use Rattle.std.specs.Prelude.{Vec}
use Rattle.std.specs.Global.{Global}
use Rattle.std.proofs.lemmas.Bool.{false≢true}
use Rattle.cxl_model.specs.Hosts.{as_system}
use Rattle.cxl_trace.specs.inner.Candidates.{AreReached}
use Rattle.cxl_trace.proofs.Candidates.{none_yet, passed, taken}
use Rattle.cxl_trace.proofs.hosts.those_reached.Goals as goal
use Rattle.cxl_trace.proofs.hosts.those_reached.Goals.{then-reaches+in_ok-push, else-reaches}

pub loop-k-init : goal.loop-k-init
loop-k-init c = rw c.new-hosts.ensures.items (none_yet (as_system c.args.host.now) c.args.ep c.args.dpa c.args.first c.args.apart c.requires.apart)

pub loop-k-preserved : goal.loop-k-preserved
loop-k-preserved c =
    let s = as_system c.args.host.now in
    let h : ℕ = c.args.first + c.from.result * c.from-in-loop-k.result in
    let is : h ≡ c.args.first + c.loop-k.k * c.args.apart = rw (c.from.ensures, c.from-in-loop-k.ensures) refl in
    elim c.if-reaches.branch [
      | then-reaches+in_ok-push w ↦
          subst (λ (hosts : List ℕ). AreReached s c.args.ep c.args.dpa c.args.first c.args.apart (c.loop-k.k + 1) hosts)
          (sym (ap (λ (v : Vec ℕ Global). v.items) w.hosts-is ∙ w.in_ok-push.ensures.items))
          (taken s c.args.ep c.args.dpa c.args.first c.args.apart c.requires.apart c.loop-k.k c.loop-k.hosts.items c.loop-k.invariant h is (c.reaches.ensures.0 w.if-reaches.true))
      | else-reaches w ↦
          subst (λ (hosts : List ℕ). AreReached s c.args.ep c.args.dpa c.args.first c.args.apart (c.loop-k.k + 1) hosts)
          (sym (ap (λ (v : Vec ℕ Global). v.items) w.hosts-is))
          (passed s c.args.ep c.args.dpa c.args.first c.args.apart c.requires.apart c.loop-k.k c.loop-k.hosts.items c.loop-k.invariant h is
          (λ here. false≢true (sym w.if-reaches.false ∙ c.reaches.ensures.1 here)))
    ]
