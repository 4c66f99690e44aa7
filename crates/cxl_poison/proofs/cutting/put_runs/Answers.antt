use Rattle.std.proofs.Common.{◌≡◌, ℕ, ◌+◌, ◌-◌, subst, arith}
use Rattle.cxl_poison.specs.inner.Cuts.{first_stretch, last_stretch, first_cuts, AddsRuns}
use Rattle.cxl_poison.proofs.RunLists.{no_runs, more_runs}
use Rattle.cxl_poison.proofs.cutting.put_runs.Goals as goal

pub loop-n-init : goal.loop-n-init
loop-n-init c = λ endpoint is. no_runs c.args.found.now c.args.window.now endpoint c.args.span.now c.args.touched.now c.args.parts.now.items (c.first_stretch-n.result - first_stretch c.args.touched.now) (omega (arith, c.first_stretch-n.ensures))

pub loop-n-preserved : goal.loop-n-preserved
loop-n-preserved c = λ endpoint is.
    more_runs c.args.found.now c.args.window.now endpoint c.args.span.now c.args.touched.now c.args.parts.now.items c.loop-n.parts.items c.push.new.self.items c.loop-n.n c.run_of.result (omega (arith, c.loop-n.auto.n, c.first_stretch-n.ensures))
    (c.loop-n.invariant endpoint is) (c.run_of.ensures endpoint is) c.in_ok-push.ensures.items

pub returns : goal.returns
returns c = λ endpoint is.
    let n = c.loop-n.auto.n-end (omega (arith, c.first_stretch-n.ensures, c.last_stretch-n-end.ensures.from)) in
    let all : c.loop-n.n ≡ last_stretch c.args.touched.now + 1 = omega (arith, n, c.loop-n-test.false, c.last_stretch-n-end.ensures.value) in
    subst (λ (k : ℕ). AddsRuns c.args.found.now c.args.window.now endpoint c.args.span.now (first_cuts c.args.touched.now (k - first_stretch c.args.touched.now)) c.args.parts.now.items c.loop-n.parts.items) all
    (c.loop-n.invariant endpoint is)
