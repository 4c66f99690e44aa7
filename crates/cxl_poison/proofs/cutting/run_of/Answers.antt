use Rattle.std.proofs.Common.{ℕ, ◌+◌, refl, subst, arith}
use Rattle.cxl_model.specs.Regions.{Carries}
use Rattle.cxl_poison.proofs.Stretches.{touched_at}
use Rattle.cxl_poison.proofs.cutting.run_of.Goals as goal

pub overflow_mul-start : goal.overflow_mul-start
overflow_mul-start c =
    let at = touched_at c.args.span.now c.args.touched.now c.requires.touched c.args.n c.requires.from c.requires.to in
    omega (arith, at.low)

pub overflow_add-start : goal.overflow_add-start
overflow_add-start c =
    let at = touched_at c.args.span.now c.args.touched.now c.requires.touched c.args.n c.requires.from c.requires.to in
    omega (arith, at.one, at.fits)

pub host_at-requires-clause-within : goal.host_at-requires-clause-within
host_at-requires-clause-within c =
    let at = touched_at c.args.span.now c.args.touched.now c.requires.touched c.args.n c.requires.from c.requires.to in
    omega (arith, at.low, c.max-from.ensures, c.requires.touched.any, c.requires.touched.is.ends)

pub overflow_sub-result : goal.overflow_sub-result
overflow_sub-result c =
    let at = touched_at c.args.span.now c.args.touched.now c.requires.touched c.args.n c.requires.from c.requires.to in
    omega (arith, at.low, at.high, at.one, c.max-from.ensures, c.min-end.ensures, c.requires.touched.any)

pub returns : goal.returns
returns c = λ endpoint is.
    let touched = c.args.touched.now in
    let at = touched_at c.args.span.now touched c.requires.touched c.args.n c.requires.from c.requires.to in
    let low = at.low in
    let one = at.one in
    let from = c.max-from.ensures in
    record {
      first = subst (λ (x : ℕ). Carries c.args.found.now c.args.window.now c.host_at.result endpoint (c.args.span.now.start + x)) from (c.host_at.ensures endpoint is);
      len = omega (arith, low, one, from, c.min-end.ensures);
      region = refl;
    }
