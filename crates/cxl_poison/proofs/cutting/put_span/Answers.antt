use Rattle.std.proofs.Common.{arith}
use Rattle.cxl_enc.proofs.Options.{on_ok}
use Rattle.cxl_poison.specs.inner.Cuts.{HasTouched}
use Rattle.cxl_poison.proofs.PartLists.{no_parts, few_parts, wide_part}
use Rattle.cxl_poison.proofs.cutting.put_span.Goals as goal

pub returns-then-touched : goal.returns-then-touched
returns-then-touched c = λ endpoint is. no_parts c.args.found.now c.args.window.now endpoint c.args.span.now c.args.touched.now c.args.parts.now.items c.if-touched.true

pub returns-then-last_stretch-first_stretch-lt-RUN_LIMIT :
    goal.returns-then-last_stretch-first_stretch-lt-RUN_LIMIT
returns-then-last_stretch-first_stretch-lt-RUN_LIMIT c =
    let has : HasTouched c.args.span.now c.args.touched.now = record { is = c.requires.touched; any = c.if-touched.false } in
    on_ok c.put_runs.result _ _ c.put_runs.ensures (λ adds endpoint is.
    few_parts c.args.found.now c.args.window.now endpoint c.args.span.now c.args.touched.now has c.args.parts.now.items c.put_runs.new.parts.items
    (omega (arith, c.last_stretch.ensures)) (omega (arith, c.last_stretch.ensures, c.first_stretch.ensures, c.if-last_stretch-first_stretch-lt-RUN_LIMIT.true)) (adds endpoint is))

pub returns-in_ok-push : goal.returns-in_ok-push
returns-in_ok-push c = λ endpoint is.
    let has : HasTouched c.args.span.now c.args.touched.now = record { is = c.requires.touched; any = c.if-touched.false } in
    wide_part c.args.found.now c.args.window.now endpoint c.args.span.now c.args.touched.now has c.args.parts.now.items c.push.new.self.items c.wide_of.result
    (omega (arith, c.last_stretch.ensures)) (omega (arith, c.last_stretch.ensures, c.first_stretch.ensures, c.if-last_stretch-first_stretch-lt-RUN_LIMIT.false)) (c.wide_of.ensures endpoint is) c.in_ok-push.ensures.items
