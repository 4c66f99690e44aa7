use Rattle.std.proofs.Common.{◌-◌, length, take, drop, ap, ◌∙◌, arith, length-drop}
use Rattle.std.proofs.lemmas.List.{take_all}
use Rattle.cxl_io.specs.Told.{told_with}
use Rattle.cxl_io.proofs.Writes.{told_with-take_drop}
use Rattle.cxl_io.proofs.sink.write_all.Goals as goal

pub loop-at-preserved : goal.loop-at-preserved
loop-at-preserved g c =
    let bytes = c.args.bytes.now in
    let at = c.loop-at.at in
    let n = c.in_ok-at.field-0 in
    let rest = take_all (length bytes - at) (drop at bytes) (omega (arith, length-drop at bytes)) in
    record {
      within = let h = c.in_ok-at.ensures.within in omega arith;
      taken =
          (rw rest at c.in_ok-at.ensures.taken)
          ∙ ap (λ told. told_with told (take n (drop at bytes))) c.loop-at.invariant.taken ∙ told_with-take_drop _ bytes at n;
      counts = let h = c.in_ok-at.ensures.counts in omega arith;
      alone = c.in_ok-at.ensures.alone ∙ c.loop-at.invariant.alone;
      unswallowed = λ alone. c.in_ok-at.ensures.unswallowed (c.loop-at.invariant.alone ∙ alone) ∙ c.loop-at.invariant.unswallowed alone;
    }

pub returns-clause-ok : goal.returns-clause-ok
returns-clause-ok g c = (rw (take_all c.loop-at.at c.args.bytes.now (omega arith)) at c.loop-at.invariant.taken)
