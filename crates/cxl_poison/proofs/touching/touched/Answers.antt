use Rattle.std.proofs.Common.{◌≡◌, ℕ, ◌*◌, ◌/◌, ◌<◌, sym, subst, arith}
use Rattle.cxl_window.specs.Fields.{WindowFields}
use Rattle.cxl_model.specs.declared.found.Found.{Found}
use Rattle.cxl_poison.proofs.Filled.{Filled, stretches_fill}
use Rattle.cxl_poison.proofs.touching.touched.Goals as goal

pub stretch_size-requires : goal.stretch_size-requires
stretch_size-requires c =
    let of = c.requires in
    let kept = c.weaves_fill_their_regions.ensures.kept of.s c.args.window.now c.args.found.now of.system of.region in
    omega (arith, kept.gran_known)

pub returns-clause-is : goal.returns-clause-is
returns-clause-is c =
    let found : Found = c.args.found.now in
    let w : WindowFields = c.args.window.now in
    let of = c.requires in
    let filled : Filled found w = record {
      ways = c.weaves_fill_their_regions.ensures.ways of.s w found of.system of.region;
      shares = c.weaves_fill_their_regions.ensures.shares of.s w found of.system of.region;
      turns = c.weaves_fill_their_regions.ensures.turns of.s w found of.system of.region;
      some = c.regions_lie_in_windows.ensures.some of.s w found of.system of.region;
      low = c.regions_lie_in_windows.ensures.low of.s w found of.system of.region;
    } in
    let fill = stretches_fill found w filled c.args.span.now of.is.len in
    record {
      some = subst (λ (n : ℕ). 0 < n) (sym c.stretch_size.ensures) fill.0;
      whole = subst (λ (n : ℕ). c.args.span.now.len / n * n ≡ c.args.span.now.len) (sym c.stretch_size.ensures) fill.1;
      ends = omega (arith, c.touched_end.ensures);
    }

pub returns-clause-from : goal.returns-clause-from
returns-clause-from c = c.saturating_sub.ensures

pub returns-clause-end : goal.returns-clause-end
returns-clause-end c = c.touched_end.ensures

pub returns-clause-size : goal.returns-clause-size
returns-clause-size c = c.stretch_size.ensures
