use Rattle.std.proofs.Common.{sym, subst}
use Rattle.cxl_range.specs.inner.Woven.{IsWoven}
use Rattle.cxl_range.proofs.RegionLaws.{RegionLaws, woven_by}
use Rattle.cxl_range.proofs.woven.region_weave.Goals as goal

pub returns-clause-woven : goal.returns-clause-woven
returns-clause-woven c =
    let laws : RegionLaws = record {
      kept = c.weaves_fill_their_regions.ensures.kept;
      ways = c.weaves_fill_their_regions.ensures.ways;
      turns = c.weaves_fill_their_regions.ensures.turns;
      low = c.regions_lie_in_windows.ensures.low;
      spans = c.slots_are_endpoints.ensures.low;
    } in
    subst (IsWoven c.args.found.now) (sym c.weave_of.ensures) (woven_by laws c.requires.0 c.args.window.now c.args.found.now c.requires.1 c.requires.2)
