use Rattle.std.proofs.Common.{None, arith}
use Rattle.cxl_topo.proofs.Trees.{KnownTree}
use Rattle.cxl_plan.specs.inner.Judging.{over}
use Rattle.cxl_plan.proofs.Reasons.{fits_window, least_base_is, from_5, from_6, from_7, found_select}
use Rattle.cxl_plan.proofs.windows.base_in.Goals as goal

pub returns-in-Some : goal.returns-in-Some
returns-in-Some c = record {
  reason = λ blocks windows floor. c.in-Some.ensures.some blocks windows;
  takes = λ blocks windows floor there. tt;
}

pub returns-then-start-request : goal.returns-then-start-request
returns-then-start-request c = record {
  reason = λ blocks windows floor.
      let nodes = c.args.topo.now.nodes in
      let s = over nodes blocks windows in
      let request = c.args.request.now in
      let w = c.args.w.now in
      let kept = c.in_default.ensures.none in
      let start = c.least_base-start in
      let base = c.base.ensures in
      let size = c.size.ensures in
      record {
        holds = record {
          start = least_base_is nodes blocks windows request w c.args.floor start.result floor start.ensures.from start.ensures.above start.ensures.step start.ensures.least;
          limit = omega (arith, base, size);
          short = omega (arith, c.if-start-request.true);
        };
        first = from_7 s request w (from_6 s request w (from_5 s request w kept.usable kept.kind kept.open_to_plans kept.bridges kept.gran) (found_select nodes request w None kept.selects)) kept.ways;
      };
  takes = λ blocks windows floor there. tt;
}

pub returns : goal.returns
returns c = record {
  takes = λ blocks windows floor there.
      let nodes = c.args.topo.now.nodes in
      let request = c.args.request.now in
      let w = c.args.w.now in
      let tree : KnownTree nodes = record { tree = c.count-count.ensures.tree; laws = c.tree_laws.ensures.laws nodes c.count-count.ensures.tree } in
      let kept = c.in_default.ensures.none in
      let start = c.least_base-start in
      let base = c.base.ensures in
      let size = c.size.ensures in
      record {
        window = fits_window nodes tree request c.requires.named w kept blocks windows there;
        least = least_base_is nodes blocks windows request w c.args.floor start.result floor start.ensures.from start.ensures.above start.ensures.step start.ensures.least;
        inside = omega (arith, base, size, c.if-start-request.false);
      };
  reason = λ blocks windows floor. tt;
}
