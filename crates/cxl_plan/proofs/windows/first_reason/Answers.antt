use Rattle.std.proofs.Common.{Some, None, sym, ◌∙◌}
use Rattle.cxl_plan.specs.inner.Judging.{over}
use Rattle.cxl_plan.proofs.Reasons.{from_5, from_6, found_select}
use Rattle.cxl_plan.proofs.windows.first_reason.Goals as goal

pub returns-in-Some : goal.returns-in-Some
returns-in-Some c = record {
  some = λ blocks windows.
      record {
        holds = found_select c.args.topo.now.nodes c.args.request.now c.args.w.now (Some c.in-Some.node) (sym c.in-Some.ensures);
        first = from_5 (over c.args.topo.now.nodes blocks windows) c.args.request.now c.args.w.now (sym c.is_usable.ensures ∙ c.if-not-is_usable.false) (sym c.permits.ensures ∙ c.if-not-permits.false) (sym c.is_fixed.ensures ∙ c.if-is_fixed.false)
            (sym c.has_used_bridges.ensures ∙ c.if-not-has_used_bridges.false) (sym c.agrees_on_gran.ensures ∙ c.if-not-agrees_on_gran.false);
      };
  none = tt;
}

pub returns-in-Some-first_without_ways : goal.returns-in-Some-first_without_ways
returns-in-Some-first_without_ways c = record {
  some = λ blocks windows.
      record {
        holds = sym c.in-Some-first_without_ways.ensures;
        first = from_6 (over c.args.topo.now.nodes blocks windows) c.args.request.now c.args.w.now (from_5 (over c.args.topo.now.nodes blocks windows) c.args.request.now c.args.w.now (sym c.is_usable.ensures ∙ c.if-not-is_usable.false) (sym c.permits.ensures ∙ c.if-not-permits.false)
            (sym c.is_fixed.ensures ∙ c.if-is_fixed.false) (sym c.has_used_bridges.ensures ∙ c.if-not-has_used_bridges.false) (sym c.agrees_on_gran.ensures ∙ c.if-not-agrees_on_gran.false))
            (found_select c.args.topo.now.nodes c.args.request.now c.args.w.now None (sym c.in_default.ensures));
      };
  none = tt;
}
