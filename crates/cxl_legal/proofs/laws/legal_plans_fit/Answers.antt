use Rattle.cxl_legal.proofs.FittingEndpoints.{Laws, fits_endpoints}
use Rattle.cxl_legal.proofs.FittingWindows.{fits_window}
use Rattle.cxl_legal.proofs.FittingBases.{fits_base}
use Rattle.cxl_legal.proofs.laws.legal_plans_fit.Goals as goal

pub returns : goal.returns
returns c =
    let laws : Laws = record {
      tree = c.tree_laws.ensures.laws;
      rise = record { apart = c.ranges_rise.ensures.apart; some = c.ranges_rise.ensures.some };
      count = record { under = c.endpoints_lie_evenly.ensures.under; none = c.endpoints_lie_evenly.ensures.none; all = c.endpoints_lie_evenly.ensures.all };
      slots = record { each = c.slots_are_endpoints.ensures.each; start = c.slots_are_endpoints.ensures.start; inside = c.slots_are_endpoints.ensures.inside };
    } in
    record {
      endpoints = λ s request w plan system ports accepted named is. fits_endpoints (record { laws = laws; system = system; ports = ports; accepted = accepted; named = named; is = is });
      window = λ s request w plan system ports accepted named is. fits_window (record { laws = laws; system = system; ports = ports; accepted = accepted; named = named; is = is });
      base = λ s request w plan system ports accepted named is. fits_base (record { laws = laws; system = system; ports = ports; accepted = accepted; named = named; is = is });
    }
