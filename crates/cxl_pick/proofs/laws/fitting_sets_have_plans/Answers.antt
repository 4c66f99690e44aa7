use Rattle.std.proofs.Common.{ℕ, List}
use Rattle.cxl_window.specs.Fields.{WindowFields}
use Rattle.cxl_model.specs.System.{System, IsSystem}
use Rattle.cxl_model.specs.Accepted.{IsAccepted}
use Rattle.cxl_legal.specs.Used.{HasBytePorts}
use Rattle.cxl_legal.specs.Stated.{Fits}
use Rattle.cxl_pick.specs.declared.want.Want.{Want}
use Rattle.cxl_pick.specs.Picking.{asked, HasPlanIn}
use Rattle.cxl_pick.proofs.laws.fitting_sets_have_plans.Goals as goal

-- a set with a legal plan keeps all that a request has to, at the plan's base
fitting : goal.After-fitting_plans_are_legal → (s : System) (want : Want) (w : WindowFields) (set : List ℕ) → IsSystem s → HasBytePorts s.nodes → IsAccepted s
    → (has : HasPlanIn s want w set) → Fits s (asked want set) w has.plan.found.base
fitting c s want w set system ports accepted has = record {
  system = system;
  ports = ports;
  accepted = accepted;
  named = has.named;
  endpoints = c.legal_plans_fit.ensures.endpoints s (asked want set) w has.plan system ports accepted has.named has.legal;
  window = c.legal_plans_fit.ensures.window s (asked want set) w has.plan system ports accepted has.named has.legal;
  starts = c.legal_plans_fit.ensures.base s (asked want set) w has.plan system ports accepted has.named has.legal;
}

pub returns-clause-first : goal.returns-clause-first
returns-clause-first c = λ s want w set count fits.
    let (plan, stated) = c.fitting_plans_are_legal.ensures.there s (asked want set) w fits.base fits.fits in
    record {
      has = record {
        named = fits.fits.named;
        count = count;
        plan = plan;
        legal = c.fitting_plans_are_legal.ensures.legal s (asked want set) w fits.base plan fits.fits stated;
      };
      first = λ earlier other before has.
          fits.first earlier other has.plan.found.base before has.count (fitting c s want earlier other fits.fits.system fits.fits.ports fits.fits.accepted has);
    }

pub returns-clause-none : goal.returns-clause-none
returns-clause-none c = λ s want system ports accepted nothing w set has.
    nothing w set has.plan.found.base has.count (fitting c s want w set system ports accepted has)
