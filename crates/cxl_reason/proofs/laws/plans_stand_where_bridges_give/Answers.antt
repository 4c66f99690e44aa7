use Rattle.std.proofs.Common.{◌≡◌, ℕ, ◌<◌, true, List, length, Option, Some, sym, ap, subst}
use Rattle.std.specs.Prelude.{is_some, slice_get}
use Rattle.cxl_enc.proofs.Ways.{some_ways}
use Rattle.cxl_window.specs.Fields.{WindowFields}
use Rattle.cxl_model.specs.System.{System}
use Rattle.cxl_legal.specs.Stated.{Fits}
use Rattle.cxl_pick.specs.declared.want.Want.{Want}
use Rattle.cxl_pick.specs.Picking.{asked, given_in, HasPlanIn, IsWantedSize}
use Rattle.cxl_reason.specs.Reasons.{IsAskedOf, with_size}
use Rattle.cxl_reason.proofs.Orders.{ordered}
use Rattle.cxl_reason.proofs.Parts.{some_there, given_parts, fits_lower, size_of_set, size_of_ways}
use Rattle.cxl_reason.proofs.laws.plans_stand_where_bridges_give.Goals as goal

record Fitting (s : System) (want : Want) (w : WindowFields) : Type 0 where
  pub set : List ℕ
  pub count : length set ≡ want.ways
  pub base : ℕ
  pub fits : Fits s (asked want set) w base

-- where something is given, some set fits
fitting : goal.After-fitting_plans_are_legal → (s : System) (want : Want) (w : WindowFields) → IsAskedOf s want → IsWantedSize want → slice_get s.windows w.index ≡ Some w → is_some (given_in s want w) ≡ true → Fitting s want w
fitting c s want w is size there gives =
    let given = some_there (given_in s want w) gives in
    let parts = given_parts s want w given.0 given.1 in
    let set = ordered given.0 in
    let count = c.given_sets_fit.ensures.ways s want w given.0 set.0 is.system is.ports is.accepted is.ways there given.1 set.1 in
    record {
      set = set.0;
      count = count;
      base = parts.start;
      fits = c.given_sets_fit.ensures.fits s want w parts.start given.0 set.0 is.system is.ports is.accepted is.ways (size_of_set want.size want.ways set.0 count size) is.code there given.1 set.1 parts.starts;
    }

-- a set with a legal plan fits
planned : goal.After-fitting_plans_are_legal → (s : System) (want : Want) (w : WindowFields) (set : List ℕ) → IsAskedOf s want → (has : HasPlanIn s want w set) → Fits s (asked want set) w has.plan.found.base
planned c s want w set is has = record {
  system = is.system;
  ports = is.ports;
  accepted = is.accepted;
  named = has.named;
  endpoints = c.legal_plans_fit.ensures.endpoints s (asked want set) w has.plan is.system is.ports is.accepted has.named has.legal;
  window = c.legal_plans_fit.ensures.window s (asked want set) w has.plan is.system is.ports is.accepted has.named has.legal;
  starts = c.legal_plans_fit.ensures.base s (asked want set) w has.plan is.system is.ports is.accepted has.named has.legal;
}

is_given : goal.After-fitting_plans_are_legal → (s : System) (want : Want) (w : WindowFields) (set : List ℕ) (base : ℕ) → length set ≡ want.ways → Fits s (asked want set) w base → is_some (given_in s want w) ≡ true
is_given c s want w set base count fits =
    let given = c.fitting_sets_are_given.ensures s want w set base count fits in
    ap (λ (o : Option (List ℕ)). is_some o) given.1

pub returns-clause-plan : goal.returns-clause-plan
returns-clause-plan c = λ s want w is size there gives.
    let own = fitting c s want w is size there gives in
    let (plan, stated) = c.fitting_plans_are_legal.ensures.there s (asked want own.set) w own.base own.fits in (
      own.set,
      record {
        named = own.fits.named;
        count = own.count;
        plan = plan;
        legal = c.fitting_plans_are_legal.ensures.legal s (asked want own.set) w own.base plan own.fits stated;
      },
    )

pub returns-clause-given : goal.returns-clause-given
returns-clause-given c = λ s want w set is has. is_given c s want w set has.plan.found.base has.count (planned c s want w set is has)

pub returns-clause-size : goal.returns-clause-size
returns-clause-size c = λ s want w set is has. size_of_ways want.size want.ways set has.count (planned c s want w set is has).endpoints.size

pub returns-clause-lower : goal.returns-clause-lower
returns-clause-lower c = λ s want w size is wanted there legal less gives.
    let own = fitting c s want w is wanted there gives in
    let some : 0 < length own.set = subst (λ (n : ℕ). 0 < n) (sym own.count) (some_ways want.ways is.ways) in
    is_given c s (with_size want size) w own.set own.base own.count (fits_lower s want w own.set own.base size some less (size_of_set size want.ways own.set own.count legal) own.fits)
