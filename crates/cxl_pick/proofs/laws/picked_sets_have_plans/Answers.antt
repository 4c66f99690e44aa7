use Rattle.std.proofs.Common.{Err, subst, ◌≡◌}
use Rattle.cxl_pick.specs.declared.fault.PickFault.{PickFault}
use Rattle.cxl_pick.specs.Picked.{picked}
use Rattle.cxl_pick.proofs.Computed.{told_set, told_fault}
use Rattle.cxl_pick.proofs.Parts.{set_long}
use Rattle.cxl_pick.proofs.Picks.{Settled, picked_of, fits_first, none_planned, not_memory, one_window}
use Rattle.cxl_pick.proofs.laws.picked_sets_have_plans.Goals as goal

pub returns-clause-first : goal.returns-clause-first
returns-clause-first c = λ s want w set system ports accepted code is own.
    let laws = c.tree_laws.ensures.laws s.nodes system.tree in
    let told = told_set s want laws system set is in
    let settled : Settled s want = record {
      laws = laws;
      system = system;
      ports = ports;
      accepted = accepted;
      ways = told.ways;
      size = told.size;
      code = code;
      given = c.fitting_sets_are_given.ensures s want;
    } in
    c.fitting_sets_have_plans.ensures.first s want w set (set_long (picked_of s want settled w set own)) (fits_first s want settled w set own)

pub returns-clause-none : goal.returns-clause-none
returns-clause-none c = λ s want fault system ports accepted is.
    none_planned s want (λ request w plan. c.legal_plans_fit.ensures.endpoints s request w plan system ports accepted) (c.fitting_sets_are_given.ensures s want)
    (c.fitting_sets_have_plans.ensures.none s want system ports accepted) fault (told_fault s want (c.tree_laws.ensures.laws s.nodes system.tree) system fault is) (λ memory. not_memory s want (subst (λ (f : PickFault). picked s want ≡ Err f) memory is))

pub returns-clause-window : goal.returns-clause-window
returns-clause-window c = λ s want w v set other is own. one_window s want w v set other is own
