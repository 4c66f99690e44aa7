use Rattle.std.proofs.Common.{ℕ, ◌<◌, List, length, Some, None, sym, ◌∙◌, subst, arith}
use Rattle.std.proofs.lemmas.Bool.{false≢true}
use Rattle.cxl_enc.proofs.Ways.{some_ways}
use Rattle.cxl_topo.proofs.Trees.{KnownTree}
use Rattle.cxl_window.specs.Fields.{WindowFields}
use Rattle.cxl_model.specs.System.{System}
use Rattle.cxl_legal.specs.Windows.{FitsWindow}
use Rattle.cxl_pick.specs.declared.want.Want.{Want}
use Rattle.cxl_pick.specs.Picking.{asked, HasPlanIn}
use Rattle.cxl_reason.specs.declared.reason.SetReason.{SetReason}
use Rattle.cxl_reason.specs.declared.reason.SetReason.TheVariants as reasons
use Rattle.cxl_reason.specs.Reasons.{HasCodes, HasNoPlanIn, IsAskedOf, SaysOfSets}
use Rattle.cxl_reason.proofs.Fresh.{kind_where_room}
use Rattle.cxl_reason.proofs.Leading.{as_many, some_share}
use Rattle.cxl_reason.proofs.laws.reasons_hold_of_all_sets.Goals as goal

window_of : goal.After-legal_plans_fit → (s : System) (want : Want) (w : WindowFields) (set : List ℕ) → IsAskedOf s want → HasPlanIn s want w set → FitsWindow s (asked want set) w
window_of c s want w set is has = c.legal_plans_fit.ensures.window s (asked want set) w has.plan is.system is.ports is.accepted has.named has.legal

codes_of : goal.After-legal_plans_fit → (s : System) (want : Want) (w : WindowFields) (set : List ℕ) → IsAskedOf s want → HasPlanIn s want w set → HasCodes s want w set
codes_of c s want w set is has =
    let endpoints = c.legal_plans_fit.ensures.endpoints s (asked want set) w has.plan is.system is.ports is.accepted has.named has.legal in
    let window = window_of c s want w set is has in
    let some : 0 < length set = subst (λ (n : ℕ). 0 < n) (sym has.count) (some_ways want.ways is.ways) in
    record {
      named = has.named;
      distinct = endpoints.distinct;
      count = has.count;
      kind = λ m there. kind_where_room s want set m (some_share want.size (length set) some endpoints.size) (endpoints.room m there);
      bridges = window.bridges;
      even = endpoints.even;
      selects = window.selects;
      ways = window.ways;
    }

pub returns-clause-codes : goal.returns-clause-codes
returns-clause-codes c = λ s want w set is has. codes_of c s want w set is has

none_of : goal.After-legal_plans_fit → (s : System) (want : Want) (w : WindowFields) (reason : SetReason) → IsAskedOf s want → SaysOfSets s want w reason → HasNoPlanIn s want w
none_of c s want w reasons.Unusable is says = λ set has. false≢true (sym says ∙ (window_of c s want w set is has).usable)
none_of c s want w reasons.Kind is says = λ set has. false≢true (sym says ∙ (window_of c s want w set is has).kind)
none_of c s want w reasons.Fixed is says = λ set has. false≢true (sym (window_of c s want w set is has).open_to_plans ∙ says)
none_of c s want w reasons.Gran is says = λ set has. false≢true (sym says ∙ (window_of c s want w set is has).gran)
none_of c s want w (reasons.Few count) is says = λ set has.
    let known : KnownTree s.nodes = record { tree = is.system.tree; laws = c.tree_laws.ensures.laws s.nodes is.system.tree } in
    let many = as_many s want w set known (codes_of c s want w set is has) in
    let told = says.0 in
    let fewer = says.1 in
    omega (arith, many, told, fewer)
none_of c s want w reasons.NoCodes is says = λ set has. says set (codes_of c s want w set is has)
none_of c s want w (reasons.NoRoom (Some size)) is says = says.0
none_of c s want w (reasons.NoRoom None) is says = says want.size

pub returns-clause-none : goal.returns-clause-none
returns-clause-none c = λ s want w reason is says. none_of c s want w reason is says
