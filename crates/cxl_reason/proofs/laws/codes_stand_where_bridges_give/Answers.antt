use Rattle.std.proofs.Common.{◌≡◌, ℕ, ◌+◌, ◌-◌, ◌*◌, ◌/◌, ◌%◌, Bool, true, false, if◌then◌else◌, List, [], ◌∷◌, Option, Some, None, refl, sym, ap, ◌∙◌, subst, arith}
use Rattle.std.specs.Prelude.{◌==◌, is_some, slice_get}
use Rattle.std.proofs.lemmas.Bool.{and_parts, and_from, eqb-true, eq-eqb, le-leb}
use Rattle.cxl_enc.specs.Codes.{is_ways}
use Rattle.cxl_enc.specs.Limits.{unit}
use Rattle.cxl_topo.specs.Tree.{is_endpoint_at}
use Rattle.cxl_topo.proofs.Trees.{KnownTree}
use Rattle.cxl_window.specs.Fields.{WindowFields}
use Rattle.cxl_model.specs.System.{System}
use Rattle.cxl_legal.specs.Bases.{base_step}
use Rattle.cxl_legal.specs.Stated.{Fits}
use Rattle.cxl_pick.specs.declared.want.Want.{Want}
use Rattle.cxl_pick.specs.Picking.{asked, can_take, latest_start, all_given, given_in}
use Rattle.cxl_reason.specs.Reasons.{HasCodes, IsAskedOf}
use Rattle.cxl_reason.specs.inner.Asked.{HasResetBlocks, after_reset, least_want, is_open_to}
use Rattle.cxl_reason.proofs.Orders.{ordered}
use Rattle.cxl_reason.proofs.Parts.{some_there, given_parts, given_from, size_of_set}
use Rattle.cxl_reason.proofs.Opens.{same_targets}
use Rattle.cxl_reason.proofs.Fresh.{open_parts, ample, alone, reset_under, reset_system, least_size, enough, fresh_end, open_alike, fresh_room, fresh_decoder, least_share, kind_where_room}
use Rattle.cxl_reason.proofs.laws.codes_stand_where_bridges_give.Goals as goal

zero_step : (third : Bool) → (0 - 0) % (if third then 3 * unit else unit) ≡ 0
zero_step true = refl
zero_step false = refl

-- a set with codes fits after reset under the window alone
fresh_fits : goal.After-fitting_sets_are_given → (s : System) (want : Want) (w : WindowFields) (set : List ℕ) → IsAskedOf s want → HasResetBlocks s → slice_get s.windows w.index ≡ Some w → is_open_to want w ≡ true
    → HasCodes s want w set → Fits (reset_under s w) (asked (least_want want) set) (alone w) 0
fresh_fits c s want w set is fresh there opened codes =
    let system = reset_system s want w is fresh there opened in
    let parts = open_parts want w opened in
    let known : KnownTree s.nodes = record { tree = is.system.tree; laws = c.tree_laws.ensures.laws s.nodes is.system.tree } in
    let room = enough s want w is fresh there opened in
    record {
      system = system;
      ports = is.ports;
      accepted = c.reset_hosts_are_accepted.ensures (record { nodes = s.nodes; frames = 0 }) (alone w ∷ []) system;
      named = codes.named;
      endpoints = record {
        distinct = codes.distinct;
        ways = ap is_ways codes.count ∙ is.ways;
        size = size_of_set (unit * want.ways) want.ways set codes.count (least_size s want w is fresh there opened);
        even = codes.even;
        left = fresh_decoder s want set (alone w ∷ []) known codes.named;
        room = λ m in_set.
            let endpoint = subst (λ (k : ℕ). is_endpoint_at s.nodes k ≡ true) in_set.2 (codes.named in_set.0 m in_set.1) in
            fresh_room s want set m (alone w ∷ []) is.system.tree is.ways codes.count endpoint (codes.kind m in_set);
      };
      window = record {
        there = refl;
        usable = parts.usable;
        kind = parts.kind;
        open_to_plans = parts.not_fixed;
        bridges = codes.bridges;
        gran = parts.gran;
        selects = codes.selects;
        ways = codes.ways;
      };
      starts = record {
        can = record {
          from = omega arith;
          after = λ n used. let none = fresh_end s n in omega (arith, none);
          step = zero_step (w.ways % 3 == 0);
        };
        inside = omega (arith, room);
      };
    }

pub returns-clause-given : goal.returns-clause-given
returns-clause-given c = λ s want w set is fresh there opened codes.
    let own = c.fitting_sets_are_given.ensures (reset_under s w) (least_want want) (alone w) set 0 codes.count (fresh_fits c s want w set is fresh there opened codes) in
    let parts = given_parts (reset_under s w) (least_want want) (alone w) own.0 own.1 in
    let divides = and_parts (is_open_to want w) (want.ways % w.ways == 0) parts.takes in
    let same = same_targets (after_reset s) (least_want want) w (alone w ∷ []) 0 0 (ample w) 0 parts.start (open_alike s 0 parts.start) w.targets in
    (eqb-true (want.ways % w.ways) 0 divides.1, ap (λ (os : List (Option (List ℕ))). is_some (all_given os)) same ∙ ap (λ (o : Option (List ℕ)). is_some o) parts.all)

pub returns-clause-codes : goal.returns-clause-codes
returns-clause-codes c = λ s want w is fresh there opened divides gives.
    let system = reset_system s want w is fresh there opened in
    let accepted = c.reset_hosts_are_accepted.ensures (record { nodes = s.nodes; frames = 0 }) (alone w ∷ []) system in
    let start : ℕ = 0 + (ample w - unit * want.ways) / base_step w * base_step w in
    let takes : can_take (least_want want) (alone w) ≡ true = and_from (is_open_to want w) (want.ways % w.ways == 0) opened (eq-eqb (want.ways % w.ways) 0 divides) in
    let starts : latest_start (least_want want) (alone w) ≡ Some start =
    ap (λ (b : Bool). if b then Some start else None) (le-leb (unit * want.ways) (ample w) (enough s want w is fresh there opened)) in
    let same = same_targets (after_reset s) (least_want want) w (alone w ∷ []) 0 0 (ample w) 0 start (open_alike s 0 start) w.targets in
    let all : is_some (given_in (reset_under s w) (least_want want) (alone w)) ≡ true =
    ap (λ (o : Option (List ℕ)). is_some o) (sym (given_from (reset_under s w) (least_want want) (alone w) start takes starts))
    ∙ sym (ap (λ (os : List (Option (List ℕ))). is_some (all_given os)) same) ∙ gives in
    let given = some_there (given_in (reset_under s w) (least_want want) (alone w)) all in
    let set = ordered given.0 in
    let count = c.given_sets_fit.ensures.ways (reset_under s w) (least_want want) (alone w) given.0 set.0 system is.ports accepted is.ways refl given.1 set.1 in
    let size = size_of_set (unit * want.ways) want.ways set.0 count (least_size s want w is fresh there opened) in
    let fits = c.given_sets_fit.ensures.fits (reset_under s w) (least_want want) (alone w) start given.0 set.0 system is.ports accepted is.ways size is.code refl given.1 set.1 starts in
    let share = least_share want set.0 is.ways count in (
      set.0,
      record {
        named = fits.named;
        distinct = fits.endpoints.distinct;
        count = count;
        kind = λ m in_set. kind_where_room (reset_under s w) (least_want want) set.0 m (omega (arith, share)) (fits.endpoints.room m in_set);
        bridges = fits.window.bridges;
        even = fits.endpoints.even;
        selects = fits.window.selects;
        ways = fits.window.ways;
      },
    )
