-- What a pick is, by what its first window gives.
use Rattle.std.proofs.Common.{◌≡◌, ℕ, ◌*◌, ◌%◌, ◌<◌, ◌≤◌, Bool, true, false, not, List, length, map, Option, Some, None, Err, refl, sym, ap, ◌∙◌, subst, inl, inr, arith}
use Rattle.std.specs.Prelude.{slice_get, All, IfSome, if◌then◌else◌}
use Rattle.std.proofs.lemmas.Bool.{cases_lt, false≢true}
use Rattle.std.proofs.lemmas.Option.{none-some, same_Some}
use Rattle.cxl_enc.specs.Codes.{is_ways}
use Rattle.cxl_enc.specs.Limits.{unit}
use Rattle.cxl_topo.specs.Laws.{AreTreeLaws}
use Rattle.cxl_window.specs.Fields.{WindowFields}
use Rattle.cxl_model.specs.System.{System, IsSystem}
use Rattle.cxl_model.specs.Accepted.{IsAccepted}
use Rattle.cxl_model.specs.Plans.{IsLegalPlanIn}
use Rattle.cxl_model.specs.declared.plan.Plan.{Plan}
use Rattle.cxl_model.specs.declared.request.Request.{Request}
use Rattle.cxl_legal.specs.Firsts.{first_there}
use Rattle.cxl_legal.specs.Used.{AreEndpoints, HasBytePorts}
use Rattle.cxl_legal.specs.Endpoints.{IsSize, FitsEndpoints}
use Rattle.cxl_legal.specs.Sizes.{is_size_for}
use Rattle.cxl_legal.specs.Stated.{Fits}
use Rattle.cxl_pick.specs.declared.want.Want.{Want}
use Rattle.cxl_pick.specs.declared.fault.PickFault.{PickFault}
use Rattle.cxl_pick.specs.declared.fault.PickFault.TheVariants as faults
use Rattle.cxl_pick.specs.Picking.{asked, given_in, IsWantedSize, IsPicked, NothingGiven, TellsPickFault, FitsFirst, NothingFits, NothingPlans}
use Rattle.cxl_pick.specs.Picked.{picked, set_or_none}
use Rattle.cxl_pick.proofs.Parts.{OfWindow, InWindow, Picked, in_window, given_endpoint, all_below, set_long}
use Rattle.cxl_pick.proofs.FittedWindows.{given_fits}

-- what a window gives are nodes of the tree
pub given_low : (s : System) (want : Want) (w : WindowFields) (given : List ℕ) → AreTreeLaws s.nodes → IsSystem s → slice_get s.windows w.index ≡ Some w → given_in s want w ≡ Some given
    → All (λ n. n < length s.nodes) given
given_low s want w given laws system there is =
    let of : OfWindow s want w given = record { laws = laws; system = system; there = there; window = in_window s want w given is } in
    all_below s given (given_endpoint of)

pub record Settled (s : System) (want : Want) : Type 0 where
  pub laws : AreTreeLaws s.nodes
  pub system : IsSystem s
  pub ports : HasBytePorts s.nodes
  pub accepted : IsAccepted s
  pub ways : is_ways want.ways ≡ true
  pub size : IsWantedSize want
  pub code : IfSome want.gran (λ code. code ≤ 6)
  -- where a set fits, something is given
  pub given : (w : WindowFields) (set : List ℕ) (base : ℕ) → length set ≡ want.ways → Fits s (asked want set) w base → (given : List ℕ) × (given_in s want w ≡ Some given)

pub window_there : (s : System) → IsSystem s → (place : ℕ) (w : WindowFields) → slice_get s.windows place ≡ Some w → slice_get s.windows w.index ≡ Some w
window_there s system place w at = subst (λ (k : ℕ). slice_get s.windows k ≡ Some w) (sym (system.made.indexed place w at)) at

pub picked_of : (s : System) (want : Want) → Settled s want → (w : WindowFields) (set : List ℕ) → (is : IsPicked s want w set) → Picked s want w is.given set
picked_of s want settled w set is = record {
  of = record { laws = settled.laws; system = settled.system; there = window_there s settled.system is.place w is.there; window = in_window s want w is.given is.gives };
  ports = settled.ports;
  ways = settled.ways;
  rising = is.rising;
}

pub fits_first : (s : System) (want : Want) → Settled s want → (w : WindowFields) (set : List ℕ) → IsPicked s want w set → FitsFirst s want w set
fits_first s want settled w set is =
    let picked = picked_of s want settled w set is in
    let window : InWindow s want w is.given = in_window s want w is.given is.gives in
    let long = set_long picked in
    let size : IsSize (asked want set) = record {
      some = settled.size.some;
      even = ap (λ (k : ℕ). want.size % (unit * k)) long ∙ settled.size.even;
      low = settled.size.low;
    } in
    record {
      base = window.start;
      fits = given_fits picked settled.accepted size settled.code window.start window.starts;
      first = λ earlier other start low all fits.
          let given = settled.given earlier other start all fits in
          let own : w.index ≡ is.place = settled.system.made.indexed is.place w is.there in
          none-some given.0 (sym (is.first earlier.index earlier (omega (arith, low, own)) fits.window.there) ∙ given.1);
    }

-- where a set fits, something is given
abbrev pub FittingIsGiven : System → Want → Type 0
FittingIsGiven s want = (w : WindowFields) (set : List ℕ) (base : ℕ) → length set ≡ want.ways → Fits s (asked want set) w base → (given : List ℕ) × (given_in s want w ≡ Some given)

pub nothing_fits : (s : System) (want : Want) → FittingIsGiven s want → NothingGiven s want → NothingFits s want
nothing_fits s want given_where nothing = λ w set base all fits.
    let given = given_where w set base all fits in
    none-some given.0 (sym (nothing w.index w fits.window.there) ∙ given.1)

-- ---- one window

-- there is one first window
pub one_window : (s : System) (want : Want) (w v : WindowFields) (set other : List ℕ) → IsPicked s want w set → IsPicked s want v other → w ≡ v
one_window s want w v set other is own =
    elim (cases_lt is.place own.place) [
      | inl before ↦ absurd (none-some is.given (sym (own.first is.place w before is.there) ∙ is.gives))
      | inr late ↦ elim (cases_lt own.place is.place) [
        | inl before ↦ absurd (none-some own.given (sym (is.first own.place v before own.there) ∙ own.gives))
        | inr early ↦
            let same : is.place ≡ own.place = omega (arith, late, early) in
            same_Some w v (sym (subst (λ (k : ℕ). slice_get s.windows k ≡ Some w) same is.there) ∙ own.there)
      ]
    ]

-- ---- no pick, no plan

-- a legal plan is over endpoints that fit
abbrev pub LegalFits : System → Type 0
LegalFits s = (request : Request) (w : WindowFields) (plan : Plan) → AreEndpoints s request → IsLegalPlanIn s request w plan → FitsEndpoints s request

-- no pick has want of memory for its answer
real_set : (s : System) (some : Option (List ℕ)) → set_or_none s some ≡ Err faults.Memory → ⊥
real_set s None e = cc
real_set s (Some given) e = cc

real_size : (s : System) (size : Bool) (some : Option (List ℕ)) → (if not size then Err faults.Size else set_or_none s some) ≡ Err faults.Memory → ⊥
real_size s true some e = real_set s some e
real_size s false some e = cc

real_ways : (s : System) (n : ℕ) (ways size : Bool) (some : Option (List ℕ))
    → (if not ways then Err (faults.Ways n) else (if not size then Err faults.Size else set_or_none s some)) ≡ Err faults.Memory → ⊥
real_ways s n true size some e = real_size s size some e
real_ways s n false size some e = cc

pub not_memory : (s : System) (want : Want) → picked s want ≡ Err faults.Memory → ⊥
not_memory s want is = real_ways s want.ways (is_ways want.ways) (is_size_for want.size want.ways) (first_there (map (given_in s want) s.windows)) is

module _ (s : System) (want : Want) (fits : LegalFits s) where
  none_of_ways : is_ways want.ways ≡ false → NothingPlans s want
  none_of_ways none w set has =
      let all = fits (asked want set) w has.plan has.named has.legal in
      false≢true (sym none ∙ ap is_ways (sym has.count) ∙ all.ways)

  none_of_size : (IsWantedSize want → ⊥) → NothingPlans s want
  none_of_size none w set has =
      let all = fits (asked want set) w has.plan has.named has.legal in
      none (record {
        some = all.size.some;
        even = ap (λ (k : ℕ). want.size % (unit * k)) (sym has.count) ∙ all.size.even;
        low = all.size.low;
      })

  pub none_planned : FittingIsGiven s want → (NothingFits s want → NothingPlans s want) → (fault : PickFault) → TellsPickFault s want fault → (fault ≡ faults.Memory → ⊥) → NothingPlans s want
  none_planned given law (faults.Ways n) told real = none_of_ways told.1
  none_planned given law faults.Size told real = none_of_size told.1
  none_planned given law faults.NoSet (ways, size, nothing) real = law (nothing_fits s want given nothing)
  none_planned given law faults.Memory told real = absurd (real refl)
