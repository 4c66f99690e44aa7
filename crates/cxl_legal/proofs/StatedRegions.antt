-- The plan that is stated for a request that fits is legal.
use Rattle.std.proofs.Common.{◌≡◌, ℕ, true, if◌then◌else◌, List, Option, Some, None, refl, sym, ap, ◌∙◌, subst, inl, inr}
use Rattle.std.specs.Prelude.{◌==◌, nat_lt, Contains, IfSome}
use Rattle.std.specs.Option.{option_map_or}
use Rattle.std.proofs.lemmas.Bool.{cases_eq, cond-true, cond-false, eq-eqb, eqb-true, ne_eqb, lt-ltb}
use Rattle.cxl_enc.proofs.Tests.{asked_or}
use Rattle.cxl_topo.specs.Tree.{is_endpoint_at}
use Rattle.cxl_regs.specs.declared.reading.Range.{Range}
use Rattle.cxl_window.specs.Fields.{WindowFields}
use Rattle.cxl_model.specs.declared.found.Place.{Place}
use Rattle.cxl_model.specs.declared.plan.Plan.{Plan}
use Rattle.cxl_model.specs.declared.plan.Row.{Row}
use Rattle.cxl_model.specs.declared.request.Request.{Request}
use Rattle.cxl_model.specs.System.{System}
use Rattle.cxl_model.specs.Ranges.{IsCommittedRange, serves, window_for, range_ways, range_kind, range_code}
use Rattle.cxl_model.specs.Accepted.{IsAccepted, IsWhole}
use Rattle.cxl_model.specs.Regions.{region_range, LeadsTo, HasSpan, IsRegionIn}
use Rattle.cxl_model.specs.Plans.{AgreesOnCode, AreRowsOf, IsRow, IsLegalPlanIn, plan_code, with_rows}
use Rattle.cxl_legal.specs.Used.{request_ways, is_used}
use Rattle.cxl_legal.specs.Stated.{stated_start, planned_range, Reaches, at_endpoint, past_port, IsStatedPlace, IsStatedPlan}
use Rattle.cxl_legal.proofs.StatedImages.{stated_image, Stated}
use Rattle.cxl_legal.proofs.StatedRules.{whole, committed}
use Rattle.cxl_legal.proofs.StatedWays.{ways_is, kind_is, code_is}
use Rattle.cxl_legal.proofs.StatedPlaces.{ends_there, way_of, passes_on, target_used}

-- ---- spans

-- where the used ports lead a slot, the image leads it
leads : {s : System} {request : Request} {w : WindowFields} {base : ℕ} → Stated s request w base → (slot n m : ℕ) → Reaches s request w slot n m → is_used s request n ≡ true
    → (place : Place) → place.endpoint ≡ m → place.start ≡ stated_start s request m → LeadsTo (stated_image s request w base) w (planned_range request base) slot n place
leads {s} {request} {w} {base} c slot n m (at_endpoint _ endpoint) used place same start =
    subst (λ (k : ℕ). LeadsTo (stated_image s request w base) w (planned_range request base) slot k place) same
    (ends_there c slot place (ap (is_endpoint_at s.nodes) same ∙ endpoint) (ap (is_used s request) same ∙ used) (start ∙ ap (stated_start s request) (sym same)))
leads {s} {request} {w} c slot n m (past_port _ child _ port way rest) used place same start =
    let next = way_of s request w slot n child way in
    passes_on c slot n child place port used next (leads c slot child m rest next.used place same start)

span : {s : System} {request : Request} {w : WindowFields} {base : ℕ} → Stated s request w base → (slot : ℕ) (place : Place) → IsStatedPlace s request w slot place
    → HasSpan (stated_image s request w base) w (planned_range request base) slot place
span c slot place is =
    record { bridge = is.bridge; target = is.target; leads = leads c slot is.bridge place.endpoint is.reaches (target_used c slot is.bridge is.target) place refl is.start }

-- ---- the region

same_range : {s : System} {request : Request} {w : WindowFields} {base : ℕ} {plan : Plan} → IsStatedPlan s request w base plan → region_range plan.found ≡ planned_range request base
same_range is =
    let base = is.starts in
    let size = is.size in
    λ k. record { base = base k; size = size k }

codes : {s : System} {request : Request} {w : WindowFields} {base : ℕ} → Stated s request w base
    → plan_code request w (request_ways request) ≡ (if request_ways request == 1 then 0 else range_code (stated_image s request w base) w (planned_range request base))
codes {s} {request} {w} {base} c =
    elim (cases_eq (request_ways request) 1) [
      | inl single ↦
          cond-true (request_ways request == 1) 0 _ (eq-eqb (request_ways request) 1 single)
          ∙ sym (cond-true (request_ways request == 1) 0 (range_code (stated_image s request w base) w (planned_range request base)) (eq-eqb (request_ways request) 1 single))
      | inr more ↦
          sym (code_is c more) ∙ sym (cond-false (request_ways request == 1) 0 (range_code (stated_image s request w base) w (planned_range request base)) (ne_eqb (request_ways request) 1 more))
    ]

region : {s : System} {request : Request} {w : WindowFields} {base : ℕ} {plan : Plan} → Stated s request w base → IsStatedPlan s request w base plan → IsRegionIn (stated_image s request w base) w plan.found
region {s} {request} {w} {base} {plan} c is =
    let t : System = stated_image s request w base in
    let same = same_range is in
    record {
      committed = subst (IsCommittedRange (stated_image s request w base)) (sym same) (committed c);
      whole = subst (IsWhole (stated_image s request w base)) (sym same) (whole c);
      window = ap (window_for (stated_image s request w base)) same ∙ c.window;
      index = is.window;
      ways = is.ways ∙ sym (ways_is c) ∙ ap (range_ways (stated_image s request w base)) (sym same);
      code = is.code ∙ codes c
          ∙ ap (λ (k : ℕ). if k == 1 then 0 else range_code (stated_image s request w base) w (planned_range request base)) (sym is.ways)
          ∙ ap (λ (q : Range). if plan.found.ways == 1 then 0 else range_code (stated_image s request w base) w q) (sym same);
      kind = is.kind ∙ sym (kind_is c) ∙ ap (range_kind (stated_image s request w base)) (sym same);
      slots = is.slots ∙ sym is.ways;
      spans = λ slot place at. subst (λ (q : Range). HasSpan (stated_image s request w base) w q slot place) (sym same) (span c slot place (is.places slot place at));
    }

-- ---- the plan

agrees : {s : System} {request : Request} {w : WindowFields} {base : ℕ} → Stated s request w base → AgreesOnCode request w
agrees {s} {request} {w} c = λ many. go request.gran (asked_or (nat_lt 1 w.ways) (option_map_or (λ code. code == w.gran) request.gran true) c.fits.window.gran (lt-ltb 1 w.ways many))
  where
    go : (o : Option ℕ) → option_map_or (λ code. code == w.gran) o true ≡ true → IfSome o (λ code. code ≡ w.gran)
    go None is = tt
    go (Some code) is = eqb-true code w.gran is

pub legal : {s : System} {request : Request} {w : WindowFields} {base : ℕ} {plan : Plan} → Stated s request w base → IsAccepted (stated_image s request w base) → IsStatedPlan s request w base plan → IsLegalPlanIn s request w plan
legal {s} {request} {w} {base} {plan} c accepted is =
    let same = same_range is in
    record {
      distinct = c.fits.endpoints.distinct;
      named = is.name;
      there = c.fits.window.there;
      open_to_plans = c.fits.window.open_to_plans;
      agrees = agrees c;
      rows_of = subst (AreRowsOf s request) (sym is.rows) c.rows;
      each_row = λ row there. subst (λ (q : Range). IsRow s q row) (sym same) (c.each row (subst (λ (rows : List Row). Contains rows row) is.rows there));
      new = λ n. ap (λ (q : Range). serves s q n) same ∙ c.new n;
      accepted = subst (λ (rows : List Row). IsAccepted (with_rows s rows)) (sym is.rows) accepted;
      region = subst (λ (rows : List Row). IsRegionIn (with_rows s rows) w plan.found) (sym is.rows) (region c is);
      size = is.size;
      kind = is.kind;
      code = is.code ∙ ap (plan_code request w) (sym is.ways);
    }
