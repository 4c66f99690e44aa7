-- Each answer can be told, over the machine's nodes.
use Rattle.std.proofs.Common.{◌≡◌, ℕ, ◌+◌, ◌<◌, ◌≤◌, Bool, true, false, if◌then◌else◌, List, [], ◌∷◌, length, get_or, Result, Ok, Err, Option, Some, None, refl, sym, ◌∙◌, subst, arith}
use Rattle.std.specs.Prelude.{All, Contains, nat_lt, nat_le, is_none, option_map, option_and_then}
use Rattle.std.specs.Option.{option_map_or}
use Rattle.std.proofs.lemmas.Bool.{and_parts, leb-true, ltb-true}
use Rattle.std.proofs.lemmas.List.{length-map}
use Rattle.std.proofs.lemmas.Option.{none-some, same_Some, slice_get_within}
use Rattle.cxl_deal.specs.Weaves.{IsWeave, weave_ways}
use Rattle.cxl_legal.specs.Firsts.{first_there}
use Rattle.cxl_legal.specs.Used.{HasBytePorts}
use Rattle.cxl_range.specs.Carried.{IsCarried}
use Rattle.cxl_range.specs.Extents.{extents_of}
use Rattle.cxl_script.specs.declared.command.Create.{Create}
use Rattle.cxl_script.specs.declared.command.Reach.{Reach}
use Rattle.cxl_topo.specs.Tree.{ports_above}
use Rattle.cxl_window.specs.Fields.{WindowFields}
use Rattle.cxl_model.specs.declared.found.Found.{Found}
use Rattle.cxl_model.specs.declared.found.Place.{Place}
use Rattle.cxl_model.specs.declared.plan.Plan.{Plan}
use Rattle.cxl_model.specs.declared.plan.Row.{Row}
use Rattle.cxl_model.specs.declared.request.Request.{Request}
use Rattle.cxl_model.specs.Accepted.{IsAccepted}
use Rattle.cxl_model.specs.Plans.{IsLegalPlan, with_rows}
use Rattle.cxl_model.specs.Regions.{region_range, IsRegionIn, IsRegion, weave_fields, Carries}
use Rattle.cxl_model.specs.System.{System, IsSystem}
use Rattle.cxl_apply.specs.Releases.{first_locked, first_not_last}
use Rattle.cxl_reply.specs.declared.reply.Reply.{Reply}
use Rattle.cxl_reply.specs.declared.reply.Reply.TheVariants as replies
use Rattle.cxl_reply.specs.Conditions.{IsNode, IsToldFound, IsTold}
use Rattle.cxl_request.specs.Endpoints.{first_unknown}
use Rattle.cxl_request.specs.Requests.{AsksForPlan}
use Rattle.cxl_machine.specs.Machine.{Live, RegionJob, Machine, has_host, live_at, live_named, region_window}
use Rattle.cxl_model.specs.Listed.{region_limit}
use Rattle.cxl_machine.specs.Jobs.{begun, create_job}
use Rattle.cxl_machine.specs.Replies.{ends_within}
use Rattle.cxl_machine.specs.Accesses.{downed, slot_of_host, slot_place, endpoints_by_slot}
use Rattle.cxl_machine.specs.Requests as requests
use Rattle.cxl_machine.specs.Requests.{busy, name_taken, regions_full, no_region, locked, not_last, spot_of, refusal_of_create, refusal_of_release, release_named, job_unless, asked_release, job_of_plan, AsksUnless, AsksCreate}
use Rattle.cxl_machine.specs.Sound.{IsMachine}
use Rattle.cxl_machine.proofs.KeepingMachines.{live_there}
use Rattle.cxl_machine.proofs.LiveRegions.{live_is_region}
use Rattle.cxl_machine.proofs.TellingRegions.{found_has, rows_inside, few_steps, vias_inside, carried_inside, slots_told}

-- what is known of regions, plans and jobs
pub record TellLaws : Type 0 where
  pub regions : (s : System) (found : Found) → IsSystem s → IsRegion s found → IsToldFound s.nodes found
  pub planned_system : (s : System) (request : Request) (plan : Plan) → IsSystem s → IsLegalPlan s request plan → IsSystem (with_rows s plan.rows)
  pub refusal : (s : System) (create : Create) (refusal : Reply) → IsSystem s → HasBytePorts s.nodes → IsAccepted s → AsksForPlan s create (Err refusal) → IsTold s.nodes refusal
  pub each : (s : System) (w : WindowFields) (found : Found) (h : ℕ) → IsSystem s → IsRegionIn s w found → found.base ≤ h → h < found.base + found.size → (endpoint : ℕ) × (dpa : ℕ) × Carries found w h endpoint dpa
  pub weave : (s : System) (w : WindowFields) (found : Found) → IsSystem s → IsRegionIn s w found → IsWeave (weave_fields found w)
  pub ways : (s : System) (w : WindowFields) (found : Found) → IsSystem s → IsRegionIn s w found → weave_ways (weave_fields found w) ≡ found.ways
  pub extents : (s : System) (w : WindowFields) (found : Found) (h len : ℕ) → IsSystem s → IsRegionIn s w found → 0 < len → found.base ≤ h → h + len ≤ found.base + found.size → All (IsCarried found w) (extents_of found w h len)
  pub few_ports : (s : System) (endpoint : ℕ) → IsSystem s → length (ports_above s.nodes endpoint) ≤ 5
  pub creates : (m : Machine) (create : Create) (job : RegionJob) → IsMachine m → AsksCreate m create (Ok job) → IsMachine (begun job m)
  pub releases : (m : Machine) (name : List ℕ) (job : RegionJob) → IsMachine m → asked_release m name ≡ Ok job → IsMachine (begun job m)

module _ (laws : TellLaws) (m : Machine) (is : IsMachine m) where
  abbrev Told : Reply → Type 0
  Told reply = IsTold m.settled.nodes reply

  -- ---- live regions

  pub live_told : (region : Live) → Contains m.live region → IsToldFound m.settled.nodes region.found
  live_told region there = laws.regions m.settled region.found is.settled.system (region_window m.settled region.found, live_is_region m is region there)

  -- a live region that holds a host address
  record Holds (h : ℕ) (region : Live) : Type 0 where
    there : Contains m.live region
    from : region.found.base ≤ h
    below : h < region.found.base + region.found.size

  holds : (h : ℕ) (region : Live) → live_at m h ≡ Some region → Holds h region
  holds h region at =
      let (there, holds) = live_there m (λ (r : Live). has_host r.found h) region at in
      let bounds = and_parts (nat_le region.found.base h) (nat_lt h (region.found.base + region.found.size)) holds in
      record { there = there; from = leb-true region.found.base h bounds.0; below = ltb-true h (region.found.base + region.found.size) bounds.1 }

  pub holds_there : (h : ℕ) (region : Live) → live_at m h ≡ Some region → Contains m.live region
  holds_there h region at = (holds h region at).there

  pub down_told : (h : ℕ) (region : Live) → live_at m h ≡ Some region → Told (replies.Down (downed m h region))
  down_told h region at =
      let own = holds h region at in
      let w : WindowFields = region_window m.settled region.found in
      let here = live_is_region m is region own.there in
      let goes = laws.each m.settled w region.found h is.settled.system here own.from own.below in
      let endpoint : ℕ = (slot_place region.found (slot_of_host m region h)).endpoint in
      record {
        few = few_steps m.settled is.settled.system w (region_range region.found) (slot_of_host m region h) endpoint (laws.few_ports m.settled endpoint is.settled.system);
        ports = vias_inside m.settled is.settled.system w (region_range region.found) (slot_of_host m region h) endpoint;
        endpoint = carried_inside m.settled.nodes w region.found h goes.0 goes.1 (live_told region own.there) goes.2;
      }

  abbrev SlotsTold : Live → Type 0
  SlotsTold region = Told (replies.Spread record { bytes = []; endpoints = endpoints_by_slot region.found })

  pub region_slots : (region : Live) → Contains m.live region → SlotsTold region
  region_slots region there =
      let w : WindowFields = region_window m.settled region.found in
      let here = live_is_region m is region there in
      slots_told m.settled.nodes m.settled w region.found (live_told region there) here (laws.weave m.settled w region.found is.settled.system here) (laws.ways m.settled w region.found is.settled.system here)

  pub range_told : (reach : Reach) → 1 ≤ reach.len → (region : Live) → live_at m reach.h ≡ Some region → ends_within region.found reach.h reach.len ≡ true
      → Told (replies.Extents record { extents = extents_of region.found (region_window m.settled region.found) reach.h reach.len; endpoints = endpoints_by_slot region.found })
  range_told reach some region at fits =
      let own = holds reach.h region at in
      let w : WindowFields = region_window m.settled region.found in
      let here = live_is_region m is region own.there in
      let all = laws.extents m.settled w region.found reach.h reach.len is.settled.system here (omega arith) own.from (leb-true (reach.h + reach.len) (region.found.base + region.found.size) fits) in
      record {
        slots = region_slots region own.there;
        each = λ k d within.
            let one = all k d within in
            let low = slice_get_within region.found.spans (get_or (extents_of region.found w reach.h reach.len) k d).slot one.place one.there in
            let long = length-map region.found.spans (λ (place : Place). place.endpoint) in
            omega (arith, low, long);
      }

  -- ---- a job that is asked for, and why it is refused

  abbrev ToldThere : Option Reply → Type 0
  ToldThere o = (reply : Reply) → o ≡ Some reply → Told reply

  told_some : (reply other : Reply) → ◌≡◌ {A = Option Reply} (Some reply) (Some other) → Told reply → Told other
  told_some reply other same own = subst Told (same_Some reply other same) own

  -- the first of four
  first_told : (a b c d : Option Reply) → ToldThere a → ToldThere b → ToldThere c → ToldThere d → ToldThere (first_there (a ∷ b ∷ c ∷ d ∷ []))
  first_told (Some r) b c d one two three four reply is = told_some r reply is (one r refl)
  first_told None (Some r) c d one two three four reply is = told_some r reply is (two r refl)
  first_told None None (Some r) d one two three four reply is = told_some r reply is (three r refl)
  first_told None None None (Some r) one two three four reply is = told_some r reply is (four r refl)
  first_told None None None None one two three four reply is = absurd (none-some reply is)

  mapped_told : {X : Type 0} (f : X → Reply) (o : Option X) → ((x : X) → o ≡ Some x → Told (f x)) → ToldThere (option_map f o)
  mapped_told f None each reply is = absurd (none-some reply is)
  mapped_told f (Some x) each reply is = told_some (f x) reply is (each x refl)

  choice_told : (b : Bool) (r : Reply) → Told r → ToldThere (if b then Some r else None)
  choice_told true r own reply is = told_some r reply is own
  choice_told false r own reply is = absurd (none-some reply is)

  create_refusal : (create : Create) → ToldThere (refusal_of_create m create)
  create_refusal create =
      first_told (busy m) (name_taken m create.name) (requests.no_endpoint m create.endpoints) (regions_full m)
      (mapped_told (λ (job : RegionJob). replies.Busy job.region.name) m.job (λ job is. tt)) (mapped_told (λ (region : Live). replies.NameTaken create.name) (live_named m create.name) (λ region is. tt))
      (mapped_told replies.NoEndpoint (first_unknown m.settled.nodes create.endpoints) (λ name is. tt))
      (choice_told (nat_le region_limit (length m.live)) replies.RegionsFull tt)

  spot_told : (name : List ℕ) (first : Found → Option Row) (tell : Row → Reply) → ((row : Row) → IsNode m.settled.nodes row.node → Told (tell row)) → ((found : Found) (row : Row) → first found ≡ Some row → IsNode m.settled.nodes row.node)
      → ToldThere (option_map tell (option_and_then (λ (region : Live). first region.found) (live_named m name)))
  spot_told name first tell each inside = go (live_named m name)
    where
      go : (o : Option Live) → ToldThere (option_map tell (option_and_then (λ (region : Live). first region.found) o))
      go None reply is = absurd (none-some reply is)
      go (Some region) reply is = mapped_told tell (first region.found) (λ row found. each row (inside region.found row found)) reply is

  release_refusal : (name : List ℕ) → ToldThere (refusal_of_release m name)
  release_refusal name =
      first_told (busy m) (no_region m name) (locked m name) (not_last m name)
      (mapped_told (λ (job : RegionJob). replies.Busy job.region.name) m.job (λ job is. tt)) (choice_told (is_none (live_named m name)) (replies.NoRegion name) tt)
      (spot_told name (first_locked m.settled) (λ row. replies.Locked (spot_of row)) (λ row inside. inside)
      (λ found row is. found_has (λ (row : Row). IsNode m.settled.nodes row.node) _ _ row (rows_inside m.settled is_system found) is))
      (spot_told name (first_not_last m.settled) (λ row. replies.NotLast (spot_of row)) (λ row inside. inside)
      (λ found row is. found_has (λ (row : Row). IsNode m.settled.nodes row.node) _ _ row (rows_inside m.settled is_system found) is))
    where
      is_system : IsSystem m.settled
      is_system = is.settled.system

  abbrev ToldRefusal : Result RegionJob Reply → Type 0
  ToldRefusal asked = (refusal : Reply) → asked ≡ Err refusal → Told refusal

  same_err : (reply other : Reply) → ◌≡◌ {A = Result RegionJob Reply} (Err reply) (Err other) → reply ≡ other
  same_err reply other e = cc

  err_told : (reply refusal : Reply) → ◌≡◌ {A = Result RegionJob Reply} (Err reply) (Err refusal) → Told reply → Told refusal
  err_told reply refusal same own = subst Told (same_err reply refusal same) own

  ok_err : {P : Type 0} (job : RegionJob) (refusal : Reply) → ◌≡◌ {A = Result RegionJob Reply} (Ok job) (Err refusal) → P
  ok_err job refusal e = absurd (differ e)
    where
      differ : ◌≡◌ {A = Result RegionJob Reply} (Ok job) (Err refusal) → ⊥
      differ e = cc

  pub release_told : (name : List ℕ) → ToldRefusal (asked_release m name)
  release_told name refusal same = by_refusal (refusal_of_release m name) refl same
    where
      by_job : (o : Option RegionJob) → option_map_or Ok o (Err (replies.NoRegion name)) ≡ Err refusal → Told refusal
      by_job None same = err_told (replies.NoRegion name) refusal same tt
      by_job (Some job) same = ok_err job refusal same

      by_refusal : (o : Option Reply) → refusal_of_release m name ≡ o → job_unless m name o ≡ Err refusal → Told refusal
      by_refusal (Some r) some same = err_told r refusal same (release_refusal name r some)
      by_refusal None none same = by_job (release_named m name) same

  answered_told : (create : Create) (answer : Result Plan Reply) → AsksForPlan m.settled create answer → ToldRefusal (job_of_plan m answer)
  answered_told create (Ok plan) so refusal same = ok_err (create_job m.settled plan) refusal same
  answered_told create (Err own) so refusal same =
      err_told own refusal same (laws.refusal m.settled create own is.settled.system is.settled.ports is.settled.accepted so)

  unless_told : (create : Create) (o : Option Reply) (asked : Result RegionJob Reply) → refusal_of_create m create ≡ o → AsksUnless m create o asked → ToldRefusal asked
  unless_told create (Some r) asked some asks refusal same = err_told r refusal (sym asks ∙ same) (create_refusal create r some)
  unless_told create None asked none asks refusal same = answered_told create asks.0 asks.1 refusal (sym asks.2 ∙ same)

  pub create_told : (create : Create) (asked : Result RegionJob Reply) → AsksCreate m create asked → ToldRefusal asked
  create_told create asked asks = unless_told create (refusal_of_create m create) asked refl asks
