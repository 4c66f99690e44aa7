-- A machine stays one where a job begins.
use Rattle.std.proofs.Common.{◌≡◌, ◌≢◌, ℕ, ◌+◌, ◌<◌, List, [], ◌∷◌, ◌++◌, length, reverse, Result, Ok, Err, Option, Some, None, refl, sym, ap, ◌∙◌, subst, arith, ◌≤◌}
use Rattle.std.specs.Prelude.{All, remove, slice_get, option_map, option_and_then, sum_by}
use Rattle.std.specs.Option.{option_map_or}
use Rattle.std.specs.List.{flat_map, position_or_len}
use Rattle.std.specs.Str.{bytes_eq}
use Rattle.std.proofs.lemmas.List.{length-append, length-map, length-reverse, append-nil}
use Rattle.std.proofs.lemmas.List.Edits.{length-remove}
use Rattle.std.proofs.lemmas.List.Folds.{find_at}
use Rattle.std.proofs.lemmas.List.Sorted.{IsPermutation-refl, sum_by-IsPermutation}
use Rattle.std.proofs.lemmas.Option.{none-some, same_Some, cond_some, slice_get_within, get_or_from_slice_get}
use Rattle.cxl_enc.proofs.Lists.{contains_at}
use Rattle.cxl_model.specs.declared.found.Found.{Found}
use Rattle.cxl_model.specs.declared.plan.Plan.{Plan}
use Rattle.cxl_model.specs.declared.plan.Row.{Row}
use Rattle.cxl_model.specs.declared.request.Request.{Request}
use Rattle.cxl_model.specs.Plans.{IsLegalPlan}
use Rattle.cxl_model.specs.Ranges.{IsCommittedRange}
use Rattle.cxl_model.specs.Regions.{region_range}
use Rattle.cxl_model.specs.System.{System, IsSystem}
use Rattle.cxl_apply.specs.Jobs.{row_writes, release_write}
use Rattle.cxl_apply.specs.Releases.{rows_of, first_locked, first_not_last}
use Rattle.cxl_reply.specs.declared.reply.Reply.{Reply}
use Rattle.cxl_reply.specs.declared.reply.Reply.TheVariants as replies
use Rattle.cxl_machine.specs.Machine.{Live, RegionJob, Machine, under_release, live_named, place_named}
use Rattle.cxl_model.specs.Listed.{region_limit}
use Rattle.cxl_legal.specs.Firsts.{first_there}
use Rattle.cxl_machine.specs.Jobs.{create_job, release_job, begun}
use Rattle.cxl_machine.specs.Requests.{busy, no_region, locked, not_last, spot_of, refusal_of_release, release_at, release_named, job_unless, asked_release}
use Rattle.cxl_machine.specs.Sound.{IsMachine, AreKept}
use Rattle.cxl_machine.proofs.KeepingOrder.{put_last}
use Rattle.cxl_machine.proofs.KeepingRegions.{kept_again, kept_alone, kept_beside}
use Rattle.cxl_machine.proofs.LiveRegions.{live_is_region}
use Rattle.cxl_machine.specs.Copies.{pieces_of}

-- ---- no job pending

pub none_of_map : {A B : Type 0} (f : A → B) (o : Option A) → option_map f o ≡ None → o ≡ None
none_of_map f None is = refl
none_of_map f (Some x) is = absurd (none-some (f x) (sym is))

pub idle : (m : Machine) → busy m ≡ None → m.job ≡ None
idle m is = none_of_map (λ (job : RegionJob). replies.Busy job.region.name) m.job is

-- the regions that a machine keeps without a job are the live ones
pub live_kept : (m : Machine) → IsMachine m → m.job ≡ None → AreKept m m.live
live_kept m is none = kept_alone m m.live (subst (λ (o : Option RegionJob). AreKept m (m.live ++ under_release o)) none is.regions)

-- and their pieces have frames
pub live_held : (m : Machine) → IsMachine m → m.job ≡ None → sum_by pieces_of (m.live ++ []) ≤ m.frames
live_held m is none = subst (λ (o : Option RegionJob). sum_by pieces_of (m.live ++ under_release o) ≤ m.frames) none is.held

-- ---- no refusal

pub none_there : (a b c d : Option Reply) → first_there (a ∷ b ∷ c ∷ d ∷ []) ≡ None → (a ≡ None) × (b ≡ None) × (c ≡ None) × (d ≡ None)
none_there None None None None is = (refl, refl, refl, refl)
none_there (Some r) b c d is = absurd (none-some r (sym is))
none_there None (Some r) c d is = absurd (none-some r (sym is))
none_there None None (Some r) d is = absurd (none-some r (sym is))
none_there None None None (Some r) is = absurd (none-some r (sym is))

-- ---- a create

-- a row has writes
row_has_writes : (s : System) (row : Row) → 0 < length (row_writes s.blocks row)
row_has_writes s row = omega arith

some_writes : (s : System) (rows : List Row) → 0 < length rows → 0 < length (flat_map (row_writes s.blocks) rows)
some_writes s [] some = absurd (omega arith)
some_writes s (row ∷ rest) some =
    let own = row_has_writes s row in
    omega (arith, own, length-append (row_writes s.blocks row) (flat_map (row_writes s.blocks) rest))

-- a legal plan has rows
abbrev pub PlanRowsLaw : Type 0
PlanRowsLaw = (s : System) (request : Request) (plan : Plan) → IsLegalPlan s request plan → 0 < length plan.rows

pub create_begins : PlanRowsLaw → (m : Machine) (request : Request) (plan : Plan) → IsMachine m → m.job ≡ None → IsLegalPlan m.settled request plan → All (λ (region : Live). region.name ≢ plan.name) m.live
    → length m.live < region_limit → IsMachine (begun (create_job m.settled plan) m)
create_begins law m request plan is none legal unnamed room = record {
  settled = is.settled;
  regions = kept_beside (begun (create_job m.settled plan) m) m.live
      (kept_again m (begun (create_job m.settled plan) m) m.live m.live refl (IsPermutation-refl m.live) (live_kept m is none));
  job = record {
    kind = record { plan = plan; request = request; legal = legal; made = refl; unnamed = unnamed; room = room };
    part = some_writes m.settled (reverse plan.rows) (let some = law m.settled request plan legal in omega (arith, some, length-reverse plan.rows));
  };
  frames = is.frames;
  held = live_held m is none;
}

-- ---- a release

-- a committed range has rows
abbrev pub RangeRowsLaw : Type 0
RangeRowsLaw = (s : System) (found : Found) → IsSystem s → IsCommittedRange s (region_range found) → 0 < length (rows_of s found)

pub release_begins : RangeRowsLaw → (m : Machine) (place : ℕ) (region : Live) → IsMachine m → m.job ≡ None → slice_get m.live place ≡ Some region → first_locked m.settled region.found ≡ None
    → first_not_last m.settled region.found ≡ None → IsMachine (begun (release_job m.settled place region) m)
release_begins law m place region is none at unlocked last =
    let within : place < length m.live = slice_get_within m.live place region at in
    let left : length (remove m.live place) + 1 ≡ length m.live = length-remove m.live place within in
    let own = live_is_region m is region (contains_at m.live place region at) in
    let some : 0 < length (rows_of m.settled region.found) = law m.settled region.found is.settled.system own.committed in
    record {
      settled = is.settled;
      regions = kept_again m (begun (release_job m.settled place region) m) m.live (remove m.live place ++ region ∷ []) refl
          (put_last m.live region place within (get_or_from_slice_get m.live place region region at)) (live_kept m is none);
      job = record {
        kind = record { made = refl; unlocked = unlocked; last = last; there = omega arith };
        part = omega (arith, some, length-map (rows_of m.settled region.found) release_write);
      };
      frames = is.frames;
      held =
          let held : sum_by pieces_of m.live ≤ m.frames = subst (λ (rs : List Live). sum_by pieces_of rs ≤ m.frames) (append-nil m.live) (live_held m is none) in
          let same = sum_by-IsPermutation pieces_of m.live (remove m.live place ++ region ∷ []) (put_last m.live region place within (get_or_from_slice_get m.live place region region at)) in
          omega (arith, held, same);
    }

-- what a release that is asked for is
pub record Asked (m : Machine) (name : List ℕ) (job : RegionJob) : Type 0 where
  pub idle : m.job ≡ None
  pub place : ℕ
  pub region : Live
  pub at : slice_get m.live place ≡ Some region
  pub unlocked : first_locked m.settled region.found ≡ None
  pub last : first_not_last m.settled region.found ≡ None
  pub made : job ≡ release_job m.settled place region

-- the job at a place is the release of the region there
record AtPlace (m : Machine) (place : ℕ) (job : RegionJob) : Type 0 where
  region : Live
  at : slice_get m.live place ≡ Some region
  made : job ≡ release_job m.settled place region

at_place : (m : Machine) (place : ℕ) (job : RegionJob) (o : Option Live) → slice_get m.live place ≡ o → option_map (release_job m.settled place) o ≡ Some job → AtPlace m place job
at_place m place job None at is = absurd (none-some job is)
at_place m place job (Some region) at is = record { region = region; at = at; made = sym (same_Some (release_job m.settled place region) job is) }

-- the live region of a name is the one at the name's place
named_at : (m : Machine) (name : List ℕ) (place : ℕ) (region : Live) → place_named m name ≡ Some place → slice_get m.live place ≡ Some region → live_named m name ≡ Some region
named_at m name place region is at =
    let p = λ (r : Live). bytes_eq r.name name in
    let first = cond_some _ (position_or_len p m.live) place is in
    find_at p m.live ∙ ap (slice_get m.live) first.1 ∙ at

module _ (m : Machine) (name : List ℕ) (job : RegionJob) where
  by_place : (o : Option ℕ) → place_named m name ≡ o → option_and_then (release_at m) o ≡ Some job → m.job ≡ None → locked m name ≡ None → not_last m name ≡ None → Asked m name job
  by_place None none is idle free top = absurd (none-some job is)
  by_place (Some place) some is idle free top =
      let own = at_place m place job (slice_get m.live place) refl is in
      let named : live_named m name ≡ Some own.region = named_at m name place own.region some own.at in
      record {
        idle = idle;
        place = place;
        region = own.region;
        at = own.at;
        unlocked = none_of_map (λ (row : Row). replies.Locked (spot_of row)) (first_locked m.settled own.region.found)
            (sym (ap (λ (o : Option Live). option_map (λ (row : Row). replies.Locked (spot_of row)) (option_and_then (λ (region : Live). first_locked m.settled region.found) o)) named) ∙ free);
        last = none_of_map (λ (row : Row). replies.NotLast (spot_of row)) (first_not_last m.settled own.region.found)
            (sym (ap (λ (o : Option Live). option_map (λ (row : Row). replies.NotLast (spot_of row)) (option_and_then (λ (region : Live). first_not_last m.settled region.found) o)) named) ∙ top);
        made = own.made;
      }

  by_job : (o : Option RegionJob) → release_named m name ≡ o → option_map_or Ok o (Err (replies.NoRegion name)) ≡ Ok job → release_named m name ≡ Some job
  by_job None none is = absurd (differ is)
    where
      differ : ◌≡◌ {A = Result RegionJob Reply} (Err (replies.NoRegion name)) (Ok job) → ⊥
      differ e = cc
  by_job (Some made) some is = some ∙ ap Some (same_ok is)
    where
      same_ok : ◌≡◌ {A = Result RegionJob Reply} (Ok made) (Ok job) → made ≡ job
      same_ok e = cc

  by_refusal : (o : Option Reply) → refusal_of_release m name ≡ o → job_unless m name o ≡ Ok job → Asked m name job
  by_refusal (Some refusal) some is = absurd (differ is)
    where
      differ : ◌≡◌ {A = Result RegionJob Reply} (Err refusal) (Ok job) → ⊥
      differ e = cc
  by_refusal None none is =
      let parts = none_there (busy m) (no_region m name) (locked m name) (not_last m name) none in
      by_place (place_named m name) refl (by_job (release_named m name) refl is) (idle m parts.0) parts.2 parts.3

  pub asked_is : asked_release m name ≡ Ok job → Asked m name job
  asked_is is = by_refusal (refusal_of_release m name) refl is

pub asked_begins : RangeRowsLaw → (m : Machine) (name : List ℕ) (job : RegionJob) → IsMachine m → asked_release m name ≡ Ok job → IsMachine (begun job m)
asked_begins law m name job is asks =
    let asked = asked_is m name job asks in
    subst (λ (j : RegionJob). IsMachine (begun j m)) (sym asked.made)
    (release_begins law m asked.place asked.region is asked.idle asked.at asked.unlocked asked.last)
