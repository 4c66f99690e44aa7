-- The live regions of a machine are regions of its settled image, each once.
use Rattle.std.proofs.Common.{◌≡◌, ◌≢◌, ℕ, ◌<◌, List, ◌++◌, map, length, get_or, Option, refl, sym, ap, ◌∙◌, subst, arith, inl, inr}
use Rattle.std.specs.Prelude.{unwrap_or, All, AllPairs, Contains}
use Rattle.std.proofs.lemmas.Bool.{cases_lt}
use Rattle.std.proofs.lemmas.List.{get_or-map, get_or_append_left, get_or_default, length-map, length-append, map-append}
use Rattle.cxl_window.specs.Fields.{WindowFields}
use Rattle.cxl_model.specs.declared.found.Found.{Found}
use Rattle.cxl_model.specs.System.{System, IsSystem}
use Rattle.cxl_model.specs.Regions.{IsRegion, IsRegionIn}
use Rattle.cxl_model.proofs.RegionsInWindows.{window_there as window_at}
use Rattle.cxl_poison.specs.Live.{AreLive}
use Rattle.cxl_machine.specs.Machine.{Live, Machine, absent_window, region_window, kept_regions, under_release}
use Rattle.cxl_machine.specs.Reports.{live_regions}
use Rattle.cxl_machine.specs.Sound.{IsMachine}

-- the region lies in the window of its number
pub window_there : (s : System) (w : WindowFields) (found : Found) → IsSystem s → IsRegionIn s w found → region_window s found ≡ w
window_there s w found system is = ap (λ (o : Option WindowFields). unwrap_or o absent_window) (window_at s w found system is)

-- the found at a place of those kept is that of the live region there
found_at : (m : Machine) (region : Live) (k : ℕ) (d : Found) → k < length m.live → get_or m.live k region ≡ region
    → get_or (map (λ (r : Live). r.found) (kept_regions m)) k d ≡ region.found
found_at m region k d below read =
    let inside : k < length (kept_regions m) = omega (arith, length-append m.live (under_release m.job)) in
    get_or-map (λ (r : Live). r.found) (kept_regions m) k region d inside
    ∙ ap (λ (r : Live). r.found) (get_or_append_left m.live (under_release m.job) region k below ∙ read)

kept_below : (m : Machine) (k : ℕ) → k < length m.live → k < length (map (λ (r : Live). r.found) (kept_regions m))
kept_below m k below =
    omega (arith, length-map (kept_regions m) (λ (r : Live). r.found), length-append m.live (under_release m.job))

pub live_is_region : (m : Machine) → IsMachine m → (region : Live) → Contains m.live region → IsRegionIn m.settled (region_window m.settled region.found) region.found
live_is_region m is region (k, below, read) =
    let own : IsRegion m.settled region.found =
    subst (IsRegion m.settled) (found_at m region k region.found below read) (is.regions.all.each k region.found (kept_below m k below)) in
    subst (λ (w : WindowFields). IsRegionIn m.settled w region.found) (sym (window_there m.settled own.0 region.found is.settled.system own.1)) own.1

-- two live regions with the same spans stand at one place
same_place : (m : Machine) → IsMachine m → (i j : ℕ) (region other : Live) → i < j → j < length m.live → get_or m.live i region ≡ region
    → get_or m.live j other ≡ other → region.found ≡ other.found → ⊥
same_place m is i j region other before below one two same =
    is.regions.all.once i j region.found before (kept_below m j below)
    (found_at m region i region.found (omega arith) one ∙ same ∙ sym (found_at m other j region.found below two))

pub same_live : (m : Machine) → IsMachine m → (region other : Live) → Contains m.live region → Contains m.live other → region.found ≡ other.found → region ≡ other
same_live m is region other (i, low, one) (j, high, two) same =
    elim (cases_lt i j) [
      | inl before ↦ absurd (same_place m is i j region other before high one two same)
      | inr past ↦
          elim (cases_lt j i) [
            | inl behind ↦ absurd (same_place m is j i other region behind low two one (sym same))
            | inr upto ↦
                let here : i ≡ j = omega arith in
                sym one ∙ get_or_default m.live i region other low ∙ ap (λ (n : ℕ). get_or m.live n other) here ∙ two
          ]
    ]

-- they are live regions of one image over the machine's windows
module _ (m : Machine) (is : IsMachine m) where
  released : List Found
  released = map (λ (region : Live). region.found) (under_release m.job)

  kept : map (λ (region : Live). region.found) (kept_regions m) ≡ live_regions m ++ released
  unfolding released
  kept = map-append (λ (region : Live). region.found) m.live (under_release m.job)

  further : (k : ℕ) → k < length (live_regions m) → k < length (live_regions m ++ released)
  further k within = omega (arith, within, length-append (live_regions m) released)

  same : (k : ℕ) (d : Found) → k < length (live_regions m) → get_or (live_regions m ++ released) k d ≡ get_or (live_regions m) k d
  same k d within = get_or_append_left (live_regions m) released d k within

  pub are_live : AreLive m.settled.windows (live_regions m)
  are_live =
      let each : All (IsRegion m.settled) (live_regions m ++ released) = subst (All (IsRegion m.settled)) kept is.regions.all.each in
      let once : AllPairs (λ a b. a ≢ b) (live_regions m ++ released) = subst (AllPairs (λ (a b : Found). a ≢ b)) kept is.regions.all.once in
      record {
        s = m.settled;
        system = is.settled.system;
        windows_of = refl;
        each = λ k d within. subst (IsRegion m.settled) (same k d within) (each k d (further k within));
        once = λ i j d less within one. once i j d less (further j within) (same i d (omega (arith, less, within)) ∙ one ∙ sym (same j d within));
      }
