-- On which device bytes a range lies, told by what a session keeps of its region.
use Rattle.std.proofs.Common.{◌≡◌, ℕ, ◌<◌, List, length, Option, Some, Ok, sym, ap, ◌∙◌, subst}
use Rattle.std.specs.Prelude.{slice_get, unwrap_or}
use Rattle.std.proofs.lemmas.Option.{slice_get_within}
use Rattle.cxl_script.specs.declared.command.Reach.{Reach}
use Rattle.cxl_window.specs.Fields.{WindowFields}
use Rattle.cxl_model.specs.declared.extent.Extent.{Extent}
use Rattle.cxl_model.specs.declared.found.Found.{Found}
use Rattle.cxl_model.specs.Regions.{IsRegionIn}
use Rattle.cxl_poison.proofs.Pieced.{WindowsThere}
use Rattle.cxl_range.specs.Extents.{extents_of, spread_of}
use Rattle.cxl_reply.specs.declared.reply.Reply.TheVariants as replies
use Rattle.cxl_machine.specs.Machine.{Live, Machine, absent_window, region_window}
use Rattle.cxl_machine.specs.Sound.{IsMachine}
use Rattle.cxl_machine.specs.Replies.{stays}
use Rattle.cxl_machine.specs.Accesses.{range_answer, spread_answer, endpoints_by_slot}
use Rattle.cxl_machine.proofs.LiveRegions.{live_is_region}
use Rattle.cxl_session.specs.State.{SessionState}
use Rattle.cxl_session.specs.Standing.{StandsFor}
use Rattle.cxl_session.specs.inner.Answering.{IsWithin}
use Rattle.cxl_session.proofs.Within.{holds_live, found_is}

module _ (session : SessionState) (m : Machine) (stands : StandsFor session m) (is : IsMachine m) (reach : Reach) (place : ℕ) (within : IsWithin session m reach.h reach.len (Ok place)) (found : Found)
    (found_there : slice_get session.founds place ≡ Some found) where
  region : Live
  region = within.0

  same : found ≡ region.found
  unfolding region
  same = found_is session m place within.0 within.1 found found_there

  w : WindowFields
  w = region_window m.settled region.found

  here : IsRegionIn m.settled w region.found
  unfolding region w
  here = live_is_region m is within.0 (holds_live m reach.h within.0 within.4)

  pub window_within : WindowsThere → found.window < length session.windows
  window_within law =
      let at : slice_get m.settled.windows region.found.window ≡ Some w = law m.settled w region.found is.settled.system here in
      let low : region.found.window < length m.settled.windows = slice_get_within m.settled.windows region.found.window w at in
      subst (λ (n : ℕ). n < length session.windows) (ap (λ (f : Found). f.window) (sym same)) (subst (λ (ws : List WindowFields). region.found.window < length ws) stands.windows low)

  module _ (window : WindowFields) (window_there : slice_get session.windows found.window ≡ Some window) where
    window_is : window ≡ w
    unfolding w
    window_is =
        sym (ap (λ (ws : List WindowFields). unwrap_or (slice_get ws region.found.window) absent_window) stands.windows
        ∙ ap (λ (f : Found). unwrap_or (slice_get session.windows f.window) absent_window) (sym same)
        ∙ ap (λ (o : Option WindowFields). unwrap_or o absent_window) window_there)

    pub region_there : IsRegionIn m.settled window found
    region_there =
        subst (λ (v : WindowFields). IsRegionIn m.settled v found) (sym window_is) (subst (IsRegionIn m.settled w) (sym same) here)

    pub ranged : (extents : List Extent) (endpoints : List ℕ) → extents ≡ extents_of found window reach.h reach.len → endpoints ≡ endpoints_by_slot found
        → range_answer m reach ≡ stays m (replies.Extents record { extents = extents; endpoints = endpoints })
    unfolding region w
    ranged extents endpoints first second =
        within.3 (λ (r : Live). stays m (replies.Extents record { extents = extents_of r.found (region_window m.settled r.found) reach.h reach.len; endpoints = endpoints_by_slot r.found }))
        ∙ ap (λ (v : WindowFields). stays m (replies.Extents record { extents = extents_of within.0.found v reach.h reach.len; endpoints = endpoints_by_slot within.0.found })) (sym window_is)
        ∙ ap (λ (f : Found). stays m (replies.Extents record { extents = extents_of f window reach.h reach.len; endpoints = endpoints_by_slot f })) (sym same)
        ∙ ap (λ (xs : List Extent). stays m (replies.Extents record { extents = xs; endpoints = endpoints_by_slot found })) (sym first)
        ∙ ap (λ (ns : List ℕ). stays m (replies.Extents record { extents = extents; endpoints = ns })) (sym second)

    pub spreaded : (bytes endpoints : List ℕ) → bytes ≡ spread_of found window reach.h reach.len → endpoints ≡ endpoints_by_slot found
        → spread_answer m reach ≡ stays m (replies.Spread record { bytes = bytes; endpoints = endpoints })
    unfolding region w
    spreaded bytes endpoints first second =
        within.3 (λ (r : Live). stays m (replies.Spread record { bytes = spread_of r.found (region_window m.settled r.found) reach.h reach.len; endpoints = endpoints_by_slot r.found }))
        ∙ ap (λ (v : WindowFields). stays m (replies.Spread record { bytes = spread_of within.0.found v reach.h reach.len; endpoints = endpoints_by_slot within.0.found })) (sym window_is)
        ∙ ap (λ (f : Found). stays m (replies.Spread record { bytes = spread_of f window reach.h reach.len; endpoints = endpoints_by_slot f })) (sym same)
        ∙ ap (λ (xs : List ℕ). stays m (replies.Spread record { bytes = xs; endpoints = endpoints_by_slot found })) (sym first)
        ∙ ap (λ (ns : List ℕ). stays m (replies.Spread record { bytes = bytes; endpoints = ns })) (sym second)
