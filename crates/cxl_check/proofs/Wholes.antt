-- The region of a range, as it is made slot by slot.
use Rattle.std.proofs.Common.{◌≡◌, ℕ, zero, suc, ◌+◌, ◌<◌, List, [], ◌∷◌, ◌++◌, length, Option, Some, None, refl, sym, ap, subst, ◌∙◌, arith}
use Rattle.std.specs.Prelude.{slice_get, IsSome}
use Rattle.std.specs.Borrow.{Bor}
use Rattle.std.specs.Option.{option_copied}
use Rattle.std.proofs.lemmas.Option.{none-some, same_Some}
use Rattle.std.proofs.lemmas.List.{length-append}
use Rattle.cxl_enc.proofs.Lists.{item}
use Rattle.cxl_regs.specs.declared.reading.Range.{Range}
use Rattle.cxl_window.specs.Fields.{WindowFields}
use Rattle.cxl_model.specs.declared.found.Found.{Found}
use Rattle.cxl_model.specs.declared.found.Place.{Place}
use Rattle.cxl_model.specs.System.{System, IsSystem}
use Rattle.cxl_model.specs.Ranges.{IsCommittedRange, window_for, range_ways}
use Rattle.cxl_model.specs.Accepted.{IsWhole}
use Rattle.cxl_model.specs.Regions.{region_range, HasSpan, IsRegionIn}
use Rattle.cxl_check.specs.inner.Listing.{AreSpans}

-- the item at a place of a list with one more
pushed_at : {X : Type 0} (xs : List X) (x : X) (k : ℕ) (y : X) → slice_get (xs ++ x ∷ []) k ≡ Some y → (P : ℕ → X → Type 0)
    → ((j : ℕ) (z : X) → slice_get xs j ≡ Some z → P j z) → P (length xs) x → P k y
pushed_at [] x zero y is P each last = subst (P 0) (same_Some x y is) last
pushed_at [] x (suc k) y is P each last = absurd (none-some y is)
pushed_at (z ∷ xs) x zero y is P each last = each 0 y is
pushed_at (z ∷ xs) x (suc k) y is P each last = pushed_at xs x k y is (λ j. P (suc j)) (λ j v at. each (suc j) v at) last

pub no_spans : (s : System) (w : WindowFields) (r : Range) → AreSpans s w r 0 []
no_spans s w r = record { count = refl; each = λ slot place is. absurd (none-some place is) }

pub one_more_span : (s : System) (w : WindowFields) (r : Range) (n : ℕ) (spans : List Place) (place : Place) → AreSpans s w r n spans → HasSpan s w r n place → AreSpans s w r (n + 1) (spans ++ place ∷ [])
one_more_span s w r n spans place known span = record {
  count = omega (arith, length-append spans (place ∷ []), known.count);
  each = λ slot other is. pushed_at spans place slot other is (HasSpan s w r) known.each (subst (λ (m : ℕ). HasSpan s w r m place) (sym known.count) span);
}

-- what the region that there is gives
pub record Gives (s : System) (r : Range) (w : WindowFields) : Type 0 where
  pub window : window_for s r ≡ Some w
  pub spans : (slot : ℕ) → slot < range_ways s r → (place : Place) × HasSpan s w r slot place

gives_at : (s : System) (w : WindowFields) (found : Found) → IsRegionIn s w found → Gives s (region_range found) w
gives_at s w found region = record {
  window = region.window;
  spans = λ slot below. let place = item found.spans slot (omega (arith, region.slots, region.ways)) in (place.0, region.spans slot place.0 place.1);
}

pub gives : (s : System) (r : Range) (w : WindowFields) (found : Found) → IsRegionIn s w found → region_range found ≡ r → Gives s r w
gives s r w found region same = subst (λ (q : Range). Gives s q w) same (gives_at s w found region)

-- ---- the window that is found

-- each committed range that is whole has a region
abbrev pub HaveRegions : Type 0
HaveRegions = (s : System) (r : Range) → IsSystem s → IsCommittedRange s r → IsWhole s r → (w : WindowFields) × (found : Found) × IsRegionIn s w found × (region_range found ≡ r)

module _ (law : HaveRegions) (s : System) (r : Range) (system : IsSystem s) (committed : IsCommittedRange s r) (whole : IsWhole s r) where
  window_is : (w : WindowFields) × Gives s r w
  window_is = let one = law s r system committed whole in (one.0, gives s r one.0 one.1 one.2 one.3)

  pub some_window : (o : Option (Bor WindowFields)) → option_copied o ≡ window_for s r → IsSome o
  some_window None is = absurd (none-some window_is.0 (is ∙ window_is.1.window))
  some_window (Some b) is = refl

  pub gives_here : (o : Option (Bor WindowFields)) (b : Bor WindowFields) → option_copied o ≡ window_for s r → o ≡ Some b → Gives s r b.now
  gives_here o b is at =
      let same : window_is.0 ≡ b.now = same_Some window_is.0 b.now (sym (ap option_copied (sym at) ∙ is ∙ window_is.1.window)) in
      subst (λ (w : WindowFields). Gives s r w) same window_is.1
