-- What a session keeps of the live region that holds so many host bytes.
use Rattle.std.proofs.Common.{◌≡◌, ℕ, ◌<◌, Bool, true, false, List, length, Option, Some, None, Ok, Err, refl, sym, ap, ◌∙◌, subst}
use Rattle.std.specs.Prelude.{slice_get, IsSomeAnd, Contains, if◌then◌else◌}
use Rattle.std.specs.Option.{option_map_or}
use Rattle.std.proofs.lemmas.Bool.{false≢true}
use Rattle.std.proofs.lemmas.Option.{same_Some, slice_get_within}
use Rattle.cxl_model.specs.declared.found.Found.{Found}
use Rattle.cxl_walk.specs.Keeping.{KeptFields}
use Rattle.cxl_reply.specs.declared.reply.Reply.TheVariants as replies
use Rattle.cxl_machine.specs.Machine.{Live, Machine, has_host, live_at}
use Rattle.cxl_machine.specs.Replies.{Answer, stays, ends_within, within_region, is_refusal}
use Rattle.cxl_machine.proofs.KeepingMachines.{live_there}
use Rattle.cxl_session.specs.State.{SessionState}
use Rattle.cxl_session.specs.Standing.{IsKeptIn}
use Rattle.cxl_session.specs.inner.Places.{StandsAt, HoldsAt}
use Rattle.cxl_session.specs.inner.Answering.{IsWithin}

-- ---- a region that holds an address

pub holds_host : (m : Machine) (h : ℕ) (region : Live) → live_at m h ≡ Some region → has_host region.found h ≡ true
holds_host m h region at = (live_there m (λ (r : Live). has_host r.found h) region at).1

pub holds_live : (m : Machine) (h : ℕ) (region : Live) → live_at m h ≡ Some region → Contains m.live region
holds_live m h region at = (live_there m (λ (r : Live). has_host r.found h) region at).0

-- ---- what is kept at its place

module _ (session : SessionState) (m : Machine) (place : ℕ) (region : Live) (at : StandsAt session m place region) where
  pub name_within : place < length session.names
  name_within = slice_get_within session.names place region.name at.name

  pub found_within : place < length session.founds
  found_within = slice_get_within session.founds place region.found at.found

  pub found_is : (found : Found) → slice_get session.founds place ≡ Some found → found ≡ region.found
  found_is found there = same_Some found region.found (sym there ∙ at.found)

  pub name_is : (name : List ℕ) → slice_get session.names place ≡ Some name → name ≡ region.name
  name_is name there = same_Some name region.name (sym there ∙ at.name)

  pub kept_is : (kept : KeptFields) → slice_get session.kept place ≡ Some kept → IsKeptIn m.settled region.found kept
  kept_is kept there = subst (λ (o : Option KeptFields). IsSomeAnd o (IsKeptIn m.settled region.found)) there at.kept

  pub kept_within : place < length session.kept
  kept_within = go (slice_get session.kept place) refl at.kept
    where
      go : (o : Option KeptFields) → slice_get session.kept place ≡ o → IsSomeAnd o (IsKeptIn m.settled region.found) → place < length session.kept
      go None there kept = elim kept [ ]
      go (Some kept) there is = slice_get_within session.kept place kept there

-- ---- so many bytes

module _ (session : SessionState) (m : Machine) (h len : ℕ) where
  pub unheld : HoldsAt session m h None → IsWithin session m h len (Err replies.Unmapped)
  unheld none = λ answer. ap (λ (o : Option Live). option_map_or (λ (region : Live). if ends_within region.found h len then answer region else stays m replies.CrossesEnd) o (stays m replies.Unmapped)) none

  module _ (place : ℕ) (holds : HoldsAt session m h (Some place)) where
    answered : (b : Bool) → ends_within holds.0.found h len ≡ b → (answer : Live → Answer) → within_region m h len answer ≡ (if b then answer holds.0 else stays m replies.CrossesEnd)
    answered b is answer =
        ap (λ (o : Option Live). option_map_or (λ (region : Live). if ends_within region.found h len then answer region else stays m replies.CrossesEnd) o (stays m replies.Unmapped)) holds.1
        ∙ ap (λ (c : Bool). if c then answer holds.0 else stays m replies.CrossesEnd) is

    pub within_is : ends_within holds.0.found h len ≡ true → IsWithin session m h len (Ok place)
    within_is fits = (holds.0, holds.2, fits, answered true fits, holds.1)

    crosses_is : ends_within holds.0.found h len ≡ false → IsWithin session m h len (Err replies.CrossesEnd)
    crosses_is past = answered false past

    -- ---- by the region that is kept

    module _ (found : Found) (there : slice_get session.founds place ≡ Some found) where
      pub found_holds : has_host found h ≡ true
      found_holds =
          subst (λ (f : Found). has_host f h ≡ true) (sym (found_is session m place holds.0 holds.2 found there)) (holds_host m h holds.0 holds.1)

      pub within_by : ends_within found h len ≡ true → IsWithin session m h len (Ok place)
      within_by fits = within_is (subst (λ (f : Found). ends_within f h len ≡ true) (found_is session m place holds.0 holds.2 found there) fits)

      pub crosses_by : ends_within found h len ≡ false → IsWithin session m h len (Err replies.CrossesEnd)
      crosses_by past = crosses_is (subst (λ (f : Found). ends_within f h len ≡ false) (found_is session m place holds.0 holds.2 found there) past)

-- an access within a region is not refused, where the region's answer is none
pub within_unrefused : (session : SessionState) (m : Machine) (h len place : ℕ) (within : IsWithin session m h len (Ok place)) (answer : Live → Answer)
    → is_refusal (answer within.0).reply ≡ false → is_refusal (within_region m h len answer).reply ≡ true → ⊥
within_unrefused session m h len place within answer plain refused =
    false≢true (sym plain ∙ ap (λ (a : Answer). is_refusal a.reply) (sym (within.3 answer)) ∙ refused)
