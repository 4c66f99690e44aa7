-- What a device byte is told, by what a session keeps of the live regions.
use Rattle.std.proofs.Common.{◌≡◌, ℕ, ◌+◌, ◌<◌, ◌≤◌, true, List, length, Option, Some, None, refl, sym, ap, ◌∙◌, subst, inl, inr, arith}
use Rattle.std.specs.Prelude.{slice_get, find, Contains, IfNone}
use Rattle.std.proofs.lemmas.Bool.{cases_lt}
use Rattle.std.proofs.lemmas.Option.{slice_get_within, same_Some}
use Rattle.cxl_enc.proofs.Lists.{item, contains_at}
use Rattle.cxl_deal.specs.Weaves.{WeaveFields}
use Rattle.cxl_regs.specs.declared.decoder.Decoder.{Decoder}
use Rattle.cxl_window.specs.Fields.{WindowFields}
use Rattle.cxl_model.specs.declared.found.Found.{Found}
use Rattle.cxl_model.specs.Bytes.{slot_length, LiesInSpan}
use Rattle.cxl_model.specs.Regions.{Carries}
use Rattle.cxl_model.specs.System.{System, decoders_at}
use Rattle.cxl_model.proofs.ImageLaws.{ShareLaw}
use Rattle.cxl_walk.specs.Keeping.{KeptFields}
use Rattle.cxl_reply.specs.declared.reply.Reply.TheVariants as replies
use Rattle.cxl_machine.specs.Machine.{Live, Machine, has_host, region_window}
use Rattle.cxl_machine.specs.Sound.{IsMachine}
use Rattle.cxl_machine.specs.Accesses.{TellsHost, carried, unmapped}
use Rattle.cxl_machine.proofs.KeepingMachines.{live_there}
use Rattle.cxl_machine.proofs.LiveRegions.{live_is_region}
use Rattle.cxl_machine.proofs.Present.{StaysLaw}
use Rattle.cxl_live.proofs.Hosts.{host_from, host_below, host_within}
use Rattle.cxl_session.specs.State.{SessionState, image_in}
use Rattle.cxl_session.specs.Standing.{StandsFor}
use Rattle.cxl_move.specs.Woven.{IsWovenIn}
use Rattle.cxl_session.specs.inner.Places.{StandsAt, HasNoneOf}
use Rattle.cxl_session.proofs.Apart.{SizeLaw}
use Rattle.cxl_session.proofs.LiveRegions.{StaysSystem}
use Rattle.cxl_session.proofs.Served.{IndexLaw, EndpointLaw, ServesSlot, served, none_passes}
use Rattle.cxl_session.proofs.Places.{as_many, stands_at}
use Rattle.cxl_session.proofs.Within.{found_is, name_is}
use Rattle.cxl_session.proofs.Loads.{woven_at}

-- what is known where there is none
pub if_none : {X : Type 0} (o : Option X) (P Q : Type 0) → (P → Q) → IfNone o P → IfNone o Q
if_none None P Q weaker is = weaker is
if_none (Some x) P Q weaker is = is

-- what has none of a byte: the regions that the first decoders serve
abbrev pub NoneBefore : Machine → List Decoder → ℕ → ℕ → ℕ → Type 0
NoneBefore m decoders endpoint dpa n = (k : ℕ) (d : Decoder) → k < n → slice_get decoders k ≡ Some d → d.committed ≡ true → HasNoneOf m d.base endpoint dpa

module _ (session : SessionState) (m : Machine) (stands : StandsFor session m) where
  -- the region that stands at a place
  pub region_at : (place : ℕ) → place < length session.founds → (region : Live) × (slice_get m.live place ≡ Some region)
  region_at place low = item m.live place (omega (arith, low, as_many session m stands))

  pub woven_there : IsMachine m → (place : ℕ) (found : Found) (kept : KeptFields) (weave : WeaveFields) → slice_get session.founds place ≡ Some found → slice_get session.kept place ≡ Some kept
      → weave ≡ kept.weave → (s : System) × (w : WindowFields) × IsWovenIn s w found weave
  woven_there is place found kept weave found_there kept_there same =
      let (region, there) = region_at place (slice_get_within session.founds place found found_there) in (
        m.settled,
        region_window m.settled region.found,
        woven_at session m is place region (stands_at session m place region stands there) (contains_at m.live place region there) found kept weave found_there kept_there same,
      )

  module _ (endpoint dpa : ℕ) where
    pub none_more : (decoders : List Decoder) (n : ℕ) (own : Decoder) → slice_get decoders n ≡ Some own → (own.committed ≡ true → HasNoneOf m own.base endpoint dpa) → NoneBefore m decoders endpoint dpa n
        → NoneBefore m decoders endpoint dpa (n + 1)
    none_more decoders n own there none before k other below at =
        elim (cases_lt k n) [
          | inl low ↦ before k other low at
          | inr past ↦
              let same : n ≡ k = omega (arith, below, past) in
              let alike : own ≡ other = same_Some own other (sym there ∙ ap (slice_get decoders) same ∙ at) in
              subst (λ (x : Decoder). x.committed ≡ true → HasNoneOf m x.base endpoint dpa) alike none
        ]

    -- all that the endpoint's decoders serve are told
    pub none_there : StaysSystem → StaysLaw → IndexLaw → EndpointLaw → IsMachine m → (decoders : List Decoder) → decoders ≡ decoders_at (image_in session) endpoint → (n : ℕ) → length decoders ≤ n
        → NoneBefore m decoders endpoint dpa n → TellsHost m endpoint dpa replies.Unmapped
    none_there system stays index of is decoders are n long before =
        unmapped (λ region inside lies.
        let own : ServesSlot decoders region.found.base lies.place.start (slot_length region.found) =
        subst (λ (ds : List Decoder). ServesSlot ds region.found.base lies.place.start (slot_length region.found)) (sym are)
        (served session m stands system stays index of is endpoint region inside lies.slot lies.place lies.there lies.here) in
        let low = own.low in
        before own.i own.d (omega (arith, low, long)) own.there own.committed region inside own.same lies) refl

    module _ (share : ShareLaw) (some : SizeLaw) (is : IsMachine m) where
      -- a live region holds its base
      base_held : (region : Live) → Contains m.live region → has_host region.found region.found.base ≡ true
      base_held region inside =
          let w : WindowFields = region_window m.settled region.found in
          let size = some m.settled w region.found is.settled.system (live_is_region m is region inside) in
          host_within region.found region.found.base (omega arith) (omega (arith, size))

      pub none_held : (base : ℕ) → find (λ (r : Live). has_host r.found base) m.live ≡ None → HasNoneOf m base endpoint dpa
      none_held base none region inside same lies =
          none_passes (λ (r : Live). has_host r.found base) m.live region none inside
          (subst (λ (h : ℕ). has_host region.found h ≡ true) same (base_held region inside))

      pub none_carried : (base place : ℕ) (one : Live) (found : Found) → find (λ (r : Live). has_host r.found base) m.live ≡ Some one → StandsAt session m place one → slice_get session.founds place ≡ Some found
          → (LiesInSpan found endpoint dpa → ⊥) → HasNoneOf m base endpoint dpa
      none_carried base place one found finds at found_there fails region inside same lies =
          let inside_too = (live_there m (λ (r : Live). has_host r.found base) one finds).0 in
          let holds = (live_there m (λ (r : Live). has_host r.found base) one finds).1 in
          let mine : has_host region.found base ≡ true = subst (λ (h : ℕ). has_host region.found h ≡ true) same (base_held region inside) in
          let alike : region.found ≡ one.found =
          share m.settled (region_window m.settled region.found) (region_window m.settled one.found) region.found one.found base is.settled.system (live_is_region m is region inside) (live_is_region m is one inside_too)
          (host_from region.found base mine) (host_below region.found base mine) (host_from one.found base holds) (host_below one.found base holds) in
          fails (subst (λ (f : Found). LiesInSpan f endpoint dpa) (alike ∙ sym (found_is session m place one at found found_there)) lies)

    pub told_there : IsMachine m → (place : ℕ) (found : Found) (kept : KeptFields) (weave : WeaveFields) (h : ℕ) (name : List ℕ) → slice_get session.founds place ≡ Some found → slice_get session.kept place ≡ Some kept
        → weave ≡ kept.weave → slice_get session.names place ≡ Some name → ((s : System) (w : WindowFields) → IsWovenIn s w found weave → Carries found w h endpoint dpa)
        → TellsHost m endpoint dpa (replies.Up record { h = h; name = name })
    told_there is place found kept weave h name found_there kept_there same name_there carries =
        let (region, there) = region_at place (slice_get_within session.founds place found found_there) in
        let at : StandsAt session m place region = stands_at session m place region stands there in
        let inside : Contains m.live region = contains_at m.live place region there in
        let w : WindowFields = region_window m.settled region.found in
        let own = carries m.settled w (woven_at session m is place region at inside found kept weave found_there kept_there same) in
        let here : Carries region.found w h endpoint dpa = subst (λ (f : Found). Carries f w h endpoint dpa) (found_is session m place region at found found_there) own in
        carried region h inside here (ap (λ (xs : List ℕ). replies.Up record { h = h; name = xs }) (name_is session m place region at name name_there))
