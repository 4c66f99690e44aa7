-- No live region of a machine holds the base of another.
use Rattle.std.proofs.Common.{◌≡◌, ◌≢◌, ◌<◌, false, List, map, inl, inr, sym, subst, arith}
use Rattle.std.specs.Prelude.{All, AllPairs}
use Rattle.std.proofs.lemmas.Bool.{cases_Bool}
use Rattle.std.proofs.lemmas.List.{map-append}
use Rattle.cxl_window.specs.Fields.{WindowFields}
use Rattle.cxl_model.specs.declared.found.Found.{Found}
use Rattle.cxl_model.specs.Regions.{IsRegion, IsRegionIn}
use Rattle.cxl_model.specs.System.{System, IsSystem}
use Rattle.cxl_model.proofs.ImageLaws.{ShareLaw}
use Rattle.cxl_machine.specs.Machine.{Live, Machine, has_host, under_release, kept_regions}
use Rattle.cxl_machine.specs.Sound.{IsMachine}
use Rattle.cxl_machine.proofs.KeepingOrder.{pairs_front}
use Rattle.cxl_live.specs.Apart.{LieApart}
use Rattle.cxl_live.proofs.Hosts.{host_from, host_below}
use Rattle.cxl_session.specs.State.{SessionState}
use Rattle.cxl_session.specs.Standing.{StandsFor}

-- each holds some byte
abbrev pub SizeLaw : Type 0
SizeLaw = (s : System) (w : WindowFields) (found : Found) → IsSystem s → IsRegionIn s w found → 0 < found.size

module _ (share : ShareLaw) (some : SizeLaw) where
  base_alone : (s : System) → IsSystem s → (found other : Found) → IsRegion s found → IsRegion s other → found ≢ other → has_host found other.base ≡ false
  base_alone s system found other (w, region) (v, second) differs =
      elim (cases_Bool (has_host found other.base)) [
        | inl holds ↦
            let size = some s v other system second in
            absurd (differs (share s w v found other other.base system region second (host_from found other.base holds) (host_below found other.base holds) (omega arith) (omega (arith, size))))
        | inr misses ↦ misses
      ]

  regions_apart : (s : System) → IsSystem s → (founds : List Found) → All (IsRegion s) founds → AllPairs (λ (found other : Found). found ≢ other) founds → LieApart founds
  regions_apart s system founds each once i j d less within =
      let first = each i d (omega (arith, less, within)) in
      let second = each j d within in
      let differs = once i j d less within in
      (base_alone s system _ _ first second differs, base_alone s system _ _ second first (λ same. differs (sym same)))

  pub live_apart : (session : SessionState) (m : Machine) → StandsFor session m → IsMachine m → LieApart session.founds
  live_apart session m stands is =
      let found_of = λ (region : Live). region.found in
      let all = regions_apart m.settled is.settled.system (map found_of (kept_regions m)) is.regions.all.each is.regions.all.once in
      subst LieApart (sym stands.founds)
      (pairs_front (λ (found other : Found). (has_host found other.base ≡ false) × (has_host other found.base ≡ false)) (map found_of m.live) (map found_of (under_release m.job))
      (subst LieApart (map-append found_of m.live (under_release m.job)) all))
