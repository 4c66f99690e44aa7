-- A device byte is told one host address at the most.
use Rattle.std.proofs.Common.{◌≡◌, ℕ, sym, ap, ◌∙◌, subst}
use Rattle.std.specs.Prelude.{Contains}
use Rattle.cxl_window.specs.Fields.{WindowFields}
use Rattle.cxl_model.specs.declared.found.Found.{Found}
use Rattle.cxl_model.specs.System.{System, IsSystem}
use Rattle.cxl_model.specs.Bytes.{LiesInSpan}
use Rattle.cxl_model.specs.Regions.{IsRegionIn, Carries}
use Rattle.cxl_reply.specs.declared.reply.Reply.{Reply}
use Rattle.cxl_reply.specs.declared.reply.Reply.TheVariants as replies
use Rattle.cxl_machine.specs.Machine.{Live, Machine, region_window}
use Rattle.cxl_machine.specs.Accesses.{TellsHost, carried, unmapped}
use Rattle.cxl_machine.specs.Sound.{IsMachine}
use Rattle.cxl_machine.proofs.LiveRegions.{live_is_region, same_live}

-- what is known of the regions of an image
pub record CarriageLaws : Type 0 where
  pub apart : (s : System) (w : WindowFields) (found : Found) (h other endpoint dpa : ℕ) → IsSystem s → IsRegionIn s w found → Carries found w h endpoint dpa → Carries found w other endpoint dpa → h ≡ other
  pub inside : (s : System) (w : WindowFields) (found : Found) (h endpoint dpa : ℕ) → IsSystem s → IsRegionIn s w found → Carries found w h endpoint dpa → LiesInSpan found endpoint dpa
  pub shared : (s : System) (w v : WindowFields) (found other : Found) (endpoint dpa : ℕ) → IsSystem s → IsRegionIn s w found → IsRegionIn s v other → LiesInSpan found endpoint dpa → LiesInSpan other endpoint dpa → found ≡ other

module _ (laws : CarriageLaws) (m : Machine) (is : IsMachine m) where
  lies : (region : Live) (h endpoint dpa : ℕ) → Contains m.live region → Carries region.found (region_window m.settled region.found) h endpoint dpa → LiesInSpan region.found endpoint dpa
  lies region h endpoint dpa there carries =
      laws.inside m.settled _ region.found h endpoint dpa is.settled.system (live_is_region m is region there) carries

  one_host : (region other : Live) (h k endpoint dpa : ℕ) → Contains m.live region → Contains m.live other → Carries region.found (region_window m.settled region.found) h endpoint dpa
      → Carries other.found (region_window m.settled other.found) k endpoint dpa → (region ≡ other) × (h ≡ k)
  one_host region other h k endpoint dpa there here one two =
      let same : region.found ≡ other.found = laws.shared m.settled _ _ region.found other.found endpoint dpa is.settled.system (live_is_region m is region there) (live_is_region m is other here) (lies region h endpoint dpa there one) (lies other k endpoint dpa here two) in
      let back : Carries region.found (region_window m.settled region.found) k endpoint dpa = subst (λ (f : Found). Carries f (region_window m.settled f) k endpoint dpa) (sym same) two in
      (same_live m is region other there here same, laws.apart m.settled _ region.found h k endpoint dpa is.settled.system (live_is_region m is region there) one back)

  pub one_told : (endpoint dpa : ℕ) (reply other : Reply) → TellsHost m endpoint dpa reply → TellsHost m endpoint dpa other → reply ≡ other
  one_told endpoint dpa reply other (carried region h there carries is_one) (carried region' h' there' carries' is_two) =
      let same = one_host region region' h h' endpoint dpa there there' carries carries' in
      is_one ∙ ap (λ (r : Live). replies.Up record { h = h; name = r.name }) same.0
      ∙ ap (λ (n : ℕ). replies.Up record { h = n; name = region'.name }) same.1 ∙ sym is_two
  one_told endpoint dpa reply other (carried region h there carries is_one) (unmapped none is_two) =
      absurd (none region there (lies region h endpoint dpa there carries))
  one_told endpoint dpa reply other (unmapped none is_one) (carried region h there carries is_two) =
      absurd (none region there (lies region h endpoint dpa there carries))
  one_told endpoint dpa reply other (unmapped none is_one) (unmapped none' is_two) = is_one ∙ sym is_two
