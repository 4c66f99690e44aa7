-- What laws of images say, for proofs that take them as given.
use Rattle.std.proofs.Common.{◌↔◌, ◌≡◌, ℕ, ◌+◌, ◌<◌, ◌≤◌}
use Rattle.cxl_window.specs.Fields.{WindowFields}
use Rattle.cxl_regs.specs.declared.reading.Range.{Range}
use Rattle.cxl_model.specs.System.{System, IsSystem}
use Rattle.cxl_model.specs.Ranges.{IsCommittedRange}
use Rattle.cxl_model.specs.Accepted.{KeepsBlocks, IsWhole, IsAccepted}
use Rattle.cxl_model.specs.declared.found.Found.{Found}
use Rattle.cxl_model.specs.Regions.{IsRegionIn}

abbrev pub AcceptedLaw : Type 0
AcceptedLaw = (s : System) → IsAccepted s ↔ (KeepsBlocks s × ((r : Range) → IsCommittedRange s r → IsWhole s r))

-- two regions of an image that share a host byte are one
abbrev pub ShareLaw : Type 0
ShareLaw =
    (s : System) (w v : WindowFields) (found other : Found) (h : ℕ) → IsSystem s → IsRegionIn s w found → IsRegionIn s v other → found.base ≤ h → h < found.base + found.size
    → other.base ≤ h → h < other.base + other.size → found ≡ other
