-- As many routes are kept as there are regions, each along the region's own decoders.
use Rattle.std.proofs.Common.{◌≡◌, List, [], ◌∷◌, length, refl, arith}
use Rattle.std.specs.Prelude.{All}
use Rattle.std.proofs.lemmas.Slice.Zip.{AllZip-long}
use Rattle.cxl_window.specs.Fields.{WindowFields}
use Rattle.cxl_model.specs.declared.found.Found.{Found}
use Rattle.cxl_model.specs.Accepted.{KeepsBlocks}
use Rattle.cxl_model.specs.Regions.{IsRegion, IsRegionIn}
use Rattle.cxl_model.specs.System.{System, IsSystem}
use Rattle.cxl_walk.specs.declared.own.Own.{Own}
use Rattle.cxl_walk.specs.Keeping.{KeptFields, HasOwn, IsKept, own_decoders}
use Rattle.cxl_opening.specs.Opened.{AreRoutesOf}

pub routes_long : (s : System) (founds : List Found) (kepts : List KeptFields) → AreRoutesOf s founds kepts → length kepts ≡ length founds
routes_long s founds kepts routes = AllZip-long (λ (found : Found) (kept : KeptFields). (w : WindowFields) → IsRegionIn s w found → IsKept s w found kept) founds kepts routes

-- a region with its own decoders has them over the tree of its image, in one of its windows
pub has_own : (s : System) (w : WindowFields) (found : Found) (own : List Own) → IsSystem s → IsRegionIn s w found → own ≡ own_decoders s found → HasOwn s s.nodes s.windows found own
has_own s w found own system region are = record { w = w; among = refl; is = record { system = system; tree = refl; region = region; are = are } }

-- an image with a region keeps the rules of its blocks
pub keeps_blocks : (s : System) (founds : List Found) → (length founds ≡ 0 → ⊥) → All (IsRegion s) founds → KeepsBlocks s
keeps_blocks s [] some each = absurd (some refl)
keeps_blocks s (found ∷ founds) some each = (each 0 found (omega arith)).1.whole.blocks
