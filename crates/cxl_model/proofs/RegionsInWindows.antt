-- A region has some bytes, and they lie in its window.
use Rattle.std.proofs.Common.{◌≡◌, ℕ, ◌+◌, ◌<◌, ◌≤◌, Some, ap, subst, ◌∙◌, arith}
use Rattle.std.specs.Prelude.{slice_get}
use Rattle.cxl_enc.specs.Limits.{address_limit}
use Rattle.cxl_regs.specs.declared.reading.Range.{Range}
use Rattle.cxl_window.specs.Fields.{WindowFields}
use Rattle.cxl_regs.proofs.DecoderRanges.{has_parts}
use Rattle.cxl_model.specs.declared.found.Found.{Found}
use Rattle.cxl_model.specs.System.{System, IsSystem}
use Rattle.cxl_model.specs.Regions.{region_range, IsRegionIn}
use Rattle.cxl_model.proofs.RangeRules.{RangesRise, bytes_at, served}
use Rattle.cxl_model.proofs.RangeWindows.{HasWindow, has_window}

own_window : (s : System) (w : WindowFields) (found : Found) → IsSystem s → IsRegionIn s w found → HasWindow s (region_range found) w
own_window s w found system is = has_window s (region_range found) w system is.window

pub window_there : (s : System) (w : WindowFields) (found : Found) → IsSystem s → IsRegionIn s w found → slice_get s.windows found.window ≡ Some w
window_there s w found system is = ap (slice_get s.windows) is.index ∙ (own_window s w found system is).there

pub some_bytes : RangesRise → (s : System) (w : WindowFields) (found : Found) → IsSystem s → IsRegionIn s w found → 0 < found.size
some_bytes rise s w found system is =
    let r : Range = region_range found in
    let server = served s r is.committed.0 is.committed.1 in
    let parts = has_parts r server.d server.has in
    subst (λ (n : ℕ). 0 < n) parts.size (bytes_at rise s is.whole.blocks is.committed.0 server.i server.d server.there parts.committed)

pub from_window : (s : System) (w : WindowFields) (found : Found) → IsSystem s → IsRegionIn s w found → w.base ≤ found.base
from_window s w found system is = (own_window s w found system is).from

pub ends_in_window : (s : System) (w : WindowFields) (found : Found) → IsSystem s → IsRegionIn s w found → found.base + found.size ≤ w.base + w.size
ends_in_window s w found system is = (own_window s w found system is).to

pub lies_low : (s : System) (w : WindowFields) (found : Found) → IsSystem s → IsRegionIn s w found → found.base + found.size ≤ address_limit
lies_low s w found system is =
    let own = own_window s w found system is in
    let to = own.to in
    let low = own.usable.low in
    omega (arith, to, low)
