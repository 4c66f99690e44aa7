-- Where a new region may start in a window (this project's rules).
use Rattle.std.specs.Prelude.{◌≡◌, ℕ, ◌+◌, ◌-◌, ◌*◌, ◌%◌, ◌≤◌, ◌==◌, true, if◌then◌else◌}
use Rattle.std.specs.Option.{option_map_or}
use Rattle.cxl_enc.specs.Limits.{unit}
use Rattle.cxl_regs.specs.Reading.{committed_count}
use Rattle.cxl_window.specs.Fields.{WindowFields}
use Rattle.cxl_model.specs.declared.request.Request.{Request}
use Rattle.cxl_model.specs.System.{System, decoders_at, decoder_at}
use Rattle.cxl_legal.specs.Used.{is_used}

-- the end of the range of the last committed decoder of node n, or 0 where none is committed
abbrev pub last_end : System → ℕ → ℕ
last_end s n =
    if committed_count (decoders_at s n) == 0 then 0
    else option_map_or (λ d. d.base + d.size) (decoder_at s n (committed_count (decoders_at s n) - 1)) 0

-- bases differ from the window's by multiples of 256 MiB, or of 768 MiB where 3 divides its ways
abbrev pub base_step : WindowFields → ℕ
base_step w = if w.ways % 3 == 0 then 3 * unit else unit

-- at or above the window's base, past all that is committed in the used nodes, and in steps of 256 MiB, or of 768 MiB where
-- 3 divides the window's ways
pub record IsBase (s : System) (request : Request) (w : WindowFields) (base : ℕ) : Type 0 where
  pub from : w.base ≤ base
  pub after : (n : ℕ) → is_used s request n ≡ true → last_end s n ≤ base
  pub step : (base - w.base) % base_step w ≡ 0

-- the least such
pub record IsLeastBase (s : System) (request : Request) (w : WindowFields) (base : ℕ) : Type 0 where
  pub can : IsBase s request w base
  pub least : (other : ℕ) → IsBase s request w other → base ≤ other

-- and the region ends within the window
pub record FitsBase (s : System) (request : Request) (w : WindowFields) (base : ℕ) : Type 0 where
  pub can : IsBase s request w base
  pub inside : base + request.size ≤ w.base + w.size
