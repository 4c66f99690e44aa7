-- What is known of a range.
use Rattle.std.specs.Prelude.{◌≡◌, find, slice_get}
use Rattle.cxl_regs.specs.declared.reading.Range.{Range}
use Rattle.cxl_model.specs.System.{System}
use Rattle.cxl_model.specs.Ranges.{lies_within}
use Rattle.cxl_check.specs.declared.known.Known.{Known}
use Rattle.cxl_check.specs.inner.Facts.{AreFacts}

-- the window in which a range lies stands at its place, and the facts are those of its first endpoint
pub record IsKnownAs (s : System) (r : Range) (known : Known) : Type 0 where
  pub range : known.range ≡ r
  pub window : slice_get s.windows known.window ≡ find (lies_within r) s.windows
  pub facts : AreFacts s r known.facts

-- so is that of its own range
abbrev pub IsKnown : System → Known → Type 0
IsKnown s known = IsKnownAs s known.range known
