-- What a script is read from, and the registers and the device memory that a session works on, at one moment.
use Rattle.cxl_bus.specs.RegsState.{RegsState}
use Rattle.cxl_io.specs.Source.{SourceState}
use Rattle.cxl_media.specs.MediaState.{MediaState}

-- what script, registers and device memory hold at a moment
pub record Devices : Type 0 where
  pub script : SourceState
  pub regs : RegsState
  pub media : MediaState

-- of these three, what they hold at a moment
abbrev pub devices : SourceState → RegsState → MediaState → Devices
devices script regs media = record { script = script; regs = regs; media = media }
