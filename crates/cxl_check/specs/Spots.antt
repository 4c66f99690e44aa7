-- What an image is found to break (this project's rules).
use Rattle.std.specs.Prelude.{◌≡◌, ℕ, ◌<◌, ⊤, true, false}
use Rattle.cxl_check.specs.declared.fault.CheckFault.{CheckFault}
use Rattle.cxl_check.specs.declared.fault.CheckFault.TheVariants.{Breach, Memory}
use Rattle.cxl_model.specs.System.{System}
use Rattle.cxl_model.specs.Accepted.{breaks, IsFirstBreach}

-- no decoder breaks the rule of this number
abbrev pub Keeps : System → ℕ → Type 0
Keeps s rule = (n i : ℕ) → breaks s rule n i ≡ false

-- the first decoder that breaks the rule: none of a lower node does, and no lower one of its own
pub record IsFirstSpot (s : System) (rule node decoder : ℕ) : Type 0 where
  pub broken : breaks s rule node decoder ≡ true
  pub nodes : (lower i : ℕ) → lower < node → breaks s rule lower i ≡ false
  pub decoders : (lower : ℕ) → lower < decoder → breaks s rule node lower ≡ false

-- a breach that is told is the image's first
abbrev pub TellsFirstBreach : System → CheckFault → Type 0
TellsFirstBreach s (Breach b) = IsFirstBreach s b.rule b.node b.decoder
TellsFirstBreach s Memory = ⊤
