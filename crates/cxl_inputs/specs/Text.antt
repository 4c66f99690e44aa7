-- The bytes of a text that is fixed or was made.
use Rattle.std.specs.Prelude.{ℕ, List}
use Rattle.cxl_inputs.specs.declared.outcome.Text.{Text}
use Rattle.cxl_inputs.specs.declared.outcome.Text.TheVariants.{Fixed, Made}

-- the bytes of a text, fixed or made
abbrev pub bytes_in : Text → List ℕ
bytes_in (Fixed text) = text.now
bytes_in (Made text) = text.items
