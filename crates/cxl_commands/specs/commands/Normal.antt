-- What `normal` comes to.
use Rattle.std.specs.Prelude.{◌≡◌, ℕ, List}
use Rattle.cxl_table.specs.CedtFields.{CedtFields}
use Rattle.cxl_cedt.specs.Spelling.{spelling}
use Rattle.cxl_inputs.specs.Outcome.{Outcome, one_piece}
use Rattle.cxl_inputs.specs.Table.{IsTableOf}
use Rattle.cxl_inputs.specs.declared.status.Status.TheVariants.{Done}
use Rattle.cxl_io.specs.Told.{Told}

-- the bytes that spell a table with its reserved fields zero
abbrev pub normalized : CedtFields → Outcome
normalized table = one_piece Done (spelling table)

-- the bytes that the writer gives for the table that the file's bytes spell
pub record IsNormalText (told : Told) (bytes : List ℕ) : Type 0 where
  pub table : CedtFields
  pub is_table : IsTableOf told table
  pub spelled : bytes ≡ spelling table
