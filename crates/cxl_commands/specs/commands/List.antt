-- What `list` comes to.
use Rattle.std.specs.Prelude.{◌≡◌, ℕ, List, take}
use Rattle.std.specs.List.{concat}
use Rattle.cxl_table.specs.CedtFields.{CedtFields}
use Rattle.cxl_table.specs.declared.cedt.Record.{Record}
use Rattle.cxl_inputs.specs.Outcome.{Outcome}
use Rattle.cxl_inputs.specs.Table.{IsTableOf}
use Rattle.cxl_inputs.specs.declared.status.Status.TheVariants.{Done}
use Rattle.cxl_io.specs.Sink.{SinkState, Takes}
use Rattle.cxl_io.specs.Told.{Told}
use Rattle.cxl_commands.specs.commands.Lines.{list_lines}

-- a line for each record of a table
abbrev pub listed : List Record → Outcome
listed records = record { status = Done; pieces = list_lines records }

-- the text is a line for each record of the table that the file's bytes spell
pub record IsListText (told : Told) (text : List ℕ) : Type 0 where
  pub table : CedtFields
  pub is_table : IsTableOf told table
  pub lines : text ≡ concat (list_lines table.records)

-- of the table that the file's bytes spell, the lines of some first records are written
pub record TakesLines (told : Told) (old new : SinkState) : Type 0 where
  pub table : CedtFields
  pub is_table : IsTableOf told table
  pub count : ℕ
  pub taken : Takes old new (concat (take count (list_lines table.records)))
