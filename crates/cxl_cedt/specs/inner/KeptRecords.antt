-- The records that are kept, and where those of them begin that are judged by their types.
use Rattle.std.specs.Prelude.{ℕ, List}
use Rattle.cxl_table.specs.declared.cedt.Record.{Record}

-- the kept records, and the places of the judged ones
pub record KeptRecords : Type 0 where
  pub records : List Record
  pub places : List ℕ
