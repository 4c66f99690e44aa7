-- What a table holds, and what it keeps.
use Rattle.std.specs.Prelude.{◌≡◌, ℕ, ◌≤◌, List}
use Rattle.cxl_enc.specs.Limits.{file_limit}
use Rattle.cxl_table.specs.declared.cedt.Head.{Head}
use Rattle.cxl_table.specs.declared.cedt.Record.{Record}
use Rattle.cxl_table.specs.Records.{HasFewOfEach, table_length}

-- a table: its header, and its records in order
pub record CedtFields : Type 0 where
  pub head : Head
  pub records : List Record

-- few records of each judged type, and few bytes
pub record IsCedt (records : List Record) : Type 0 where
  pub few : HasFewOfEach records
  pub fits : table_length records ≤ file_limit

-- and as many bytes spell it as it says
pub record IsSizedCedt (records : List Record) (size : ℕ) : Type 0 where
  pub cedt : IsCedt records
  pub sized : size ≡ table_length records
