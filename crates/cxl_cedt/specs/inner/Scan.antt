-- How far a table was read.
use Rattle.std.specs.Prelude.{◌≡◌, ℕ, ◌+◌, List, ◌++◌, length, drop}
use Rattle.cxl_table.specs.Layout.{header_size}
use Rattle.cxl_table.specs.declared.cedt.Record.{Record}
use Rattle.cxl_table.specs.Records.{HasFewOfEach}
use Rattle.cxl_cedt.specs.Table.{AreRecordTexts}

-- behind the header stand the texts of these records, and then from byte `at` on the rest
pub record AreReadTo (bytes : List ℕ) (records : List Record) (rest : List ℕ) (at : ℕ) : Type 0 where
  pub front : List ℕ
  pub whole : drop header_size bytes ≡ front ++ rest
  pub place : at ≡ header_size + length front
  pub texts : AreRecordTexts front records
  pub few : HasFewOfEach records
