-- What is left of a table's text, and what is kept of the records in it.
use Rattle.std.specs.Prelude.{◌≡◌, ℕ, ◌<◌, ◌≤◌, List, length}
use Rattle.cxl_table.specs.Layout.{cxims_kind}
use Rattle.cxl_table.specs.declared.cedt.Record.{Record}
use Rattle.cxl_table.specs.Judged.{judged_of}
use Rattle.cxl_cedt.specs.Reading.{records_in}
use Rattle.cxl_cedt.specs.Table.{AreRecordTexts, kind_said}
use Rattle.cxl_cedt.specs.inner.Decoding.{IsSoundText}

-- the text of a record of another type
pub record IsOtherIn (text : List ℕ) : Type 0 where
  pub sound : IsSoundText text
  pub other : cxims_kind < kind_said text
  pub few : length text ≤ 65535

-- records stand in the rest, and these are the judged ones
pub record IsWalk (rest : List ℕ) (judged : List Record) : Type 0 where
  pub texts : AreRecordTexts rest (records_in rest)
  pub judged_are : judged ≡ judged_of (records_in rest)
