-- A record of a table that is read and not copied, as it stands in the table.
use Rattle.cxl_table.specs.declared.cedt.Record.{Record}
use Rattle.cxl_table.specs.declared.cedt.Record.TheVariants as kinds
use Rattle.cxl_cedt.specs.declared.records.RecordText.{RecordText}
use Rattle.cxl_cedt.specs.declared.records.RecordText.TheVariants.{Judged, Other}

-- the record that a walk over a table meets
abbrev pub record_in : RecordText → Record
record_in (Judged r) = r.now
record_in (Other c) = kinds.Other c
