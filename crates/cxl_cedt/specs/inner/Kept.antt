-- What a reader keeps of the records that it has read.
use Rattle.std.specs.Prelude.{◌≡◌, ℕ, ◌≤◌, List, length, drop}
use Rattle.cxl_enc.specs.Limits.{file_limit}
use Rattle.cxl_table.specs.Layout.{header_size}
use Rattle.cxl_table.specs.declared.cedt.Record.{Record}
use Rattle.cxl_cedt.specs.declared.counted.Others.{Others}
use Rattle.cxl_cedt.specs.declared.counted.Others.TheVariants.{Kept, PassedOver}
use Rattle.cxl_table.specs.Judged.{judged_of, judged_places}
use Rattle.cxl_table.specs.Records.{HasFewOfEach}
use Rattle.cxl_cedt.specs.Table.{AreRecordTexts, IsTableText}
use Rattle.cxl_cedt.specs.Reading.{table_in}
use Rattle.cxl_cedt.specs.inner.Scan.{AreReadTo}
use Rattle.cxl_cedt.specs.inner.KeptRecords.{KeptRecords}

-- all of some records, or the judged ones
abbrev pub kept_of : Others → List Record → List Record
kept_of Kept records = records
kept_of PassedOver records = judged_of records

-- these are kept of all records, which are read up to byte `at`
pub record AreKeptOf (others : Others) (all : List Record) (kept : KeptRecords) : Type 0 where
  pub records : kept.records ≡ kept_of others all
  pub places : kept.places ≡ judged_places header_size all

-- these are kept of the records before byte `at`, and these bytes are left
pub record IsKeptTo (others : Others) (bytes : List ℕ) (kept : KeptRecords) (rest : List ℕ) (at : ℕ) : Type 0 where
  pub all : List Record
  pub read_to : AreReadTo bytes all rest at
  pub kept_are : AreKeptOf others all kept

-- and these of all records that stand behind the header
pub record IsKeptIn (others : Others) (bytes : List ℕ) (kept : KeptRecords) : Type 0 where
  pub all : List Record
  pub texts : AreRecordTexts (drop header_size bytes) all
  pub few : HasFewOfEach all
  pub kept_are : AreKeptOf others all kept

-- the bytes spell a table, and these are its judged records
pub record IsTextOf (bytes : List ℕ) (judged : KeptRecords) : Type 0 where
  pub short : length bytes ≤ file_limit
  pub spells : IsTableText bytes (table_in bytes)
  pub judged_are : AreKeptOf PassedOver (table_in bytes).records judged
