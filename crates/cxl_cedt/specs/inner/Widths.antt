-- What fits the fields that it is written to.
use Rattle.std.specs.Prelude.{◌≡◌, ℕ, ◌^◌, ◌<◌, ◌≤◌, List, length, slice_index, Some}
use Rattle.cxl_table.specs.Layout.{cxims_kind}
use Rattle.cxl_enc.specs.Codes.{ways_of}
use Rattle.cxl_enc.specs.Limits.{file_limit}
use Rattle.cxl_table.specs.declared.chbs.Chbs as chbs
use Rattle.cxl_table.specs.declared.cedt.Head.{Head}
use Rattle.cxl_table.specs.declared.cedt.Record.{Record}
use Rattle.cxl_table.specs.declared.cedt.Record.TheVariants.{Chbs, Cfmws, Cxims, Other}
use Rattle.std.specs.List.{flat_map}
use Rattle.cxl_table.specs.CedtFields.{CedtFields}
use Rattle.cxl_table.specs.Fields.{CfmwsFields, CximsFields, OtherFields}
use Rattle.cxl_table.specs.Records.{table_length, HasFewOfEach}
use Rattle.cxl_cedt.specs.Table.{AreRecordTexts}
use Rattle.cxl_cedt.specs.Spelling.{record_spelling}

-- each number is below the limit
abbrev pub AreBelow : ℕ → List ℕ → Type 0
AreBelow limit numbers = (i : ℕ) → slice_index numbers i < limit

-- a header's fields fit their widths
pub record HeadFits (head : Head) : Type 0 where
  pub revision : head.revision < 256
  pub oem_id : length head.oem_id ≡ 6
  pub oem_table : length head.oem_table ≡ 8
  pub oem_revision : head.oem_revision < 2 ^ 32
  pub creator : length head.creator ≡ 4
  pub creator_revision : head.creator_revision < 2 ^ 32

-- the fields of a CHBS fit
pub record ChbsFits (c : chbs.Chbs) : Type 0 where
  pub uid : c.uid < 2 ^ 32
  pub version : c.version < 2 ^ 32
  pub base : c.base < 2 ^ 64
  pub register_length : c.length < 2 ^ 64

-- the fields of a CFMWS fit, and its targets are as many as its ways
pub record CfmwsFits (c : CfmwsFields) : Type 0 where
  pub base : c.base < 2 ^ 64
  pub size : c.size < 2 ^ 64
  pub ways : ways_of c.ways ≡ Some (length c.targets)
  pub gran : c.gran ≤ 6
  pub restrict : c.restrict < 2 ^ 16
  pub qtg : c.qtg < 2 ^ 16
  pub targets : AreBelow (2 ^ 32) c.targets

-- the fields of a CXIMS fit
pub record CximsFits (c : CximsFields) : Type 0 where
  pub gran : c.gran ≤ 6
  pub few : length c.maps ≤ 255
  pub maps : AreBelow (2 ^ 64) c.maps

-- the fields of a record of another type fit, and its type is no known one
pub record OtherFits (c : OtherFields) : Type 0 where
  pub kind : cxims_kind < c.kind
  pub few : length c.body ≤ 65531

-- a record's fields fit, by its type
abbrev pub RecordFits : Record → Type 0
RecordFits (Chbs c) = ChbsFits c
RecordFits (Cfmws c) = CfmwsFits c
RecordFits (Cxims c) = CximsFits c
RecordFits (Other c) = OtherFits c

-- the table has a text: its header's fields fit, its records' texts stand one after the other, and they are few
pub record HasText (c : CedtFields) : Type 0 where
  pub head : HeadFits c.head
  pub texts : AreRecordTexts (flat_map record_spelling c.records) c.records
  pub few : HasFewOfEach c.records
  pub short : table_length c.records ≤ file_limit
