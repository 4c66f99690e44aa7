-- The table that bytes without fault spell, read from their front.
use Rattle.std.specs.Prelude.{ℕ, zero, suc, List, [], ◌∷◌, length, take, drop}
use Rattle.cxl_table.specs.Layout.{revision_place, oem_id_place, oem_table_place, oem_revision_place, creator_place, creator_revision_place, header_size}
use Rattle.cxl_table.specs.declared.cedt.Head.{Head}
use Rattle.cxl_table.specs.declared.cedt.Record.{Record}
use Rattle.cxl_table.specs.CedtFields.{CedtFields}
use Rattle.cxl_cedt.specs.Table.{field, some_bytes, length_said}
use Rattle.cxl_cedt.specs.inner.Decoding.{record_of}

-- the fields of the header
abbrev pub head_in : List ℕ → Head
head_in bytes = record {
  revision = field bytes revision_place 1;
  oem_id = some_bytes bytes oem_id_place 6;
  oem_table = some_bytes bytes oem_table_place 8;
  oem_revision = field bytes oem_revision_place 4;
  creator = some_bytes bytes creator_place 4;
  creator_revision = field bytes creator_revision_place 4;
}

-- the records that stand at the front of a text, one behind the other, so many at the most
unfoldable pub first_records : ℕ → List ℕ → List Record
first_records zero text = []
first_records (suc n) [] = []
first_records (suc n) (byte ∷ bytes) =
    let text = byte ∷ bytes in
    record_of (take (length_said text) text) ∷ first_records n (drop (length_said text) text)

-- all of them: there are fewer than bytes
abbrev pub records_in : List ℕ → List Record
records_in text = first_records (length text) text

-- the table that bytes spell, read from their front; a table that is read and not copied stands for it
unfoldable pub table_in : List ℕ → CedtFields
table_in bytes = record { head = head_in bytes; records = records_in (drop header_size bytes) }
