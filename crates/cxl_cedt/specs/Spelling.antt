-- The one text of a table whose reserved fields are zero.
use Rattle.std.specs.Prelude.{ℕ, ◌+◌, ◌-◌, ◌*◌, ◌%◌, Bool, if◌then◌else◌, List, [], ◌∷◌, ◌++◌, length, sum, codes}
use Rattle.cxl_table.specs.Layout.{chbs_kind, cfmws_kind, cxims_kind, frame_size, chbs_size, window_front_size, maps_front_size}
use Rattle.std.specs.List.{flat_map}
use Rattle.byteorder.specs.Endian.{little_bytes}
use Rattle.cxl_table.specs.declared.chbs.Chbs as chbs
use Rattle.cxl_table.specs.declared.cedt.Head.{Head}
use Rattle.cxl_table.specs.declared.cedt.Record.{Record}
use Rattle.cxl_table.specs.declared.cedt.Record.TheVariants.{Chbs, Cfmws, Cxims, Other}
use Rattle.cxl_table.specs.CedtFields.{CedtFields}
use Rattle.cxl_table.specs.Fields.{CfmwsFields, CximsFields, OtherFields}
use Rattle.cxl_table.specs.Records.{table_length}

-- a number in so many bytes, lowest first
unfoldable pub number_bytes : ℕ → ℕ → List ℕ
number_bytes width n = little_bytes width n

-- numbers one after the other, each in so many bytes
abbrev pub numbers_bytes : ℕ → List ℕ → List ℕ
numbers_bytes width numbers = flat_map (number_bytes width) numbers

-- ---- the records

-- the type, the byte after it, and the length of the record
abbrev pub frame : ℕ → ℕ → ℕ → List ℕ
frame kind second size = kind ∷ second ∷ number_bytes 2 size

-- the bytes of a host bridge's record
abbrev pub chbs_spelling : chbs.Chbs → List ℕ
chbs_spelling c =
    frame chbs_kind 0 chbs_size ++ number_bytes 4 c.uid ++ number_bytes 4 c.version ++ number_bytes 4 0
    ++ number_bytes 8 c.base ++ number_bytes 8 c.length

-- the first 24 bytes of a window with so many targets
unfoldable pub window_range : ℕ → ℕ → ℕ → List ℕ
window_range count base size =
    frame cfmws_kind 0 (window_front_size + 4 * count) ++ number_bytes 4 0 ++ number_bytes 8 base ++ number_bytes 8 size

-- the next 8 bytes
unfoldable pub window_codes : ℕ → Bool → ℕ → List ℕ
window_codes ways xor gran = ways ∷ [] ++ (if xor then 1 else 0) ∷ [] ++ number_bytes 2 0 ++ number_bytes 4 gran

-- a window up to its targets
abbrev pub window_front : CfmwsFields → List ℕ
window_front c =
    window_range (length c.targets) c.base c.size ++ window_codes c.ways c.xor c.gran
    ++ number_bytes 2 c.restrict ++ number_bytes 2 c.qtg

-- the bytes of a window's record
abbrev pub cfmws_spelling : CfmwsFields → List ℕ
cfmws_spelling c = window_front c ++ numbers_bytes 4 c.targets

-- up to the maps
abbrev pub maps_front : CximsFields → List ℕ
maps_front c = frame cxims_kind 0 (maps_front_size + 8 * length c.maps) ++ number_bytes 2 0 ++ c.gran ∷ [] ++ length c.maps ∷ []

-- the bytes of a record of XOR maps
abbrev pub cxims_spelling : CximsFields → List ℕ
cxims_spelling c = maps_front c ++ numbers_bytes 8 c.maps

-- another type keeps its reserved byte and its body
abbrev pub other_spelling : OtherFields → List ℕ
other_spelling c = frame c.kind c.reserved (frame_size + length c.body) ++ c.body

-- the bytes of a record
abbrev pub record_spelling : Record → List ℕ
record_spelling (Chbs c) = chbs_spelling c
record_spelling (Cfmws c) = cfmws_spelling c
record_spelling (Cxims c) = cxims_spelling c
record_spelling (Other c) = other_spelling c

-- ---- the table

-- 36 bytes, with this length and this checksum
abbrev pub header : ℕ → ℕ → Head → List ℕ
header size checksum head =
    codes "CEDT" ++ number_bytes 4 size ++ head.revision ∷ checksum ∷ []
    ++ head.oem_id ++ head.oem_table ++ number_bytes 4 head.oem_revision
    ++ head.creator ++ number_bytes 4 head.creator_revision

-- the table with this checksum
abbrev pub spelling_with : ℕ → CedtFields → List ℕ
spelling_with checksum c = header (table_length c.records) checksum c.head ++ flat_map record_spelling c.records

-- what brings a sum to 0 modulo 256
abbrev pub checksum_for : ℕ → ℕ
checksum_for total = (256 - total % 256) % 256

-- the one text of the table with reserved fields zero and its own checksum
unfoldable pub spelling : CedtFields → List ℕ
spelling c = spelling_with (checksum_for (sum (spelling_with 0 c))) c
