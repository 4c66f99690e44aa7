-- Which bytes spell a table (ACPI CEDT: CHBS, CFMWS and CXIMS), and the first fault of bytes that spell none.
use Rattle.std.specs.Prelude.{◌≡◌, ℕ, zero, suc, ◌+◌, ◌*◌, ◌%◌, ◌<◌, ◌≤◌, nat_lt, ◌==◌, ◌&&◌, ◌||◌, not, Bool, IsTrue, nat_eq, if◌then◌else◌, List, [], ◌∷◌, ◌++◌, length, take, drop, sum, codes, Option, Some, None, is_none, unwrap_or, Result, Err, IfOk, IfErr, ◌⊎◌}
use Rattle.cxl_table.specs.Layout.{chbs_kind, cfmws_kind, cxims_kind, table_length_place, revision_place, oem_id_place, oem_table_place, oem_revision_place, creator_place, creator_revision_place, header_size, kind_place, reserved_place, length_place, frame_size, uid_place, version_place, register_base_place, register_length_place, chbs_size, window_base_place, window_size_place, ways_place, arithmetic_place, window_gran_place, restrict_place, qtg_place, window_front_size, maps_gran_place, maps_count_place, maps_front_size}
use Rattle.cxl_enc.specs.Codes.{ways_of}
use Rattle.byteorder.specs.Endian.{little_number}
use Rattle.cxl_table.specs.declared.chbs.Chbs as chbs
use Rattle.cxl_table.specs.declared.cedt.Record.{Record}
use Rattle.cxl_table.specs.declared.cedt.Record.TheVariants.{Chbs, Cfmws, Cxims, Other}
use Rattle.cxl_cedt.specs.declared.fault.CedtFault.{CedtFault}
use Rattle.cxl_cedt.specs.declared.fault.CedtFault.TheVariants.{Short, Signature, Length, Checksum, RecordCut, RecordLength, WaysCode, GranCode, Arithmetic, TooMany, Memory}
use Rattle.std.specs.List.{starts_with}
use Rattle.cxl_table.specs.CedtFields.{CedtFields}
use Rattle.cxl_table.specs.Fields.{CfmwsFields, CximsFields, OtherFields}
use Rattle.cxl_table.specs.Records.{is_kind_full, HasFewOfEach}

-- ---- places in a text

-- the number of `width` bytes from place `at`, lowest byte first
abbrev pub field : List ℕ → ℕ → ℕ → ℕ
field text at width = little_number width (drop at text)

-- `n` such numbers, one after the other
abbrev pub fields : List ℕ → ℕ → ℕ → ℕ → List ℕ
fields text at width zero = []
fields text at width (suc n) = field text at width ∷ fields text (at + width) width n

-- `n` bytes from place `at`
abbrev pub some_bytes : List ℕ → ℕ → ℕ → List ℕ
some_bytes text at n = take n (drop at text)

-- it begins with the four letters
abbrev pub has_signature : List ℕ → Bool
has_signature bytes = starts_with nat_eq bytes (codes "CEDT")

-- ---- the texts of records; what they do not name is reserved, and may hold anything

-- the type, and the length in the text and of it
pub record HasFrame (text : List ℕ) (kind size : ℕ) : Type 0 where
  pub kind_is : field text kind_place 1 ≡ kind
  pub length_said : field text length_place 2 ≡ size
  pub length_is : length text ≡ size

-- the bytes spell a CHBS: its fields at their places; what is not named is reserved and may hold anything
pub record IsChbsText (text : List ℕ) (c : chbs.Chbs) : Type 0 where
  pub frame : HasFrame text chbs_kind chbs_size
  pub uid : field text uid_place 4 ≡ c.uid
  pub version : field text version_place 4 ≡ c.version
  pub base : field text register_base_place 8 ≡ c.base
  pub register_length : field text register_length_place 8 ≡ c.length

-- the bytes spell a CFMWS: its fields at their places; what is not named is reserved and may hold anything
pub record IsCfmwsText (text : List ℕ) (c : CfmwsFields) : Type 0 where
  pub frame : HasFrame text cfmws_kind (window_front_size + 4 * length c.targets)
  pub base : field text window_base_place 8 ≡ c.base
  pub size : field text window_size_place 8 ≡ c.size
  pub ways : field text ways_place 1 ≡ c.ways
  pub ways_known : ways_of c.ways ≡ Some (length c.targets)
  pub arithmetic : field text arithmetic_place 1 ≡ (if c.xor then 1 else 0)
  pub gran : field text window_gran_place 4 ≡ c.gran
  pub gran_known : c.gran ≤ 6
  pub restrict : field text restrict_place 2 ≡ c.restrict
  pub qtg : field text qtg_place 2 ≡ c.qtg
  pub targets : fields text window_front_size 4 (length c.targets) ≡ c.targets

-- the bytes spell a CXIMS: its fields at their places; what is not named is reserved and may hold anything
pub record IsCximsText (text : List ℕ) (c : CximsFields) : Type 0 where
  pub frame : HasFrame text cxims_kind (maps_front_size + 8 * length c.maps)
  pub gran : field text maps_gran_place 1 ≡ c.gran
  pub gran_known : c.gran ≤ 6
  pub count : field text maps_count_place 1 ≡ length c.maps
  pub maps : fields text maps_front_size 8 (length c.maps) ≡ c.maps

-- another type keeps its reserved byte and its body
pub record IsOtherText (text : List ℕ) (c : OtherFields) : Type 0 where
  pub frame : HasFrame text c.kind (frame_size + length c.body)
  pub other : cxims_kind < c.kind
  pub reserved : field text reserved_place 1 ≡ c.reserved
  pub body : drop frame_size text ≡ c.body

-- the bytes spell the record
abbrev pub IsRecordText : List ℕ → Record → Type 0
IsRecordText text (Chbs c) = IsChbsText text c
IsRecordText text (Cfmws c) = IsCfmwsText text c
IsRecordText text (Cxims c) = IsCximsText text c
IsRecordText text (Other c) = IsOtherText text c

-- the texts of records, one after the other
abbrev pub AreRecordTexts : List ℕ → List Record → Type 0
AreRecordTexts text [] = text ≡ []
AreRecordTexts text (r ∷ rs) = (first : List ℕ) × (rest : List ℕ) × (text ≡ first ++ rest) × IsRecordText first r × AreRecordTexts rest rs

-- ---- the table

-- The bytes spell the table, each byte of them: a header with the signature, the true length and a sum of 0 modulo 256, and
-- the texts of the records one after the other, with at most 64 of each judged type.
pub record IsTableText (bytes : List ℕ) (c : CedtFields) : Type 0 where
  pub long : header_size ≤ length bytes
  pub signature : IsTrue (has_signature bytes)
  pub length_said : field bytes table_length_place 4 ≡ length bytes
  pub checksum : sum bytes % 256 ≡ 0
  pub revision : field bytes revision_place 1 ≡ c.head.revision
  pub oem_id : some_bytes bytes oem_id_place 6 ≡ c.head.oem_id
  pub oem_table : some_bytes bytes oem_table_place 8 ≡ c.head.oem_table
  pub oem_revision : field bytes oem_revision_place 4 ≡ c.head.oem_revision
  pub creator : some_bytes bytes creator_place 4 ≡ c.head.creator
  pub creator_revision : field bytes creator_revision_place 4 ≡ c.head.creator_revision
  pub texts : AreRecordTexts (drop header_size bytes) c.records
  pub few : HasFewOfEach c.records

-- ---- the first fault

-- of the header, in this order
unfoldable pub header_fault : List ℕ → Option CedtFault
header_fault bytes =
    if nat_lt (length bytes) header_size then Some Short
    else (if not (has_signature bytes) then Some Signature
    else (if not (field bytes table_length_place 4 == length bytes) then Some Length
    else (if not (sum bytes % 256 == 0) then Some Checksum
    else None)))

-- what a record that begins here says of its type and its length
abbrev pub kind_said : List ℕ → ℕ
kind_said rest = field rest kind_place 1

-- the length that a record states
abbrev pub length_said : List ℕ → ℕ
length_said rest = field rest length_place 2

-- fewer than four bytes are left, or fewer than the record's length says
unfoldable pub is_cut : List ℕ → Bool
is_cut rest = nat_lt (length rest) frame_size || nat_lt (length rest) (length_said rest)

-- a length that its type cannot have
unfoldable pub has_short_length : ℕ → ℕ → Bool
has_short_length kind size =
    nat_lt size frame_size || ((kind == chbs_kind) && not (size == chbs_size))
    || ((kind == cfmws_kind) && nat_lt size window_front_size) || ((kind == cxims_kind) && nat_lt size maps_front_size)

-- the number of ways that a window's code stands for
abbrev pub ways_said : List ℕ → Option ℕ
ways_said rest = ways_of (field rest ways_place 1)

-- a length that is not that of the window's ways or of the maps
unfoldable pub has_other_length : ℕ → List ℕ → Bool
has_other_length kind rest =
    ((kind == cfmws_kind) && not (length_said rest == window_front_size + 4 * unwrap_or (ways_said rest) 0))
    || ((kind == cxims_kind) && not (length_said rest == maps_front_size + 8 * field rest maps_count_place 1))

-- a granularity code above 6
unfoldable pub has_unknown_gran : ℕ → List ℕ → Bool
has_unknown_gran kind rest =
    ((kind == cfmws_kind) && nat_lt 6 (field rest window_gran_place 4)) || ((kind == cxims_kind) && nat_lt 6 (field rest maps_gran_place 1))

-- of the record that begins at place `at`, where `rest` stands, behind the records `before`; in this order
unfoldable pub record_fault : List Record → List ℕ → ℕ → Option CedtFault
record_fault before rest at =
    let kind = kind_said rest in
    if is_cut rest then Some (RecordCut at)
    else (if has_short_length kind (length_said rest) then Some (RecordLength at)
    else (if (kind == cfmws_kind) && is_none (ways_said rest) then Some (WaysCode at)
    else (if has_other_length kind rest then Some (RecordLength at)
    else (if has_unknown_gran kind rest then Some (GranCode at)
    else (if (kind == cfmws_kind) && nat_lt 1 (field rest arithmetic_place 1) then Some (Arithmetic at)
    else (if is_kind_full kind before then Some (TooMany at)
    else None))))))

-- Behind the texts of sound records, `front`, stands a record with this fault.
pub record IsRecordFault (bytes : List ℕ) (fault : CedtFault) : Type 0 where
  pub before : List Record
  pub front : List ℕ
  pub rest : List ℕ
  pub whole : drop header_size bytes ≡ front ++ rest
  pub sound : AreRecordTexts front before
  pub few : HasFewOfEach before
  pub more : 0 < length rest
  pub fault_is : record_fault before rest (header_size + length front) ≡ Some fault

-- the fault of the header, or else of the first record that has one, with the place at which that begins
abbrev pub FirstTableFault : List ℕ → CedtFault → Type 0
FirstTableFault bytes fault =
    (header_fault bytes ≡ Some fault) ⊎ ((header_fault bytes ≡ None) × IsRecordFault bytes fault)

-- there is a table that the bytes spell
abbrev pub HasTable : List ℕ → Type 0
HasTable bytes = (c : CedtFields) × IsTableText bytes c

-- there is a first fault
abbrev pub HasFault : List ℕ → Type 0
HasFault bytes = (fault : CedtFault) × FirstTableFault bytes fault

-- ---- answers

-- an answer other than want of memory is the first fault
abbrev pub IsFaultOf : List ℕ → CedtFault → Type 0
IsFaultOf bytes fault = (fault ≡ Memory) ⊎ FirstTableFault bytes fault

-- this answer, unless memory ran out
abbrev pub IsAnswer : Result CedtFields CedtFault → Result CedtFields CedtFault → Type 0
IsAnswer result answer = (result ≡ answer) ⊎ (result ≡ Err Memory)

-- what a reader may answer: a table that the bytes spell, or their first fault, or want of memory
pub record IsReadAs (bytes : List ℕ) (result : Result CedtFields CedtFault) : Type 0 where
  pub table : IfOk result (λ cedt. IsTableText bytes cedt)
  pub fault : IfErr result (λ fault. IsFaultOf bytes fault)
