-- The record types of a CEDT, and where its fields stand: byte places from the front of the header or of a record, and
-- lengths in bytes (ACPI CEDT).
use Rattle.std.specs.Prelude.{ℕ}

-- ---- record types

-- the type of a host bridge's record
abbrev pub chbs_kind : ℕ
chbs_kind = 0

-- the type of a window's record
abbrev pub cfmws_kind : ℕ
cfmws_kind = 1

-- the type of a record of XOR maps
abbrev pub cxims_kind : ℕ
cxims_kind = 2

-- at most so many records of each of these types (this project's rule)
abbrev pub kind_limit : ℕ
kind_limit = 64

-- ---- the header

-- where the length of the table stands
abbrev pub table_length_place : ℕ
table_length_place = 4

-- where its revision stands
abbrev pub revision_place : ℕ
revision_place = 8

-- where the name of its maker stands
abbrev pub oem_id_place : ℕ
oem_id_place = 10

-- where the maker's name for it stands
abbrev pub oem_table_place : ℕ
oem_table_place = 16

-- where the maker's revision stands
abbrev pub oem_revision_place : ℕ
oem_revision_place = 24

-- where the name of the tool that made it stands
abbrev pub creator_place : ℕ
creator_place = 28

-- where the tool's revision stands
abbrev pub creator_revision_place : ℕ
creator_revision_place = 32

-- the bytes of the table's header
abbrev pub header_size : ℕ
header_size = 36

-- ---- each record

-- where a record's type stands
abbrev pub kind_place : ℕ
kind_place = 0

-- where its reserved byte stands
abbrev pub reserved_place : ℕ
reserved_place = 1

-- where its length stands
abbrev pub length_place : ℕ
length_place = 2

-- the type, the byte after it, and the length; what follows in a record of another type is its body
abbrev pub frame_size : ℕ
frame_size = 4

-- ---- CHBS

-- where a bridge's UID stands
abbrev pub uid_place : ℕ
uid_place = 4

-- where a bridge's version stands
abbrev pub version_place : ℕ
version_place = 8

-- where the base of a bridge's registers stands
abbrev pub register_base_place : ℕ
register_base_place = 16

-- where the length of a bridge's registers stands
abbrev pub register_length_place : ℕ
register_length_place = 24

-- the bytes of a host bridge's record
abbrev pub chbs_size : ℕ
chbs_size = 32

-- ---- CFMWS

-- where a window's base stands
abbrev pub window_base_place : ℕ
window_base_place = 8

-- where a window's size stands
abbrev pub window_size_place : ℕ
window_size_place = 16

-- where the code of a window's ways stands
abbrev pub ways_place : ℕ
ways_place = 24

-- where a window's arithmetic stands
abbrev pub arithmetic_place : ℕ
arithmetic_place = 25

-- where the code of a window's granularity stands
abbrev pub window_gran_place : ℕ
window_gran_place = 28

-- where a window's restrictions stand
abbrev pub restrict_place : ℕ
restrict_place = 32

-- where a window's QoS throttling group stands
abbrev pub qtg_place : ℕ
qtg_place = 34

-- the window without its targets, which begin there
abbrev pub window_front_size : ℕ
window_front_size = 36

-- ---- CXIMS

-- where the code of the granularity stands that maps are for
abbrev pub maps_gran_place : ℕ
maps_gran_place = 6

-- where the number of maps stands
abbrev pub maps_count_place : ℕ
maps_count_place = 7

-- the record without its maps, which begin there
abbrev pub maps_front_size : ℕ
maps_front_size = 8
