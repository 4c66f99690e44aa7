-- Which bytes are a poison list, and of what records; why others are none (CXL Get Poison List output; which bytes
-- are refused is this project's rule).
use Rattle.std.specs.Prelude.{◌≡◌, ℕ, ◌+◌, ◌-◌, ◌*◌, ◌/◌, ◌%◌, ◌<◌, ◌≤◌, ◌⊎◌, if◌then◌else◌, Bool, List, length, map, drop, slice_index, Some, None, Result, Err}
use Rattle.std.specs.List.{range_with_len}
use Rattle.byteorder.specs.Endian.{little_number}
use Rattle.cxl_regs.specs.Words.{has_bit}
use Rattle.cxl_model.specs.declared.poison.Entry.{Entry}
use Rattle.cxl_model.specs.declared.poison.PoisonList.{PoisonList}
use Rattle.cxl_poison.specs.declared.fault.PoisonFault.{PoisonFault}
use Rattle.cxl_poison.specs.declared.fault.PoisonFault.TheVariants.{Short, Count, Memory}
use Rattle.cxl_poison.specs.declared.fault.Said.{Said}

-- ---- the fields

-- the bytes before the first record, and those of each record
abbrev pub payload_head : ℕ
payload_head = 32

-- the bytes of a record
abbrev pub record_size : ℕ
record_size = 16

-- flag k, in the first byte
abbrev pub has_flag : List ℕ → ℕ → Bool
has_flag bytes k = has_bit (slice_index bytes 0) k

-- when the device's list overflowed, in eight bytes at place 2, lowest first
unfoldable pub timestamp_said : List ℕ → ℕ
timestamp_said bytes = little_number 8 (drop 2 bytes)

-- how many records there are, in two bytes at place 10
unfoldable pub records_said : List ℕ → ℕ
records_said bytes = little_number 2 (drop 10 bytes)

-- for how many whole records the bytes behind the head have room
abbrev pub record_room : List ℕ → ℕ
record_room bytes = (length bytes - payload_head) / record_size

-- The record at a byte place: an address of eight bytes, of which bits 63:6 are those of the device address and bits
-- 2:0 the source, and a length of four bytes in units of 64.
unfoldable pub entry_from : List ℕ → ℕ → Entry
entry_from bytes at =
    let address = little_number 8 (drop at bytes) in
    record {
      dpa = address / 64 * 64;
      units = little_number 4 (drop (at + 8) bytes);
      source = address % 8;
    }

-- so many records, one after the other behind the head
abbrev pub entries_from : List ℕ → ℕ → List Entry
entries_from bytes n = map (λ i. entry_from bytes (payload_head + record_size * i)) (range_with_len 0 n)

-- ---- a list

-- The bytes are this list: flags in byte 0, the time of an overflow in eight bytes at 2, the count in two at 10, and from 32
-- on the records of 16 bytes, each an address (bits 63:6 are those of the device address, bits 2:0 the source) and a length
-- in units of 64 bytes. Those behind the counted records may be any.
pub record IsPoisonPayload (bytes : List ℕ) (list : PoisonList) : Type 0 where
  pub head : payload_head ≤ length bytes
  pub room : payload_head + record_size * records_said bytes ≤ length bytes
  pub more : list.more ≡ has_flag bytes 0
  pub overflow : list.overflow ≡ (if has_flag bytes 1 then Some (timestamp_said bytes) else None)
  pub scanning : list.scanning ≡ has_flag bytes 2
  pub records : list.records ≡ entries_from bytes (records_said bytes)

-- ---- why not

-- there is room for fewer records than are said to be there
pub record LacksRecords (bytes : List ℕ) (said : Said) : Type 0 where
  pub head : payload_head ≤ length bytes
  pub short : length bytes < payload_head + record_size * records_said bytes
  pub counted : said.said ≡ records_said bytes
  pub roomy : said.room ≡ record_room bytes

-- fewer than 32 bytes, or room for fewer records than are said to be there
abbrev pub IsPoisonFault : List ℕ → PoisonFault → Type 0
IsPoisonFault bytes Short = length bytes < payload_head
IsPoisonFault bytes (Count said) = LacksRecords bytes said
IsPoisonFault bytes Memory = ⊥

-- ---- answers

-- an answer other than want of memory is the fault of the bytes
abbrev pub IsPoisonFaultOf : List ℕ → PoisonFault → Type 0
IsPoisonFaultOf bytes fault = (fault ≡ Memory) ⊎ IsPoisonFault bytes fault

-- this answer, unless memory ran out
abbrev pub IsPoisonAnswer : Result PoisonList PoisonFault → Result PoisonList PoisonFault → Type 0
IsPoisonAnswer result answer = (result ≡ answer) ⊎ (result ≡ Err Memory)

-- there is a list, or a fault
abbrev pub HasList : List ℕ → Type 0
HasList bytes = (list : PoisonList) × IsPoisonPayload bytes list

-- the payload has a fault
abbrev pub HasPoisonFault : List ℕ → Type 0
HasPoisonFault bytes = (fault : PoisonFault) × IsPoisonFault bytes fault
