-- Where the next span of an endpoint stands (this project's rules).
use Rattle.std.specs.Prelude.{◌≡◌, ℕ, ◌+◌, ◌-◌, ◌<◌, ◌≤◌, ◌==◌, max, Bool, true, false, if◌then◌else◌, List, Result, Ok, Err}
use Rattle.std.specs.List.{list_all}
use Rattle.cxl_enc.specs.declared.caps.MemKind.{MemKind}
use Rattle.cxl_enc.specs.declared.caps.MemKind.TheVariants.{Ram}
use Rattle.cxl_regs.specs.declared.decoder.Decoder.{Decoder}
use Rattle.cxl_regs.specs.Reading.{committed_count}
use Rattle.cxl_span.specs.declared.allotting.Span.{Span}
use Rattle.cxl_span.specs.declared.allotting.Room.{Room}
use Rattle.cxl_span.specs.declared.allotting.SpanFault.{SpanFault}
use Rattle.cxl_span.specs.declared.allotting.SpanFault.TheVariants.{NoDecoder, PastRam, NoRoom}
use Rattle.cxl_span.specs.Spans.{span_end_of}
use Rattle.cxl_span.specs.Partitions.{partition_start, partition_end, lies_in}

-- every decoder is committed
abbrev pub all_committed : List Decoder → Bool
all_committed decoders = list_all (λ d. d.committed) decoders

-- the end of the last committed span, or 0 where none is committed
abbrev pub cursor_of : List Decoder → ℕ
cursor_of decoders = if committed_count decoders == 0 then 0 else span_end_of decoders (committed_count decoders - 1)

-- a new span of so many bytes may start there: at or after the cursor, and all of it in the kind's partition
pub record CanStart (decoders : List Decoder) (ram pmem : ℕ) (kind : MemKind) (len start : ℕ) : Type 0 where
  pub after : cursor_of decoders ≤ start
  pub inside : lies_in kind ram pmem start len ≡ true

-- a decoder is left, and the span has the least start that it can have
pub record IsLeastSpan (decoders : List Decoder) (ram pmem : ℕ) (kind : MemKind) (len : ℕ) (span : Span) : Type 0 where
  pub left : all_committed decoders ≡ false
  pub can_start : CanStart decoders ram pmem kind len span.start
  pub least : (start : ℕ) → CanStart decoders ram pmem kind len start → span.start ≤ start
  pub skip : cursor_of decoders + span.skip ≡ span.start
  pub length : span.len ≡ len

-- a decoder is left, and the cursor stands past the ram that is asked for
pub record IsPastRam (decoders : List Decoder) (ram : ℕ) (kind : MemKind) (cursor : ℕ) : Type 0 where
  pub left : all_committed decoders ≡ false
  pub of_ram : kind ≡ Ram
  pub past : ram < cursor
  pub told : cursor ≡ cursor_of decoders

-- a decoder is left, the cursor is not past ram where that is asked for, and the span would end past its partition
pub record HasNoRoom (decoders : List Decoder) (ram pmem : ℕ) (kind : MemKind) (len : ℕ) (room : Room) : Type 0 where
  pub left : all_committed decoders ≡ false
  pub not_past : kind ≡ Ram → cursor_of decoders ≤ ram
  pub start : room.start ≡ max (cursor_of decoders) (partition_start kind ram)
  pub limit : room.limit ≡ partition_end kind ram pmem
  pub short : room.limit < room.start + len

-- the answer to a call that asks for a span
abbrev pub Allots : List Decoder → ℕ → ℕ → MemKind → ℕ → Result Span SpanFault → Type 0
Allots decoders ram pmem kind len (Ok span) = IsLeastSpan decoders ram pmem kind len span
Allots decoders ram pmem kind len (Err NoDecoder) = all_committed decoders ≡ true
Allots decoders ram pmem kind len (Err (PastRam cursor)) = IsPastRam decoders ram kind cursor
Allots decoders ram pmem kind len (Err (NoRoom room)) = HasNoRoom decoders ram pmem kind len room
