-- Replies of a session as records of numbers and bytes (this project's rules).
use Rattle.std.specs.Prelude.{◌≡◌, ℕ, List, length, map}
use Rattle.cxl_enc.specs.Name.{padded}
use Rattle.cxl_reply.specs.declared.details.Downed.{Downed}
use Rattle.cxl_reply.specs.declared.details.Upped.{Upped}
use Rattle.cxl_reply.specs.declared.details.Via.{Via}
use Rattle.cxl_reply.specs.declared.reply.Reply.{Reply}
use Rattle.cxl_reply.specs.declared.reply.Reply.TheVariants as replies
use Rattle.cxl_handle.specs.declared.facts.HostByteFact.{HostByteFact}
use Rattle.cxl_handle.specs.declared.facts.NameFact.{NameFact}
use Rattle.cxl_handle.specs.declared.facts.PlaceFact.{PlaceFact}
use Rattle.cxl_handle.specs.declared.facts.RefusalFact.{RefusalFact}
use Rattle.cxl_handle.specs.declared.facts.ViaFact.{ViaFact}

-- ---- refusals

-- the status of a reply that is no answer to what was asked
abbrev pub refused : ℕ
refused = 8

-- a refusal of this number that tells no number
abbrev pub bare : ℕ → RefusalFact
bare kind = record { kind = kind; count = 0; first = 0; second = 0 }

-- one that tells two
abbrev pub with_two : ℕ → ℕ → ℕ → RefusalFact
with_two kind first second = record { kind = kind; count = 2; first = first; second = second }

-- the refusal that a reply is, or the pending job that a fault of the bus left; 0 where it is neither
abbrev pub refusal_of : Reply → RefusalFact
refusal_of (replies.BadLine fault) = bare 1
refusal_of (replies.Busy name) = bare 2
refusal_of (replies.NameTaken name) = bare 3
refusal_of (replies.NoRegion name) = bare 4
refusal_of (replies.NoEndpoint name) = bare 5
refusal_of replies.RegionsFull = bare 6
refusal_of (replies.Full lack) = with_two 7 lack.need lack.free
refusal_of (replies.Locked spot) = with_two 8 spot.node spot.decoder
refusal_of (replies.NotLast spot) = with_two 9 spot.node spot.decoder
refusal_of replies.Unmapped = bare 10
refusal_of replies.CrossesEnd = bare 11
refusal_of (replies.Refused fault) = bare 12
refusal_of replies.NoSet = bare 13
refusal_of (replies.SameRegion name) = bare 14
refusal_of (replies.SizesDiffer sizes) = with_two 15 sizes.from sizes.to
refusal_of replies.PoisonShort = bare 16
refusal_of (replies.PoisonCount counted) = with_two 17 counted.said counted.room
refusal_of replies.BusUndone = bare 18
refusal_of (replies.BusPending pending) = with_two 19 pending.done pending.total
refusal_of replies.BusRead = bare 20
refusal_of replies.NothingPending = bare 21
refusal_of other = bare 0

-- ---- answers

-- a name, with zeros behind its bytes
abbrev pub name_of : List ℕ → NameFact
name_of name = record { len = length name; bytes = padded name }

-- a port on an address's way
abbrev pub via_of : Via → ViaFact
via_of port = record { node = port.node; decoder = port.decoder; entry = port.entry }

-- where a host address goes
abbrev pub place_of : Downed → PlaceFact
place_of downed = record {
  dpa = downed.dpa;
  endpoint = downed.endpoint;
  slot = downed.slot;
  position = downed.position;
  via_count = downed.len;
  via = map via_of downed.via;
  region = name_of downed.name;
}

-- which host address goes to a device byte
abbrev pub host_byte_of : Upped → HostByteFact
host_byte_of upped = record { hpa = upped.h; region = name_of upped.name }

-- ---- what is told of a reply

-- where a host address goes is told, with status 0; or the record stays
abbrev pub TellsPlace : Reply → ℕ → PlaceFact → PlaceFact → Type 0
TellsPlace (replies.Down downed) code old new = (code ≡ 0) × (new ≡ place_of downed)
TellsPlace other code old new = (code ≡ refused) × (new ≡ old)

-- which host address goes to a device byte is told, with status 0; or the record stays
abbrev pub TellsHostByte : Reply → ℕ → HostByteFact → HostByteFact → Type 0
TellsHostByte (replies.Up upped) code old new = (code ≡ 0) × (new ≡ host_byte_of upped)
TellsHostByte other code old new = (code ≡ refused) × (new ≡ old)

-- the bytes that were read are told, with status 0; or the room stays
abbrev pub TellsBytes : Reply → ℕ → List ℕ → List ℕ → Type 0
TellsBytes (replies.Loaded bytes) code old new = (code ≡ 0) × (new ≡ bytes)
TellsBytes other code old new = (code ≡ refused) × (new ≡ old)

-- bytes were written, with status 0
abbrev pub TellsStored : Reply → ℕ → Type 0
TellsStored (replies.Stored len) code = code ≡ 0
TellsStored other code = code ≡ refused

-- where bytes were read, they are as many as the room has
abbrev pub HasLoaded : List ℕ → Reply → Type 0
HasLoaded room (replies.Loaded bytes) = length bytes ≡ length room
HasLoaded room other = Unit {0}
