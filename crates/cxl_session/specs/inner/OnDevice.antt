-- The live regions on a device of which poison records name bytes.
use Rattle.std.specs.Prelude.{◌≡◌, ◌≢◌, ℕ, ◌+◌, ◌<◌, ◌==◌, nat_lt, ◌&&◌, Bool, true, if◌then◌else◌, List, [], ◌∷◌, ◌++◌, length, slice_get, Some, All, AllPairs, Contains}
use Rattle.std.specs.List.{list_any}
use Rattle.cxl_regs.specs.declared.decoder.Decoder.{Decoder}
use Rattle.cxl_model.specs.declared.found.Found.{Found}
use Rattle.cxl_model.specs.declared.found.Place.{Place}
use Rattle.cxl_model.specs.declared.poison.Entry.{Entry}
use Rattle.cxl_model.specs.Bytes.{slot_length}
use Rattle.cxl_poison.specs.Pieces.{record_end}
use Rattle.cxl_session.specs.State.{SessionState}

-- places of live regions, each once
pub record ArePlaces (session : SessionState) (places : List ℕ) : Type 0 where
  pub each : All (λ place. place < length session.founds) places
  pub once : AllPairs (λ a b. a ≢ b) places

-- with one more, where it is not among them
abbrev pub with_place : List ℕ → ℕ → List ℕ
with_place places place = if list_any (λ n. n == place) places then places else (places ++ place ∷ [])

-- where they were such, they are, with those that were there and with that of each live region of the decoder's base
pub record AddsServed (session : SessionState) (decoder : Decoder) (old new : List ℕ) : Type 0 where
  pub are : ArePlaces session old → ArePlaces session new
  pub kept : (place : ℕ) → Contains old place → Contains new place
  pub served : (place : ℕ) (found : Found) → slice_get session.founds place ≡ Some found → decoder.committed ≡ true → found.base ≡ decoder.base → Contains new place

-- the record names a byte of the device from one on up to below another
abbrev pub names_byte : ℕ → ℕ → Entry → Bool
names_byte from end entry = nat_lt entry.dpa end && nat_lt from (record_end entry)

-- one of the records does
abbrev pub is_named : List Entry → ℕ → ℕ → Bool
is_named records from end = list_any (names_byte from end) records

-- such places, with those of all that have a span on the endpoint's device of which one of the records names a byte
pub record ArePlacesNamed (session : SessionState) (endpoint : ℕ) (records : List Entry) (places : List ℕ) : Type 0 where
  pub are : ArePlaces session places
  pub all : (place slot : ℕ) (found : Found) (on : Place) → slice_get session.founds place ≡ Some found → slice_get found.spans slot ≡ Some on → on.endpoint ≡ endpoint
      → is_named records on.start (on.start + slot_length found) ≡ true → Contains places place
