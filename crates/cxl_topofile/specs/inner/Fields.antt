-- The values of a table by key, as one walk over it finds them.
use Rattle.std.specs.Prelude.{◌≡◌, ℕ, List, [], ◌∷◌, Option, Some, None, Ok, option_map, get_or, find}
use Rattle.std.specs.Borrow.{Bor}
use Rattle.std.specs.Str.{bytes_eq}
use Rattle.toml.specs.Data.{Data, Members, get_member}
use Rattle.toml.specs.View.{view, table_view}
use Rattle.toml.specs.declared.value.Value.{Value}
use Rattle.cxl_topofile.specs.declared.fields.Fields.{Fields}
use Rattle.cxl_topofile.specs.declared.key.Key.{Key}
use Rattle.cxl_topofile.specs.declared.key.Key.TheVariants as keys
use Rattle.cxl_topofile.specs.Keys.{key_text}
use Rattle.cxl_topofile.specs.Drafts.{known_in}

-- every key
abbrev pub all_keys : List Key
all_keys =
    keys.Frames ∷ keys.Bridge ∷ keys.Switch ∷ keys.Endpoint ∷ keys.Name ∷ keys.Uid ∷ keys.Parent ∷ keys.Port ∷ keys.Decoders ∷ keys.Targets
    ∷ keys.Low ∷ keys.High ∷ keys.Passthrough ∷ keys.Ways3 ∷ keys.Ways16 ∷ keys.Ram ∷ keys.Pmem ∷ keys.Unknown ∷ []

-- the first of these keys that a file writes so
abbrev pub first_key : List ℕ → List Key → Option Key
first_key text keys = find (λ key. bytes_eq text (key_text key)) keys

-- the key that a file writes so
abbrev pub key_of : List ℕ → Option Key
key_of text = first_key text all_keys

-- the place of a key among all
abbrev pub slot_of : Key → ℕ
slot_of keys.Frames = 0
slot_of keys.Bridge = 1
slot_of keys.Switch = 2
slot_of keys.Endpoint = 3
slot_of keys.Name = 4
slot_of keys.Uid = 5
slot_of keys.Parent = 6
slot_of keys.Port = 7
slot_of keys.Decoders = 8
slot_of keys.Targets = 9
slot_of keys.Low = 10
slot_of keys.High = 11
slot_of keys.Passthrough = 12
slot_of keys.Ways3 = 13
slot_of keys.Ways16 = 14
slot_of keys.Ram = 15
slot_of keys.Pmem = 16
slot_of keys.Unknown = 17

-- the slot of a text's key, and the last one where it is no key
abbrev pub slot_by : Option Key → ℕ
slot_by None = 18
slot_by (Some key) = slot_of key

-- the slot of a text
abbrev pub slot_at : List ℕ → ℕ
slot_at text = slot_by (key_of text)

-- what stands in the slot of a key
abbrev pub value_in : List (Option (Bor Value)) → Key → Option Data
value_in values key = option_map (λ value. view value.now) (get_or values (slot_of key) None)

-- each slot has what stands at its key in the table
pub record HasFields (values : List (Option (Bor Value))) (table : Members) : Type 0 where
  pub each : (key : Key) → value_in values key ≡ get_member (key_text key) table

-- the table of these fields
abbrev pub members_of : Fields → Members
members_of fields = table_view fields.table.now

-- its values stand in their slots
abbrev pub AreFields : Fields → Type 0
AreFields fields = HasFields fields.values (members_of fields)

-- the fields of this table, which has no other keys than these
pub record AreAllFields (fields : Fields) (table : Members) (keys : List Key) : Type 0 where
  pub each : AreFields fields
  pub known : known_in (members_of fields) keys ≡ Ok tt
  pub same : members_of fields ≡ table
