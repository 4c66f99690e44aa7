-- What stands at one key of a table.
use Rattle.std.specs.Prelude.{◌≡◌, ℕ, ℤ, pos, negsuc, Bool, ◌&&◌, nat_le, List, Option, Some, None, Result, Ok, Err, if◌then◌else◌}
use Rattle.std.specs.Option.{ok_or}
use Rattle.cxl_enc.specs.Name.{is_name}
use Rattle.cxl_enc.specs.Caps.{is_decoder_count, is_target_count}
use Rattle.toml.specs.Data.{Data, Members, get_member, as_str, as_integer, as_bool}
use Rattle.cxl_topofile.specs.declared.key.Key.{Key}
use Rattle.cxl_topofile.specs.declared.key.Key.TheVariants as keys
use Rattle.cxl_topofile.specs.declared.fault.Wrong.{Wrong}
use Rattle.cxl_topofile.specs.Keys.{key_text}
use Rattle.cxl_topofile.specs.Wrongs.{missing, of_other_kind, out_of_range}

infixl 10 ◌>>=◌
-- what is read by a value that was read; else its fault
abbrev pub ◌>>=◌ : {A B E : Type 0} → Result A E → (A → Result B E) → Result B E
(Ok x) >>= f = f x
(Err e) >>= f = Err e

-- what was returned, seen by view, is what reading gives
abbrev pub Gives : {A B E : Type 0} → (A → B) → Result A E → Result B E → Type 0
Gives view (Ok x) read = read ≡ Ok (view x)
Gives view (Err e) read = read ≡ Err e

-- the value, which `take` reads out of data of its kind, or the default where there is none
abbrev pub taken_or : {A : Type 0} → (Data → Option A) → Key → Option A → Option Data → Result A Wrong
taken_or take key default None = ok_or default (missing key)
taken_or take key default (Some value) = ok_or (take value) (of_other_kind key)

-- the value of a key, or its default where the key is missing and has one
abbrev pub value_at : {A : Type 0} → (Data → Option A) → Members → Key → Option A → Result A Wrong
value_at take table key default = taken_or take key default (get_member (key_text key) table)

-- a value that passes the test
abbrev pub within : {A : Type 0} → Key → (A → Bool) → A → Result A Wrong
within key test x = if test x then Ok x else Err (out_of_range key)

-- a number that is not negative
abbrev pub natural : Key → ℤ → Result ℕ Wrong
natural key (pos n) = Ok n
natural key (negsuc n) = Err (out_of_range key)

-- it lies between these two, both included
abbrev pub is_within : ℕ → ℕ → ℕ → Bool
is_within low high n = nat_le low n && nat_le n high

-- an integer that passes the test
unfoldable pub number_at : Members → Key → Option ℤ → (ℕ → Bool) → Result ℕ Wrong
number_at table key default test = do
  z ← value_at as_integer table key default
  n ← natural key z
  within key test n

-- a boolean
abbrev pub flag_at : Members → Key → Bool → Result Bool Wrong
flag_at table key default = value_at as_bool table key (Some default)

-- a name
unfoldable pub stated_name : Members → Key → Result (List ℕ) Wrong
stated_name table key = do
  text ← value_at as_str table key None
  within key is_name text

-- how many decoders, 4 where it is not said
abbrev pub stated_decoders : Members → Result ℕ Wrong
stated_decoders table = number_at table keys.Decoders (Some (pos 4)) is_decoder_count

-- how many targets, 8 where it is not said
abbrev pub stated_targets : Members → Result ℕ Wrong
stated_targets table = number_at table keys.Targets (Some (pos 8)) is_target_count
