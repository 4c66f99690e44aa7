-- The keys of a topology file.
use Rattle.std.specs.Prelude.{codes, ℕ, Bool, false, not, ◌||◌, List, []}
use Rattle.std.specs.List.{list_any}
use Rattle.std.specs.Str.{bytes_eq}
use Rattle.toml.specs.Data.{Members, no_members, member}
use Rattle.cxl_topofile.specs.declared.key.Key.{Key}
use Rattle.cxl_topofile.specs.declared.key.Key.TheVariants as keys

-- a key as the file writes it
abbrev pub key_text : Key → List ℕ
key_text keys.Frames = codes "frames"
key_text keys.Bridge = codes "bridge"
key_text keys.Switch = codes "switch"
key_text keys.Endpoint = codes "endpoint"
key_text keys.Name = codes "name"
key_text keys.Uid = codes "uid"
key_text keys.Parent = codes "parent"
key_text keys.Port = codes "port"
key_text keys.Decoders = codes "decoders"
key_text keys.Targets = codes "targets"
key_text keys.Low = codes "low"
key_text keys.High = codes "high"
key_text keys.Passthrough = codes "passthrough"
key_text keys.Ways3 = codes "ways3"
key_text keys.Ways16 = codes "ways16"
key_text keys.Ram = codes "ram"
key_text keys.Pmem = codes "pmem"
key_text keys.Unknown = []

-- a key as a message names it
abbrev pub shown_key : Key → List ℕ
shown_key keys.Unknown = codes "unknown"
shown_key key = key_text key

-- whether a text is one of these keys
abbrev pub is_key : List ℕ → List Key → Bool
is_key text keys = list_any (λ key. bytes_eq (key_text key) text) keys

-- whether a table has a key beside these
abbrev pub has_unknown : Members → List Key → Bool
has_unknown no_members keys = false
has_unknown (member text value rest) keys = not (is_key text keys) || has_unknown rest keys
