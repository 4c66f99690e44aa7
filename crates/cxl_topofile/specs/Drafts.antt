-- The nodes that single tables state.
use Rattle.std.specs.Prelude.{ℕ, true, false, List, [], ◌∷◌, Some, None, pos, Result, Ok, Err, if◌then◌else◌}
use Rattle.cxl_enc.specs.Caps.{word_of}
use Rattle.cxl_enc.specs.Limits.{address_limit, placeholder_cap}
use Rattle.cxl_topo.specs.declared.node.Node.{Node}
use Rattle.cxl_topo.specs.declared.node.NodeKind.TheVariants as kinds
use Rattle.toml.specs.Data.{Members}
use Rattle.cxl_topofile.specs.declared.key.Key.{Key}
use Rattle.cxl_topofile.specs.declared.key.Key.TheVariants as keys
use Rattle.cxl_topofile.specs.declared.fault.Wrong.{Wrong}
use Rattle.cxl_topofile.specs.declared.draft.Draft.{Draft}
use Rattle.cxl_topofile.specs.declared.draft.PortCaps.{PortCaps}
use Rattle.cxl_topofile.specs.Keys.{has_unknown}
use Rattle.cxl_topofile.specs.Wrongs.{missing}
use Rattle.cxl_topofile.specs.Values.{◌>>=◌, number_at, is_within, flag_at, stated_name, stated_decoders, stated_targets}

-- a table with no other keys
abbrev pub known_in : Members → List Key → Result (Unit {0}) Wrong
known_in table allowed = if has_unknown table allowed then Err (missing keys.Unknown) else Ok tt

-- the keys of a bridge's, a switch's and an endpoint's table
abbrev pub bridge_keys : List Key
bridge_keys = keys.Name ∷ keys.Uid ∷ keys.Decoders ∷ keys.Targets ∷ keys.Low ∷ keys.High ∷ keys.Passthrough ∷ []

-- the keys of a switch
abbrev pub switch_keys : List Key
switch_keys = keys.Name ∷ keys.Parent ∷ keys.Port ∷ keys.Decoders ∷ keys.Targets ∷ keys.Low ∷ keys.High ∷ keys.Passthrough ∷ []

-- the keys of an endpoint
abbrev pub endpoint_keys : List Key
endpoint_keys =
    keys.Name ∷ keys.Parent ∷ keys.Port ∷ keys.Decoders ∷ keys.Low ∷ keys.High ∷ keys.Ways3 ∷ keys.Ways16 ∷ keys.Ram ∷ keys.Pmem ∷ []

-- the capability word of a bridge or a switch: that of its keys, or a placeholder's where it forwards
unfoldable pub port_caps_of : Members → Result PortCaps Wrong
port_caps_of table = do
  decoders ← stated_decoders table
  targets ← stated_targets table
  low ← flag_at table keys.Low true
  high ← flag_at table keys.High true
  forwards ← flag_at table keys.Passthrough false
  let word = word_of (record { decoders = decoders; targets = targets; low = low; high = high; ways3 = false; ways16 = false })
  Ok (record { cap = if forwards then placeholder_cap else word; forwards = forwards })

-- the capability word of an endpoint
unfoldable pub endpoint_cap_of : Members → Result ℕ Wrong
endpoint_cap_of table = do
  decoders ← stated_decoders table
  low ← flag_at table keys.Low true
  high ← flag_at table keys.High true
  ways3 ← flag_at table keys.Ways3 true
  ways16 ← flag_at table keys.Ways16 true
  Ok (word_of (record { decoders = decoders; targets = 0; low = low; high = high; ways3 = ways3; ways16 = ways16 }))

-- the port of the parent where a switch or an endpoint stands
abbrev pub port_of : Members → Result ℕ Wrong
port_of table = number_at table keys.Port None (is_within 0 255)

-- the bridge of a table, or its first fault
unfoldable pub bridge_of : Members → Result Node Wrong
bridge_of table = do
  known ← known_in table bridge_keys
  name ← stated_name table keys.Name
  uid ← number_at table keys.Uid None (is_within 0 4294967295)
  caps ← port_caps_of table
  Ok (record { name = name; kind = kinds.Bridge uid; parent = None; cap = caps.cap; forwards = caps.forwards })

-- the switch of a table, or its first fault
unfoldable pub switch_of : Members → Result Draft Wrong
switch_of table = do
  known ← known_in table switch_keys
  name ← stated_name table keys.Name
  parent ← stated_name table keys.Parent
  port ← port_of table
  caps ← port_caps_of table
  Ok (record { name = name; kind = kinds.Switch; parent = parent; port = port; cap = caps.cap; forwards = caps.forwards })

-- the endpoint of a table, or its first fault
unfoldable pub endpoint_of : Members → Result Draft Wrong
endpoint_of table = do
  known ← known_in table endpoint_keys
  name ← stated_name table keys.Name
  parent ← stated_name table keys.Parent
  port ← port_of table
  cap ← endpoint_cap_of table
  ram ← number_at table keys.Ram (Some (pos 0)) (is_within 0 address_limit)
  pmem ← number_at table keys.Pmem (Some (pos 0)) (is_within 0 address_limit)
  Ok (record { name = name; kind = kinds.Endpoint (record { ram = ram; pmem = pmem }); parent = parent; port = port; cap = cap; forwards = false })
