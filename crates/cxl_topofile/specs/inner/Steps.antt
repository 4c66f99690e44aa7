-- Steps of reading that are taken together.
use Rattle.std.specs.Prelude.{ℕ, ℤ, true, false, List, ◌++◌, Option, Some, pos, Result, Ok}
use Rattle.cxl_enc.specs.Limits.{address_limit}
use Rattle.cxl_enc.specs.declared.caps.Caps.{Caps}
use Rattle.cxl_topo.specs.declared.node.Capacity.{Capacity}
use Rattle.toml.specs.Data.{Items, Members, as_integer}
use Rattle.cxl_topofile.specs.declared.key.Key.{Key}
use Rattle.cxl_topofile.specs.declared.key.Key.TheVariants as keys
use Rattle.cxl_topofile.specs.declared.fault.Wrong.{Wrong}
use Rattle.cxl_topofile.specs.declared.fault.TopoFault.{TopoFault}
use Rattle.cxl_topofile.specs.declared.fault.Section.TheVariants as sections
use Rattle.cxl_topofile.specs.declared.draft.Draft.{Draft}
use Rattle.cxl_topofile.specs.declared.draft.Seat.{Seat}
use Rattle.cxl_topofile.specs.Values.{◌>>=◌, value_at, natural, number_at, is_within, flag_at, stated_name, stated_decoders, stated_targets}
use Rattle.cxl_topofile.specs.Drafts.{port_of, switch_of, endpoint_of}
use Rattle.cxl_topofile.specs.Groups.{tables_of, all_of}

-- an integer that is not negative
unfoldable pub natural_at : Members → Key → Option ℤ → Result ℕ Wrong
natural_at table key default = do
  z ← value_at as_integer table key default
  natural key z

-- the capabilities of a bridge or a switch
unfoldable pub caps_of : Members → Result Caps Wrong
caps_of table = do
  decoders ← stated_decoders table
  targets ← stated_targets table
  low ← flag_at table keys.Low true
  high ← flag_at table keys.High true
  Ok (record { decoders = decoders; targets = targets; low = low; high = high; ways3 = false; ways16 = false })

-- the name of a switch or an endpoint, and where it stands
unfoldable pub seat_of : Members → Result Seat Wrong
seat_of table = do
  name ← stated_name table keys.Name
  parent ← stated_name table keys.Parent
  port ← port_of table
  Ok (record { name = name; parent = parent; port = port })

-- the capacity of an endpoint
unfoldable pub capacity_of : Members → Result Capacity Wrong
capacity_of table = do
  ram ← number_at table keys.Ram (Some (pos 0)) (is_within 0 address_limit)
  pmem ← number_at table keys.Pmem (Some (pos 0)) (is_within 0 address_limit)
  Ok (record { ram = ram; pmem = pmem })

-- the switches that tables state, and after them the endpoints
unfoldable pub drafts_of : Items → Items → Result (List Draft) TopoFault
drafts_of switches endpoints = do
  first ← all_of sections.Switch switch_of 0 (tables_of switches)
  last ← all_of sections.Endpoint endpoint_of 0 (tables_of endpoints)
  Ok (first ++ last)
