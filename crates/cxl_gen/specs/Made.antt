-- Generated systems: the table, the topology and the commands of a number (this project's rule).
use Rattle.std.specs.Prelude.{ℕ, ◌+◌, ◌*◌, ◌/◌, ◌%◌, ◌^◌, ◌==◌, ◌≤◌, false, true, IsTrue, List, [], ◌∷◌, ◌++◌, length, map, replicate, codes, decimal, Some, None}
use Rattle.std.specs.List.{range_with_len, flat_map, list_all}
use Rattle.cxl_enc.specs.declared.caps.MemKind.TheVariants.{Ram}
use Rattle.cxl_enc.specs.Caps.{word_of}
use Rattle.cxl_enc.specs.Name.{is_name_byte}
use Rattle.cxl_table.specs.CedtFields.{CedtFields}
use Rattle.cxl_table.specs.declared.cedt.Record.{Record}
use Rattle.cxl_table.specs.declared.cedt.Record.TheVariants as records
use Rattle.cxl_script.specs.declared.command.Command.{Command}
use Rattle.cxl_script.specs.declared.command.Command.TheVariants as commands
use Rattle.cxl_topo.specs.Tree.{Tree}
use Rattle.cxl_topo.specs.declared.node.Node.{Node}
use Rattle.cxl_topo.specs.declared.node.NodeKind.TheVariants.{Bridge, Endpoint}
use Rattle.cxl_topofile.specs.Groups.{default_frames}

-- ---- the topology

-- the capability words of a topology's defaults: four decoders, all granularities and ways, eight targets of a port
abbrev pub port_word : ℕ
port_word = word_of (record { decoders = 4; targets = 8; low = true; high = true; ways3 = false; ways16 = false })

-- the capability word of an endpoint
abbrev pub endpoint_word : ℕ
endpoint_word = word_of (record { decoders = 4; targets = 0; low = true; high = true; ways3 = true; ways16 = true })

-- bridge i
abbrev pub made_bridge : ℕ → Node
made_bridge i = record { name = codes "hb" ++ decimal i; kind = Bridge i; parent = None; cap = port_word; forwards = false }

-- the name of an endpoint, in the topology and in commands
abbrev pub endpoint_name : ℕ → List ℕ
endpoint_name i = codes "e" ++ decimal i

-- two on each bridge, of 4 GiB of ram
abbrev pub made_endpoint : ℕ → Node
made_endpoint i = record {
  name = endpoint_name i;
  kind = Endpoint (record { ram = 0x100000000; pmem = 0 });
  parent = Some (record { node = i / 2; port = i % 2 });
  cap = endpoint_word;
  forwards = false;
}

-- the bridges, and then the endpoints
abbrev pub made_nodes : ℕ → List Node
made_nodes n = map made_bridge (range_with_len 0 (2 * n)) ++ map made_endpoint (range_with_len 0 (4 * n))

-- and its topology
abbrev pub made_tree : ℕ → Tree
made_tree n = record { nodes = made_nodes n; frames = default_frames }

-- ---- the table

-- a CHBS of CXL 2.0 for each bridge
abbrev pub made_chbs : ℕ → Record
made_chbs i = records.Chbs (record { uid = i; version = 1; base = 0x80000000 + 0x10000 * i; length = 0x10000 })

-- a map for each of the granularity codes 1, 3 and 5
abbrev pub made_cxims : ℕ → Record
made_cxims code = records.Cxims (record { gran = code; maps = (2 ^ (code + 8) + 2 ^ (code + 14)) ∷ [] })

-- where window j starts
abbrev pub window_base : ℕ → ℕ
window_base j = 0x1000000000 * (j + 1)

-- a window of 16 GiB over each two bridges, host-only coherent and volatile; the granularities of codes 0 to 5 in turn, and XOR at every other one
abbrev pub made_window : ℕ → Record
made_window j = records.Cfmws (record {
  base = window_base j;
  size = 0x400000000;
  ways = 1;
  xor = j % 2 == 1;
  gran = j % 6;
  restrict = 6;
  qtg = 0;
  targets = (2 * j) ∷ (2 * j + 1) ∷ [];
})

-- the records of the table: bridges, maps and windows
abbrev pub made_records : ℕ → List Record
made_records n = map made_chbs (range_with_len 0 (2 * n)) ++ map made_cxims (1 ∷ 3 ∷ 5 ∷ []) ++ map made_window (range_with_len 0 n)

-- the table of a number
abbrev pub made_table : ℕ → CedtFields
made_table n = record {
  head = record { revision = 1; oem_id = replicate 6 0; oem_table = replicate 8 0; oem_revision = 0; creator = replicate 4 0; creator_revision = 0 };
  records = made_records n;
}

-- ---- the commands

-- a region of 4 GiB over the four endpoints of each window
abbrev pub made_create : ℕ → Command
made_create j = commands.Create (record {
  name = codes "r" ++ decimal j;
  kind = Ram;
  size = 0x100000000;
  gran = None;
  endpoints = map endpoint_name (range_with_len (4 * j) 4);
  ways = None;
})

-- the eight bytes of a number, lowest first, and where they are stored
abbrev pub eight_bytes : ℕ → List ℕ
eight_bytes i = map (λ k. i / 256 ^ k % 256) (range_with_len 0 8)

-- the host address of the i-th access in window j
abbrev pub store_place : ℕ → ℕ → ℕ
store_place j i = window_base j + 0x1010 * i

-- the i-th store in window j
abbrev pub made_store : ℕ → ℕ → Command
made_store j i = commands.Store (record { h = store_place j i; bytes = eight_bytes i })

-- the i-th load in window j
abbrev pub made_load : ℕ → ℕ → Command
made_load j i = commands.Load (record { h = store_place j i; len = 8 })

-- a thousand of each in a region
abbrev pub made_stores : ℕ → List Command
made_stores j = map (made_store j) (range_with_len 0 1000)

-- a thousand loads in window j
abbrev pub made_loads : ℕ → List Command
made_loads j = map (made_load j) (range_with_len 0 1000)

-- a region is made and stored to
abbrev pub made_region : ℕ → List Command
made_region j = made_create j ∷ made_stores j

-- one region after the other; after all of these, all is loaded
abbrev pub made_commands : ℕ → List Command
made_commands n = flat_map made_region (range_with_len 0 n) ++ flat_map made_loads (range_with_len 0 n)

-- ---- names

-- what a name with a number of three digits may begin with
abbrev pub IsFront : List ℕ → Type 0
IsFront front = (length front ≤ 12) × IsTrue (list_all is_name_byte front)
