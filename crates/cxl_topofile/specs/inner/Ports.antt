-- Bridges and switches by name.
use Rattle.std.specs.Prelude.{◌≡◌, ℕ, List, position}
use Rattle.std.specs.HashMap.{HashMap, get}
use Rattle.cxl_enc.specs.Name.{IsName}
use Rattle.cxl_topo.specs.declared.node.Node.{Node}
use Rattle.cxl_topo.specs.declared.tables.NameKey.{NameKey}
use Rattle.cxl_topo.specs.Keys.{name_key, name_eq}
use Rattle.cxl_topofile.specs.File.{is_port_named}

-- what a search over the nodes would find, the table finds
abbrev pub ListsPorts : {S : Type 0} → List Node → HashMap NameKey ℕ S → Type 0
ListsPorts nodes table = (name : List ℕ) → IsName name → get name_eq table (name_key name) ≡ position (is_port_named name) nodes
