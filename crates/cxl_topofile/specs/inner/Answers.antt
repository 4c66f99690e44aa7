-- What single steps of reading a file answer.
use Rattle.std.specs.Prelude.{◌≡◌, ℕ, List, None, IsUtf8}
use Rattle.cxl_topo.specs.Faults.{IsFirstTreeFault}
use Rattle.cxl_topo.specs.declared.node.Node.{Node}
use Rattle.toml.specs.Parse.{parse_document}
use Rattle.cxl_topofile.specs.declared.fault.TopoFault.{TopoFault}
use Rattle.cxl_topofile.specs.declared.fault.TopoFault.TheVariants as faults

-- the bytes are no document, or memory ran out
abbrev pub IsNoDocument : List ℕ → TopoFault → Type 0
IsNoDocument bytes faults.Toml = IsUtf8 bytes → parse_document bytes ≡ None
IsNoDocument bytes faults.Memory = Unit {0}
IsNoDocument bytes fault = ⊥

-- the first fault of the nodes, or memory ran out
abbrev pub IsTreeRefusal : List Node → TopoFault → Type 0
IsTreeRefusal nodes (faults.Tree fault) = IsFirstTreeFault nodes fault
IsTreeRefusal nodes faults.Memory = Unit {0}
IsTreeRefusal nodes fault = ⊥
