-- What a topology file stands for, and what is its first fault.
use Rattle.std.specs.Prelude.{◌≡◌, ℕ, Bool, not, ◌&&◌, List, [], ◌∷◌, ◌++◌, Some, None, option_map, position, Ok, Err, IsUtf8}
use Rattle.std.specs.Str.{bytes_eq}
use Rattle.cxl_topo.specs.Kinds.{is_endpoint}
use Rattle.cxl_topo.specs.Tree.{Tree}
use Rattle.cxl_topo.specs.Faults.{IsTree, IsFirstTreeFault}
use Rattle.cxl_topo.specs.declared.node.Node.{Node}
use Rattle.cxl_topo.specs.declared.fault.TreeFault.{TreeFault}
use Rattle.toml.specs.Data.{Members}
use Rattle.toml.specs.Parse.{parse_document}
use Rattle.cxl_topofile.specs.declared.draft.Draft.{Draft}
use Rattle.cxl_topofile.specs.declared.fault.TopoFault.{TopoFault}
use Rattle.cxl_topofile.specs.declared.fault.TopoFault.TheVariants as faults
use Rattle.cxl_topofile.specs.Groups.{Stated, stated_of}

-- ---- parents by name

-- a bridge or a switch of this name
abbrev pub is_port_named : List ℕ → Node → Bool
is_port_named name node = not (is_endpoint node.kind) && bytes_eq node.name name

-- a switch or an endpoint, under the first earlier bridge or switch with its parent's name, and under nothing where there is none
abbrev pub node_under : List Node → Draft → Node
node_under earlier draft = record {
  name = draft.name;
  kind = draft.kind;
  parent = option_map (λ n. record { node = n; port = draft.port }) (position (is_port_named draft.parent) earlier);
  cap = draft.cap;
  forwards = draft.forwards;
}

-- these nodes, and after them the drafts, each under an earlier node
unfoldable pub attached : List Node → List Draft → List Node
attached nodes [] = nodes
attached nodes (draft ∷ drafts) = attached (nodes ++ node_under nodes draft ∷ []) drafts

-- the nodes numbered bridges first, then switches, then endpoints
abbrev pub tree_of : Stated → Tree
tree_of stated = record { nodes = attached stated.bridges stated.drafts; frames = stated.frames }

-- ---- whole files

-- the bytes are a TOML document with this table, by the contract of `toml`
pub record IsDocument (bytes : List ℕ) (members : Members) : Type 0 where
  pub utf8 : IsUtf8 bytes
  pub text : parse_document bytes ≡ Some members

-- the bytes stand for this tree
pub record IsTopologyFile (bytes : List ℕ) (tree : Tree) : Type 0 where
  pub members : Members
  pub document : IsDocument bytes members
  pub stated : Stated
  pub states : stated_of members ≡ Ok stated
  pub tree_is : tree ≡ tree_of stated
  pub legal : IsTree tree.nodes

-- the bytes are a document whose tables have this first fault
pub record HasTableFault (bytes : List ℕ) (fault : TopoFault) : Type 0 where
  pub members : Members
  pub document : IsDocument bytes members
  pub faulty : stated_of members ≡ Err fault

-- the tables are without fault, and the tree of their nodes has this first fault
pub record HasTreeFault (bytes : List ℕ) (fault : TreeFault) : Type 0 where
  pub members : Members
  pub document : IsDocument bytes members
  pub stated : Stated
  pub states : stated_of members ≡ Ok stated
  pub first : IsFirstTreeFault (tree_of stated).nodes fault

-- the first fault: of the text, then of a table, then of the tree; want of memory may always come
abbrev pub IsFirstTopoFault : List ℕ → TopoFault → Type 0
IsFirstTopoFault bytes faults.Toml = IsUtf8 bytes → parse_document bytes ≡ None
IsFirstTopoFault bytes (faults.Key place) = HasTableFault bytes (faults.Key place)
IsFirstTopoFault bytes (faults.Kind place) = HasTableFault bytes (faults.Kind place)
IsFirstTopoFault bytes (faults.Range place) = HasTableFault bytes (faults.Range place)
IsFirstTopoFault bytes (faults.Tree fault) = HasTreeFault bytes fault
IsFirstTopoFault bytes faults.Memory = Unit {0}
