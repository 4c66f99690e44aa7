-- What reading a topology from a file comes to.
use Rattle.std.specs.Prelude.{◌≡◌, ◌≢◌, ℕ, ◌≤◌, Option, None, Some, List, [], ◌∷◌, ◌++◌, length, codes}
use Rattle.cxl_enc.specs.Limits.{file_limit}
use Rattle.cxl_io.specs.Fetch.{FetchState, AsksFor}
use Rattle.cxl_io.specs.Told.{Told, AreTold}
use Rattle.cxl_reply.specs.Words.{line}
use Rattle.cxl_topo.specs.Tree.{Tree}
use Rattle.cxl_topo.specs.declared.fault.TreeFault.{TreeFault}
use Rattle.cxl_topo.specs.declared.fault.TreeFault.TheVariants as trees
use Rattle.cxl_topofile.specs.File.{IsTopologyFile, IsFirstTopoFault}
use Rattle.cxl_topofile.specs.Places.{place_text}
use Rattle.cxl_topofile.specs.declared.fault.TopoFault.{TopoFault}
use Rattle.cxl_topofile.specs.declared.fault.TopoFault.TheVariants as faults
use Rattle.cxl_inputs.specs.Faults.{numbered}
use Rattle.cxl_inputs.specs.File.{HasNoBytes}
use Rattle.cxl_inputs.specs.Outcome.{Outcome, one_piece}
use Rattle.cxl_inputs.specs.declared.status.Status.TheVariants.{BadTopo}

-- ---- the text of a fault

-- the word of a tree's fault; want of memory never is one
abbrev pub tree_fault_word : TreeFault → List ℕ
tree_fault_word trees.TooMany = codes "too-many"
tree_fault_word (trees.NoParent node) = codes "no-parent"
tree_fault_word (trees.PortTaken node) = codes "port-taken"
tree_fault_word (trees.Forks node) = codes "forks"
tree_fault_word (trees.NameTaken node) = codes "name-taken"
tree_fault_word (trees.UidTaken node) = codes "uid-taken"
tree_fault_word (trees.Depth node) = codes "depth"
tree_fault_word (trees.Caps node) = codes "caps"
tree_fault_word (trees.Capacity node) = codes "capacity"
tree_fault_word trees.Memory = codes "memory"

-- the node that has it
abbrev pub tree_fault_node : TreeFault → Option ℕ
tree_fault_node (trees.NoParent node) = Some node
tree_fault_node (trees.PortTaken node) = Some node
tree_fault_node (trees.Forks node) = Some node
tree_fault_node (trees.NameTaken node) = Some node
tree_fault_node (trees.UidTaken node) = Some node
tree_fault_node (trees.Depth node) = Some node
tree_fault_node (trees.Caps node) = Some node
tree_fault_node (trees.Capacity node) = Some node
tree_fault_node other = None

-- a fault by its name, and the place in the file, or what the tree's fault says
abbrev pub topology_fault_name : TopoFault → List ℕ
topology_fault_name faults.Toml = codes "toml"
topology_fault_name (faults.Key place) = codes "key " ++ place_text place
topology_fault_name (faults.Kind place) = codes "kind " ++ place_text place
topology_fault_name (faults.Range place) = codes "range " ++ place_text place
topology_fault_name (faults.Tree fault) = numbered (tree_fault_word fault) (tree_fault_node fault)
topology_fault_name faults.Memory = codes "memory"

-- the line of a fault of the topology
abbrev pub topology_fault_text : TopoFault → List ℕ
topology_fault_text fault = line (codes "error: topology " ++ topology_fault_name fault)

-- the outcome where bytes stand for no tree
abbrev pub bad_topology : TopoFault → Outcome
bad_topology fault = one_piece (BadTopo fault) (topology_fault_text fault)

-- ---- the bytes of a topology's file

-- they stand for this tree, and are not too many
pub record IsTreeReading (bytes : List ℕ) (tree : Tree) : Type 0 where
  pub within : length bytes ≤ file_limit
  pub stands : IsTopologyFile bytes tree

-- this is their first fault, and they are not too many
pub record IsFaultyTree (bytes : List ℕ) (fault : TopoFault) : Type 0 where
  pub within : length bytes ≤ file_limit
  pub real : fault ≢ faults.Memory
  pub first : IsFirstTopoFault bytes fault

-- the file's bytes stand for this tree
pub record IsTreeOf (told : Told) (tree : Tree) : Type 0 where
  pub bytes : List ℕ
  pub told_so : AreTold told bytes
  pub reading : IsTreeReading bytes tree

-- the file's bytes have this first fault
pub record IsFaultyTreeFile (told : Told) (fault : TopoFault) : Type 0 where
  pub bytes : List ℕ
  pub told_so : AreTold told bytes
  pub faulty : IsFaultyTree bytes fault

-- there is a tree for which the bytes stand
abbrev pub HasTree : List ℕ → Type 0
HasTree bytes = (tree : Tree) × IsTopologyFile bytes tree

-- ---- a command that reads a topology, behind these files

-- the file gives no bytes, or bytes that have a fault
pub data HasNoTree (before : List (List ℕ)) (file : List ℕ) (old new : FetchState) (outcome : Outcome) : Type 0 where
  no_bytes : HasNoBytes before file old new outcome → HasNoTree before file old new outcome
  not_sound : (fault : TopoFault) → IsFaultyTreeFile (old.told file) fault → AsksFor old new (before ++ file ∷ []) → outcome ≡ bad_topology fault → HasNoTree before file old new outcome
