-- What the files of a form are read as, where their bytes are known.
use Rattle.std.specs.Prelude.{◌≡◌, ℕ, Some, None, List}
use Rattle.cxl_table.specs.CedtFields.{CedtFields}
use Rattle.cxl_inputs.specs.Image.{IsImageReading}
use Rattle.cxl_inputs.specs.Table.{IsReading}
use Rattle.cxl_inputs.specs.Topology.{IsTreeReading}
use Rattle.cxl_io.specs.Told.{Told, Bytes}
use Rattle.cxl_regs.specs.Registers.{Registers}
use Rattle.cxl_topo.specs.Tree.{Tree}
use Rattle.cxl_topo.specs.declared.node.Node.{Node}
use Rattle.cxl_commands.specs.Form.{Form, table_file, topology_file, image_file}

-- the file with the table has these bytes
pub record IsTableFile (form : Form) (told : List ℕ → Told) (bytes : List ℕ) : Type 0 where
  pub file : List ℕ
  pub asked : table_file form ≡ Some file
  pub there : told file ≡ Bytes bytes

-- the file with the topology has these bytes
pub record IsTreeFile (form : Form) (told : List ℕ → Told) (bytes : List ℕ) : Type 0 where
  pub file : List ℕ
  pub asked : topology_file form ≡ Some file
  pub there : told file ≡ Bytes bytes

-- the file with the image has these bytes
pub record IsFileOfImage (form : Form) (told : List ℕ → Told) (bytes : List ℕ) : Type 0 where
  pub file : List ℕ
  pub asked : image_file form ≡ Some file
  pub there : told file ≡ Bytes bytes

-- the table's bytes are known, and they spell this table
pub record KnowsTable (form : Form) (told : List ℕ → Told) (table : CedtFields) : Type 0 where
  pub bytes : List ℕ
  pub known : IsTableFile form told bytes
  pub reading : IsReading bytes table

-- the topology's bytes are known, and they stand for this tree
pub record KnowsTree (form : Form) (told : List ℕ → Told) (tree : Tree) : Type 0 where
  pub bytes : List ℕ
  pub known : IsTreeFile form told bytes
  pub reading : IsTreeReading bytes tree

-- the image's bytes are known, and they are a file of this image
pub record KnowsImage (form : Form) (told : List ℕ → Told) (nodes : List Node) (blocks : List Registers) : Type 0 where
  pub bytes : List ℕ
  pub known : IsFileOfImage form told bytes
  pub reading : IsImageReading bytes nodes blocks

-- what all files of a form are read as: one table, or also a tree, or also an image over that tree
pub data Readings : Type 0 where
  ByTable : (table : CedtFields) → Readings
  ByTree : (table : CedtFields) (tree : Tree) → Readings
  ByHost : (table : CedtFields) (tree : Tree) (blocks : List Registers) → Readings

-- all files of the form are known, and are read so
abbrev pub AreKnown : Form → (List ℕ → Told) → Readings → Type 0
AreKnown form told (ByTable table) = (topology_file form ≡ None) × KnowsTable form told table
AreKnown form told (ByTree table tree) = (image_file form ≡ None) × KnowsTable form told table × KnowsTree form told tree
AreKnown form told (ByHost table tree blocks) = KnowsTable form told table × KnowsTree form told tree × KnowsImage form told tree.nodes blocks
