-- What the files say of a run that left them behind: each has a reading.
use Rattle.std.proofs.Common.{◌≡◌, ℕ, Some, List, length, sym, subst}
use Rattle.std.proofs.Math.Seq.{take-length}
use Rattle.cxl_table.specs.CedtFields.{CedtFields}
use Rattle.cxl_cedt.specs.declared.fault.CedtFault.{CedtFault}
use Rattle.cxl_image.specs.declared.fault.ImageFault.{ImageFault}
use Rattle.cxl_inputs.specs.File.{AsksForSome}
use Rattle.cxl_inputs.specs.Image.{IsImageOf}
use Rattle.cxl_inputs.specs.Table.{IsTableOf, IsReading, IsFaulty}
use Rattle.cxl_inputs.specs.Topology.{IsTreeOf, IsTreeReading, IsFaultyTree}
use Rattle.cxl_inputs.specs.declared.status.Status.{Status}
use Rattle.cxl_inputs.specs.declared.status.Status.TheVariants.{BadTable, BadTopo, BadImage}
use Rattle.cxl_io.specs.Fetch.{AsksFor}
use Rattle.cxl_io.specs.Told.{Told}
use Rattle.cxl_model.specs.System.{System}
use Rattle.cxl_regs.specs.Registers.{Registers}
use Rattle.cxl_topo.specs.Tree.{Tree}
use Rattle.cxl_topofile.specs.declared.fault.TopoFault.{TopoFault}
use Rattle.cxl_commands.specs.Form.{Form, OfTable, OfResetHost, OfHost, OfWords, own_files, table_file, topology_file, image_file}
use Rattle.cxl_commands.specs.Outside.{Outside}
use Rattle.cxl_commands.specs.Readings.{KnowsTree}
use Rattle.cxl_shell.specs.commands.Script.{IsStart}
use Rattle.cxl_commands.specs.declared.form.HostAsk.TheVariants as host_asks
use Rattle.cxl_commands.specs.declared.form.ResetAsk.TheVariants as reset_asks
use Rattle.cxl_shell.proofs.Lifted.{IsBehindFiles}
use Rattle.cxl_commands.proofs.Readings.{HaveOneReading, ReadsImage, FailsImage}
use Rattle.cxl_commands.proofs.Steps.{same_bytes, Step, read}

-- ---- where a session starts, file by file

start_table : (form : Form) (told : List ℕ → Told) (s : System) (frames : ℕ) → IsStart form told s frames → (file : List ℕ) → table_file form ≡ Some file → (table : CedtFields) × IsTableOf (told file) table
start_table (OfTable cedt ask) told s frames none file asked = absurd none
start_table (OfResetHost cedt topo (reset_asks.Plan create)) told s frames none file asked = absurd none
start_table (OfResetHost cedt topo reset_asks.Script) told s frames start file asked =
    let same : cedt ≡ file = cc in subst (λ f. (table : CedtFields) × IsTableOf (told f) table) same (start.0, start.2.of_table)
start_table (OfHost cedt topo image host_asks.Check) told s frames none file asked = absurd none
start_table (OfHost cedt topo image host_asks.Script) told s frames start file asked =
    let same : cedt ≡ file = cc in subst (λ f. (table : CedtFields) × IsTableOf (told f) table) same (start.0, start.3.of_table)
start_table (OfWords ask) told s frames start file asked = absurd (cc)

start_tree : (form : Form) (told : List ℕ → Told) (s : System) (frames : ℕ) → IsStart form told s frames → (file : List ℕ) → topology_file form ≡ Some file → (tree : Tree) × IsTreeOf (told file) tree
start_tree (OfTable cedt ask) told s frames none file asked = absurd none
start_tree (OfResetHost cedt topo (reset_asks.Plan create)) told s frames none file asked = absurd none
start_tree (OfResetHost cedt topo reset_asks.Script) told s frames start file asked =
    let same : topo ≡ file = cc in subst (λ f. (tree : Tree) × IsTreeOf (told f) tree) same (start.1, start.2.of_tree)
start_tree (OfHost cedt topo image host_asks.Check) told s frames none file asked = absurd none
start_tree (OfHost cedt topo image host_asks.Script) told s frames start file asked =
    let same : topo ≡ file = cc in subst (λ f. (tree : Tree) × IsTreeOf (told f) tree) same (start.1, start.3.of_tree)
start_tree (OfWords ask) told s frames start file asked = absurd (cc)

-- an image over the tree of its topology
record IsImageOver (told : List ℕ → Told) (topo image : List ℕ) : Type 0 where
  pub tree : Tree
  pub blocks : List Registers
  pub of_tree : IsTreeOf (told topo) tree
  pub of_image : IsImageOf (told image) tree.nodes blocks

start_image : (form : Form) (told : List ℕ → Told) (s : System) (frames : ℕ) → IsStart form told s frames → (topo file : List ℕ) → topology_file form ≡ Some topo → image_file form ≡ Some file → IsImageOver told topo file
start_image (OfTable cedt ask) told s frames none topo file by asked = absurd none
start_image (OfResetHost cedt place ask) told s frames start topo file by asked = absurd (cc)
start_image (OfHost cedt place image host_asks.Check) told s frames none topo file by asked = absurd none
start_image (OfHost cedt place image host_asks.Script) told s frames start topo file by asked =
    let one : place ≡ topo = cc in
    let two : image ≡ file = cc in
    subst (λ f. IsImageOver told f file) one (subst (λ f. IsImageOver told place f) two (record { tree = start.1; blocks = start.2; of_tree = start.3.of_tree; of_image = start.3.of_image }))
start_image (OfWords ask) told s frames start topo file by asked = absurd (cc)

-- ---- a run that left its files behind

module _ (form : Form) (old new : Outside) (status : Status) (behind : IsBehindFiles form old new status) where
  -- the table is read, and what comes of it is not said
  pub table_behind : (file : List ℕ) → table_file form ≡ Some file → Step old new status CedtFields CedtFault IsReading IsFaulty BadTable (old.files.told file) (λ table. Unit {0})
  table_behind file asked =
      let of = start_table form old.files.told behind.start behind.frames behind.host file asked in
      read of.1.bytes of.0 of.1.told_so of.1.reading tt

  -- and so is the topology
  pub tree_behind : (file : List ℕ) → topology_file form ≡ Some file → Step old new status Tree TopoFault IsTreeReading IsFaultyTree BadTopo (old.files.told file) (λ tree. Unit {0})
  tree_behind file asked =
      let of = start_tree form old.files.told behind.start behind.frames behind.host file asked in
      read of.1.bytes of.0 of.1.told_so of.1.reading tt

  -- and the image, over a tree that is known
  pub image_behind : HaveOneReading → (tree : Tree) → KnowsTree form old.files.told tree → (file : List ℕ) → image_file form ≡ Some file → Step old new status (List Registers) ImageFault (ReadsImage tree.nodes) (FailsImage tree.nodes) BadImage (old.files.told file) (λ blocks. Unit {0})
  image_behind one tree knows file asked =
      let known = knows.known in
      let of = start_image form old.files.told behind.start behind.frames behind.host known.file file known.asked asked in
      let reading = subst (λ b. IsTreeReading b of.tree) (same_bytes (old.files.told known.file) of.of_tree.bytes knows.bytes of.of_tree.told_so known.there) of.of_tree.reading in
      let same : of.tree ≡ tree = one.of_tree.one knows.bytes of.tree tree reading knows.reading in
      let image = subst (λ (t : Tree). IsImageOf (old.files.told file) t.nodes of.blocks) same of.of_image in
      read image.bytes of.blocks image.told_so image.reading tt

  -- all of its files were asked for
  pub some_behind : AsksForSome (own_files form) old.files new.files
  some_behind = record { count = length (own_files form); asks = subst (AsksFor old.files new.files) (sym (take-length (own_files form))) behind.asks }
