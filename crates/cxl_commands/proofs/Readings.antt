-- What comes where the bytes of a form's files are known.
use Rattle.std.proofs.Common.{◌≡◌, ◌≢◌, ℕ, ◌⊎◌, Some, None, List, [], ◌∷◌, inl, inr, sym, ap, subst, ◌∙◌}
use Rattle.cxl_enc.specs.Faults.{Rose}
use Rattle.cxl_table.specs.CedtFields.{CedtFields}
use Rattle.cxl_cedt.specs.Table.{IsTableText, FirstTableFault}
use Rattle.cxl_cedt.specs.declared.fault.CedtFault.{CedtFault}
use Rattle.cxl_image.specs.File.{IsImageFile, IsFirstImageFault}
use Rattle.cxl_image.specs.declared.fault.ImageFault.{ImageFault}
use Rattle.cxl_inputs.specs.Ends.{IsWritten}
use Rattle.cxl_inputs.specs.Host as hosts
use Rattle.cxl_inputs.specs.Image.{IsImageReading, IsFaultyImage, IsFaultyImageFile}
use Rattle.cxl_inputs.specs.Image as images
use Rattle.cxl_inputs.specs.Outcome.{Outcome}
use Rattle.cxl_inputs.specs.ResetHost as resets
use Rattle.cxl_inputs.specs.Table.{IsReading, IsFaulty}
use Rattle.cxl_inputs.specs.Table as tables
use Rattle.cxl_inputs.specs.Topology.{IsTreeReading, IsFaultyTree, IsTreeOf}
use Rattle.cxl_inputs.specs.Topology as trees
use Rattle.cxl_inputs.specs.declared.status.Status.{Status}
use Rattle.cxl_inputs.specs.declared.status.Status.TheVariants.{BadTable, BadTopo, BadImage, Memory}
use Rattle.cxl_io.specs.Told.{Bytes}
use Rattle.cxl_regs.specs.Registers.{Registers}
use Rattle.cxl_topo.specs.Tree.{Tree}
use Rattle.cxl_topo.specs.declared.node.Node.{Node}
use Rattle.cxl_topofile.specs.File.{IsTopologyFile, IsFirstTopoFault}
use Rattle.cxl_topofile.specs.declared.fault.TopoFault.{TopoFault}
use Rattle.cxl_topofile.specs.declared.fault.TopoFault.TheVariants as faults
use Rattle.cxl_commands.specs.Answers.{IsOutcomeByFiles, IsTableAnswer, IsAnswerBy}
use Rattle.cxl_commands.specs.Stopped.{IsStopped}
use Rattle.cxl_commands.specs.Form.{Form, OfTable, OfResetHost, OfHost, OfWords, table_file, topology_file, image_file}
use Rattle.cxl_commands.specs.Outside.{Outside}
use Rattle.cxl_commands.specs.Readings.{KnowsTable, KnowsTree, KnowsImage, Readings, ByTable, ByTree, ByHost, AreKnown}
use Rattle.cxl_commands.specs.RunByFiles.{IsRunByFiles, writes, is_cut, runs_out}
use Rattle.cxl_commands.specs.declared.form.HostAsk.{HostAsk}
use Rattle.cxl_commands.specs.declared.form.ResetAsk.{ResetAsk}
use Rattle.cxl_commands.specs.declared.form.TableAsk.{TableAsk}
use Rattle.cxl_commands.specs.declared.form.TableAsk.TheVariants as table_asks
use Rattle.cxl_commands.proofs.Routes.{one_route}
use Rattle.cxl_commands.proofs.Steps.{same_bytes, HasOneReading, Step, faulty, read, unwritten, no_bytes_step, next_step, unless_before}

-- ---- one reading of each kind of file

pub one_table : ((bytes : List ℕ) (table other : CedtFields) → IsTableText bytes table → IsTableText bytes other → table ≡ other) → ((bytes : List ℕ) (fault other : CedtFault) → FirstTableFault bytes fault → FirstTableFault bytes other → fault ≡ other) → ((bytes : List ℕ) (table : CedtFields) (fault : CedtFault) → IsTableText bytes table → FirstTableFault bytes fault → ⊥) → HasOneReading CedtFields CedtFault IsReading IsFaulty
one_table one one_fault not_both = record {
  one = λ bytes x y a b. one bytes x y a.spells b.spells;
  one_fault = λ bytes fault other a b. one_fault bytes fault other a.first b.first;
  not_both = λ bytes x fault a b. not_both bytes x fault a.spells b.first;
  few = λ bytes x a. a.within;
  few_faulty = λ bytes fault a. a.within;
}

pub one_topology : ((bytes : List ℕ) (tree other : Tree) → IsTopologyFile bytes tree → IsTopologyFile bytes other → tree ≡ other) → ((bytes : List ℕ) (fault other : TopoFault) → fault ≢ faults.Memory → other ≢ faults.Memory → IsFirstTopoFault bytes fault → IsFirstTopoFault bytes other → fault ≡ other) → ((bytes : List ℕ) (tree : Tree) (fault : TopoFault) → fault ≢ faults.Memory → IsTopologyFile bytes tree → IsFirstTopoFault bytes fault → ⊥) → HasOneReading Tree TopoFault IsTreeReading IsFaultyTree
one_topology one one_fault not_both = record {
  one = λ bytes x y a b. one bytes x y a.stands b.stands;
  one_fault = λ bytes fault other a b. one_fault bytes fault other a.real b.real a.first b.first;
  not_both = λ bytes x fault a b. not_both bytes x fault b.real a.stands b.first;
  few = λ bytes x a. a.within;
  few_faulty = λ bytes fault a. a.within;
}

-- the reading of an image's bytes over these nodes, and their fault
abbrev pub ReadsImage : List Node → List ℕ → List Registers → Type 0
ReadsImage nodes bytes blocks = IsImageReading bytes nodes blocks

abbrev pub FailsImage : List Node → List ℕ → ImageFault → Type 0
FailsImage nodes bytes fault = IsFaultyImage bytes nodes fault

pub one_image : ((bytes : List ℕ) (nodes : List Node) (image other : List Registers) → IsImageFile bytes nodes image → IsImageFile bytes nodes other → image ≡ other) → ((bytes : List ℕ) (nodes : List Node) (fault other : ImageFault) → IsFirstImageFault bytes nodes fault → IsFirstImageFault bytes nodes other → fault ≡ other) → ((bytes : List ℕ) (nodes : List Node) (image : List Registers) (fault : ImageFault) → IsImageFile bytes nodes image → IsFirstImageFault bytes nodes fault → ⊥) → (nodes : List Node) → HasOneReading (List Registers) ImageFault (ReadsImage nodes) (FailsImage nodes)
one_image one one_fault not_both nodes = record {
  one = λ bytes x y a b. one bytes nodes x y a.file b.file;
  one_fault = λ bytes fault other a b. one_fault bytes nodes fault other a.first b.first;
  not_both = λ bytes x fault a b. not_both bytes nodes x fault a.file b.first;
  few = λ bytes x a. a.within;
  few_faulty = λ bytes fault a. a.within;
}

-- what the three kinds have in common
pub record HaveOneReading : Type 0 where
  pub of_table : HasOneReading CedtFields CedtFault IsReading IsFaulty
  pub of_tree : HasOneReading Tree TopoFault IsTreeReading IsFaultyTree
  pub of_image : (nodes : List Node) → HasOneReading (List Registers) ImageFault (ReadsImage nodes) (FailsImage nodes)

-- the table's file is known to have these bytes
pub knows_table : (old : Outside) (form : Form) (file bytes : List ℕ) (table : CedtFields) → table_file form ≡ Some file → old.files.told file ≡ Bytes bytes → IsReading bytes table → KnowsTable form old.files.told table
knows_table old form file bytes table asked there reading = record { bytes = bytes; known = record { file = file; asked = asked; there = there }; reading = reading }

-- ---- from a run, file by file

module _ (old new : Outside) (status : Status) where
  -- a form's outcome by its table is written, or by its tree, or by its host
  abbrev pub AnsweredByTable : Form → CedtFields → Type 0
  AnsweredByTable form table = (o : Outcome) × IsAnswerBy form (ByTable table) o × IsWritten o status old.out new.out

  abbrev pub AnsweredByTree : Form → CedtFields → Tree → Type 0
  AnsweredByTree form table tree = (o : Outcome) × IsAnswerBy form (ByTree table tree) o × IsWritten o status old.out new.out

  abbrev pub AnsweredByHost : Form → CedtFields → Tree → List Registers → Type 0
  AnsweredByHost form table tree blocks = (o : Outcome) × IsAnswerBy form (ByHost table tree blocks) o × IsWritten o status old.out new.out

  abbrev pub ImageStep : List ℕ → Form → CedtFields → Tree → Type 0
  ImageStep image form table tree =
      Step old new status (List Registers) ImageFault (ReadsImage tree.nodes) (FailsImage tree.nodes) BadImage (old.files.told image) (AnsweredByHost form table tree)

  abbrev pub AfterTree : Form → CedtFields → Tree → Type 0
  AfterTree (OfTable cedt ask) table tree = ⊥
  AfterTree (OfResetHost cedt topo ask) table tree = AnsweredByTree (OfResetHost cedt topo ask) table tree
  AfterTree (OfHost cedt topo image ask) table tree = ImageStep image (OfHost cedt topo image ask) table tree
  AfterTree (OfWords ask) table tree = ⊥

  abbrev pub TreeStep : List ℕ → Form → CedtFields → Type 0
  TreeStep topo form table = Step old new status Tree TopoFault IsTreeReading IsFaultyTree BadTopo (old.files.told topo) (AfterTree form table)

  abbrev pub AfterTable : Form → CedtFields → Type 0
  AfterTable (OfTable cedt ask) table = AnsweredByTable (OfTable cedt ask) table
  AfterTable (OfResetHost cedt topo ask) table = TreeStep topo (OfResetHost cedt topo ask) table
  AfterTable (OfHost cedt topo image ask) table = TreeStep topo (OfHost cedt topo image ask) table
  AfterTable (OfWords ask) table = ⊥

  abbrev pub TableStep : List ℕ → Form → Type 0
  TableStep file form = Step old new status CedtFields CedtFault IsReading IsFaulty BadTable (old.files.told file) (AfterTable form)

  no_table_step : (file : List ℕ) (form : Form) (o : Outcome) → tables.HasNoTable file old.files new.files o → IsWritten o status old.out new.out → TableStep file form
  no_table_step file form o (tables.no_bytes none) written = no_bytes_step old new status CedtFields CedtFault IsReading IsFaulty BadTable [] file o (AfterTable form) none written
  no_table_step file form o (tables.not_sound fault is asks e) written = faulty is.bytes fault is.told_so is.faulty (written.status_is ∙ ap (λ x. x.status) e)

  no_tree_step : (before : List (List ℕ)) (file : List ℕ) (form : Form) (table : CedtFields) (o : Outcome) → trees.HasNoTree before file old.files new.files o → IsWritten o status old.out new.out → TreeStep file form table
  no_tree_step before file form table o (trees.no_bytes none) written = no_bytes_step old new status Tree TopoFault IsTreeReading IsFaultyTree BadTopo before file o (AfterTree form table) none written
  no_tree_step before file form table o (trees.not_sound fault is asks e) written = faulty is.bytes fault is.told_so is.faulty (written.status_is ∙ ap (λ x. x.status) e)

  no_image_step : (before : List (List ℕ)) (file : List ℕ) (form : Form) (table : CedtFields) (tree : Tree) (o : Outcome) → images.HasNoImage before file tree.nodes old.files new.files o → IsWritten o status old.out new.out → ImageStep file form table tree
  no_image_step before file form table tree o (images.no_bytes none) written = no_bytes_step old new status (List Registers) ImageFault (ReadsImage tree.nodes) (FailsImage tree.nodes) BadImage before file o (AnsweredByHost form table tree) none written
  no_image_step before file form table tree o (images.not_sound fault is asks e) written = faulty is.bytes fault is.told_so is.faulty (written.status_is ∙ ap (λ x. x.status) e)

  host_step : (cedt topo image : List ℕ) (ask : HostAsk) (o : Outcome) → IsOutcomeByFiles (OfHost cedt topo image ask) old.files new.files o → IsWritten o status old.out new.out → TableStep cedt (OfHost cedt topo image ask)
  host_step cedt topo image ask o (hosts.no_host (hosts.no_table none)) written = no_table_step cedt (OfHost cedt topo image ask) o none written
  host_step cedt topo image ask o (hosts.no_host (hosts.no_tree table of none)) written =
      read of.bytes table of.told_so of.reading (no_tree_step (cedt ∷ []) topo (OfHost cedt topo image ask) table o none written)
  host_step cedt topo image ask o (hosts.no_host (hosts.no_image table tree of of_tree none)) written =
      read of.bytes table of.told_so of.reading (read of_tree.bytes tree of_tree.told_so of_tree.reading (no_image_step (cedt ∷ topo ∷ []) image (OfHost cedt topo image ask) table tree o none written))
  host_step cedt topo image ask o (hosts.by_host table tree blocks is answer) written =
      let of = is.of_table in
      let of_tree = is.of_tree in
      let of_image = is.of_image in
      read of.bytes table of.told_so of.reading (read of_tree.bytes tree of_tree.told_so of_tree.reading (read of_image.bytes blocks of_image.told_so of_image.reading (o, answer.1, written)))

  reset_step : (cedt topo : List ℕ) (ask : ResetAsk) (o : Outcome) → IsOutcomeByFiles (OfResetHost cedt topo ask) old.files new.files o → IsWritten o status old.out new.out → TableStep cedt (OfResetHost cedt topo ask)
  reset_step cedt topo ask o (resets.no_reset_host (resets.no_table none)) written = no_table_step cedt (OfResetHost cedt topo ask) o none written
  reset_step cedt topo ask o (resets.no_reset_host (resets.no_tree table of none)) written =
      read of.bytes table of.told_so of.reading (no_tree_step (cedt ∷ []) topo (OfResetHost cedt topo ask) table o none written)
  reset_step cedt topo ask o (resets.by_reset_host table tree is answer) written =
      let of = is.of_table in
      let of_tree = is.of_tree in
      read of.bytes table of.told_so of.reading (read of_tree.bytes tree of_tree.told_so of_tree.reading (o, answer.1, written))

  file_step : (cedt : List ℕ) (ask : TableAsk) (o : Outcome) → IsOutcomeByFiles (OfTable cedt ask) old.files new.files o → IsWritten o status old.out new.out → TableStep cedt (OfTable cedt ask)
  file_step cedt ask o (tables.no_table none) written = no_table_step cedt (OfTable cedt ask) o none written
  file_step cedt ask o (tables.by_table table of answer) written = read of.bytes table of.told_so of.reading (o, answer.1, written)

  written_step : (form : Form) (file : List ℕ) → table_file form ≡ Some file → (o : Outcome) → IsOutcomeByFiles form old.files new.files o → IsWritten o status old.out new.out → TableStep file form
  written_step (OfTable cedt ask) file asked o answers written = let same : cedt ≡ file = cc in subst (λ f. TableStep f (OfTable cedt ask)) same (file_step cedt ask o answers written)
  written_step (OfResetHost cedt topo ask) file asked o answers written = let same : cedt ≡ file = cc in subst (λ f. TableStep f (OfResetHost cedt topo ask)) same (reset_step cedt topo ask o answers written)
  written_step (OfHost cedt topo image ask) file asked o answers written = let same : cedt ≡ file = cc in subst (λ f. TableStep f (OfHost cedt topo image ask)) same (host_step cedt topo image ask o answers written)
  written_step (OfWords ask) file asked o answers written = absurd (cc)

  -- the step of the table's file
  pub table_step : (form : Form) (file : List ℕ) → table_file form ≡ Some file → IsRunByFiles form old new status → TableStep file form
  table_step form file asked (writes o answers written) = written_step form file asked o answers written
  table_step form file asked (is_cut o answers is) = unwritten (inl (is.status_is, is.rose))
  table_step form file asked (runs_out takes is left) = unwritten (inr is)

  -- the step of the topology's file
  pub tree_step : (form : Form) (table : CedtFields) (file : List ℕ) → topology_file form ≡ Some file → AfterTable form table → TreeStep file form table
  tree_step (OfTable cedt ask) table file asked step = absurd (cc)
  tree_step (OfResetHost cedt topo ask) table file asked step = let same : topo ≡ file = cc in subst (λ f. TreeStep f (OfResetHost cedt topo ask) table) same step
  tree_step (OfHost cedt topo image ask) table file asked step = let same : topo ≡ file = cc in subst (λ f. TreeStep f (OfHost cedt topo image ask) table) same step
  tree_step (OfWords ask) table file asked step = absurd (cc)

  -- the step of the image's file
  pub image_step : (form : Form) (table : CedtFields) (tree : Tree) (file : List ℕ) → image_file form ≡ Some file → AfterTree form table tree → ImageStep file form table tree
  image_step (OfTable cedt ask) table tree file asked step = absurd step
  image_step (OfResetHost cedt topo ask) table tree file asked step = absurd (cc)
  image_step (OfHost cedt topo image ask) table tree file asked step = let same : image ≡ file = cc in subst (λ f. ImageStep f (OfHost cedt topo image ask) table tree) same step
  image_step (OfWords ask) table tree file asked step = absurd step

  table_alone : (form : Form) (table : CedtFields) → topology_file form ≡ None → AfterTable form table → AnsweredByTable form table
  table_alone (OfTable cedt ask) table none step = step
  table_alone (OfResetHost cedt topo ask) table none step = absurd (cc)
  table_alone (OfHost cedt topo image ask) table none step = absurd (cc)
  table_alone (OfWords ask) table none step = absurd step

  tree_alone : (form : Form) (table : CedtFields) (tree : Tree) → image_file form ≡ None → AfterTree form table tree → AnsweredByTree form table tree
  tree_alone (OfTable cedt ask) table tree none step = absurd step
  tree_alone (OfResetHost cedt topo ask) table tree none step = step
  tree_alone (OfHost cedt topo image ask) table tree none step = absurd (cc)
  tree_alone (OfWords ask) table tree none step = absurd step

  -- ---- where the files are known

  pub after_table : HasOneReading CedtFields CedtFault IsReading IsFaulty → (form : Form) → IsRunByFiles form old new status → (table : CedtFields) → KnowsTable form old.files.told table → AfterTable form table ⊎ IsStopped status old new
  after_table one form run table knows =
      let known = knows.known in
      next_step old new status CedtFields CedtFault IsReading IsFaulty BadTable (old.files.told known.file) (AfterTable form) one knows.bytes known.there table knows.reading (table_step form known.file known.asked run)

  module _ (one : HaveOneReading) (form : Form) (run : IsRunByFiles form old new status) where
    pub after_tree : (table : CedtFields) (tree : Tree) → KnowsTable form old.files.told table → KnowsTree form old.files.told tree → AfterTree form table tree ⊎ IsStopped status old new
    after_tree table tree knows knows_tree =
        let known = knows_tree.known in
        unless_before old new status (after_table one.of_table form run table knows) (λ step.
        next_step old new status Tree TopoFault IsTreeReading IsFaultyTree BadTopo (old.files.told known.file) (AfterTree form table) one.of_tree knows_tree.bytes known.there tree knows_tree.reading (tree_step form table known.file known.asked step))

    pub after_image : (table : CedtFields) (tree : Tree) (blocks : List Registers) → KnowsTable form old.files.told table → KnowsTree form old.files.told tree → KnowsImage form old.files.told tree.nodes blocks → AnsweredByHost form table tree blocks ⊎ IsStopped status old new
    after_image table tree blocks knows knows_tree knows_image =
        let known = knows_image.known in
        unless_before old new status (after_tree table tree knows knows_tree) (λ step.
        next_step old new status (List Registers) ImageFault (ReadsImage tree.nodes) (FailsImage tree.nodes) BadImage (old.files.told known.file) (AnsweredByHost form table tree) (one.of_image tree.nodes) knows_image.bytes known.there blocks knows_image.reading (image_step form table tree known.file known.asked step))

    -- the answer by what all files are read as
    pub answer_comes : (readings : Readings) → AreKnown form old.files.told readings → ((o : Outcome) × IsAnswerBy form readings o × IsWritten o status old.out new.out) ⊎ IsStopped status old new
    answer_comes (ByTable table) known = unless_before old new status (after_table one.of_table form run table known.1) (λ step. inl (table_alone form table known.0 step))
    answer_comes (ByTree table tree) known = unless_before old new status (after_tree table tree known.1 known.2) (λ step. inl (tree_alone form table tree known.0 step))
    answer_comes (ByHost table tree blocks) known = after_image table tree blocks known.0 known.1 known.2

  -- ---- one answer

  one_table_answer : (ask : TableAsk) (table : CedtFields) (outcome other : Outcome) → IsTableAnswer ask table outcome → IsTableAnswer ask table other → outcome ≡ other
  one_table_answer (table_asks.Route h) table outcome other answer again = one_route table h outcome other answer again
  one_table_answer table_asks.Listing table outcome other answer again = answer ∙ sym again
  one_table_answer table_asks.Normal table outcome other answer again = answer ∙ sym again

  one_answer : (form : Form) (table : CedtFields) (outcome other : Outcome) → IsAnswerBy form (ByTable table) outcome → IsAnswerBy form (ByTable table) other → outcome ≡ other
  one_answer (OfTable cedt ask) table outcome other answer again = one_table_answer ask table outcome other answer again
  one_answer (OfResetHost cedt topo ask) table outcome other answer again = absurd answer
  one_answer (OfHost cedt topo image ask) table outcome other answer again = absurd answer
  one_answer (OfWords ask) table outcome other answer again = absurd answer

  -- the one answer by a known table
  pub table_answer_comes : HasOneReading CedtFields CedtFault IsReading IsFaulty → (form : Form) → IsRunByFiles form old new status → topology_file form ≡ None → (table : CedtFields) (outcome : Outcome) → KnowsTable form old.files.told table → IsAnswerBy form (ByTable table) outcome → IsWritten outcome status old.out new.out ⊎ IsStopped status old new
  table_answer_comes one form run none table outcome knows answer =
      unless_before old new status (after_table one form run table knows) (λ step.
      let some = table_alone form table none step in
      inl (subst (λ o. IsWritten o status old.out new.out) (one_answer form table some.0 outcome some.1 answer) some.2))

  -- the faulty image is over the known tree
  pub known_tree : (form : Form) → HaveOneReading → (topo file : List ℕ) (told_tree tree : Tree) (fault : ImageFault) → topology_file form ≡ Some topo → IsTreeOf (old.files.told topo) told_tree → KnowsTree form old.files.told tree → IsFaultyImageFile (old.files.told file) told_tree.nodes fault → IsFaultyImageFile (old.files.told file) tree.nodes fault
  known_tree form one topo file told_tree tree fault asked of knows is =
      let known = knows.known in
      let asked_too = known.asked in
      let names : known.file ≡ topo = cc in
      let there : old.files.told topo ≡ Bytes knows.bytes = subst (λ f. old.files.told f ≡ Bytes knows.bytes) names known.there in
      let reading = subst (λ b. IsTreeReading b told_tree) (same_bytes (old.files.told topo) of.bytes knows.bytes of.told_so there) of.reading in
      subst (λ (t : Tree). IsFaultyImageFile (old.files.told file) t.nodes fault) (one.of_tree.one knows.bytes told_tree tree reading knows.reading) is

  -- nothing failed
  pub unless_stopped : {P : Type 0} → ¬ (Rose old.files.faults new.files.faults) → ¬ (Rose old.out.faults new.out.faults) → P ⊎ IsStopped status old new → (status ≡ Memory) ⊎ P
  unless_stopped files_well sink_well (inl some) = inr some
  unless_stopped files_well sink_well (inr (inl stopped)) = absurd (files_well stopped.1)
  unless_stopped files_well sink_well (inr (inr (inl failed_there))) = absurd (sink_well failed_there.1)
  unless_stopped files_well sink_well (inr (inr (inr is))) = inl is
