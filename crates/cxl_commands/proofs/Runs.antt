-- How a run came to its status.
use Rattle.std.proofs.Common.{◌≡◌, ◌≢◌, ℕ, true, ◌⊎◌, Some, List, [], ◌∷◌, ◌++◌, refl, sym, ap, subst, ◌∙◌, inl, inr, arith}
use Rattle.std.specs.List.{Contains}
use Rattle.cxl_enc.specs.Faults.{Rose}
use Rattle.cxl_table.specs.CedtFields.{CedtFields}
use Rattle.cxl_cedt.specs.declared.fault.CedtFault.{CedtFault}
use Rattle.cxl_image.specs.declared.fault.ImageFault.{ImageFault}
use Rattle.cxl_inputs.specs.Ends.{IsWritten, IsCutShort}
use Rattle.cxl_inputs.specs.File.{HasNoBytes, not_read, not_small, AsksForSome, HasFailedFetch}
use Rattle.cxl_inputs.specs.Host.{host_of, AreRead}
use Rattle.cxl_inputs.specs.Host as hosts
use Rattle.cxl_inputs.specs.Image.{IsFaultyImageFile}
use Rattle.cxl_inputs.specs.Image as images
use Rattle.cxl_inputs.specs.Outcome.{Outcome}
use Rattle.cxl_inputs.specs.ResetHost.{reset_host_of, AreBothRead}
use Rattle.cxl_inputs.specs.ResetHost as resets
use Rattle.cxl_inputs.specs.Table.{IsTableOf, IsFaultyFile}
use Rattle.cxl_inputs.specs.Table as tables
use Rattle.cxl_inputs.specs.Topology.{IsTreeOf, IsFaultyTreeFile}
use Rattle.cxl_inputs.specs.Topology as trees
use Rattle.cxl_inputs.specs.declared.status.Status.{Status}
use Rattle.cxl_inputs.specs.declared.status.Status.TheVariants.{Done, Usage, FetchFault, BadTable, BadTopo, WriteFault, Refused, Memory, BadImage, TooLarge}
use Rattle.cxl_io.specs.Fetch.{AsksFor, IsTooLarge}
use Rattle.cxl_regs.specs.Registers.{Registers}
use Rattle.cxl_script.specs.declared.command.Create.{Create}
use Rattle.cxl_model.specs.System.{System}
use Rattle.cxl_topo.specs.Tree.{Tree}
use Rattle.cxl_topofile.specs.declared.fault.TopoFault.{TopoFault}
use Rattle.cxl_commands.specs.Answers.{IsOutcomeByFiles, IsTableAnswer, IsResetAnswer, IsHostAnswer, IsAnswerBy}
use Rattle.cxl_commands.specs.Form.{Form, OfTable, OfResetHost, OfHost, OfWords, Route, Check, Plan, Script, NoCreate, Help, Version, Unreadable, own_files, table_file, topology_file, image_file, takes_memory}
use Rattle.cxl_commands.specs.Outside.{Outside}
use Rattle.cxl_commands.specs.Readings.{Readings, ByTable, ByTree, ByHost}
use Rattle.cxl_commands.specs.RunByFiles.{RunsOut, before, behind, IsRunByFiles, writes, is_cut, runs_out}
use Rattle.cxl_commands.specs.commands.Check.{IsChecked, regions_told, breach_told}
use Rattle.cxl_commands.specs.commands.Plan.{IsPlanned, plan_told, refusal_told}
use Rattle.cxl_commands.specs.commands.RefusedStart.{IsRefusedStart}
use Rattle.cxl_commands.specs.commands.RefusedStart as starts
use Rattle.cxl_commands.specs.declared.form.HostAsk.{HostAsk}
use Rattle.cxl_commands.specs.declared.form.HostAsk.TheVariants as host_asks
use Rattle.cxl_commands.specs.declared.form.ResetAsk.{ResetAsk}
use Rattle.cxl_commands.specs.declared.form.ResetAsk.TheVariants as reset_asks
use Rattle.cxl_commands.specs.declared.form.TableAsk.{TableAsk}
use Rattle.cxl_commands.specs.declared.form.TableAsk.TheVariants as table_asks
use Rattle.cxl_commands.specs.declared.form.WordsAsk.{WordsAsk}
use Rattle.cxl_commands.specs.declared.form.WordsAsk.TheVariants as plain_asks
use Rattle.cxl_commands.proofs.Routes.{route_status}

-- an outcome by a table has one of two statuses
table_status : (ask : TableAsk) (table : CedtFields) (outcome : Outcome) → IsTableAnswer ask table outcome → (outcome.status ≡ Done) ⊎ (outcome.status ≡ Refused)
table_status (table_asks.Route h) table outcome answer = route_status table h outcome answer
table_status table_asks.Listing table outcome answer = inl (ap (λ o. o.status) answer)
table_status table_asks.Normal table outcome answer = inl (ap (λ o. o.status) answer)

check_status : (s : System) (outcome : Outcome) → IsChecked s outcome → (outcome.status ≡ Done) ⊎ (outcome.status ≡ Refused)
check_status s outcome (regions_told regions sound is listed e) = inl (ap (λ o. o.status) e)
check_status s outcome (breach_told rule node decoder first e) = inr (ap (λ o. o.status) e)

-- no session starts, which is told
pub start_status : (s : System) (outcome : Outcome) → IsRefusedStart s outcome → outcome.status ≡ Refused
start_status s outcome (starts.breach_told rule node decoder first e) = ap (λ o. o.status) e
start_status s outcome (starts.many_told regions is listed many e) = ap (λ o. o.status) e

-- and so has one by a host
host_status : (ask : HostAsk) (table : CedtFields) (tree : Tree) (blocks : List Registers) (outcome : Outcome) → IsHostAnswer ask table tree blocks outcome → (outcome.status ≡ Done) ⊎ (outcome.status ≡ Refused)
host_status host_asks.Check table tree blocks outcome answer = check_status (host_of table tree blocks) outcome answer
host_status host_asks.Script table tree blocks outcome answer = inr (start_status (host_of table tree blocks) outcome answer)

plan_status : (s : System) (create : Create) (outcome : Outcome) → IsPlanned s create outcome → (outcome.status ≡ Done) ⊎ (outcome.status ≡ Refused)
plan_status s create outcome (plan_told plan is e) = inl (ap (λ o. o.status) e)
plan_status s create outcome (refusal_told reply is e) = inr (ap (λ o. o.status) e)

-- and one by a host after reset
reset_status : (ask : ResetAsk) (table : CedtFields) (tree : Tree) (outcome : Outcome) → IsResetAnswer ask table tree outcome → (outcome.status ≡ Done) ⊎ (outcome.status ≡ Refused)
reset_status (reset_asks.Plan create) table tree outcome answer = plan_status (reset_host_of table tree) create outcome answer
reset_status reset_asks.Script table tree outcome answer = absurd answer

-- the outcome by what the files are read as has one of these two statuses
pub answer_status : (form : Form) (readings : Readings) (outcome : Outcome) → IsAnswerBy form readings outcome → (outcome.status ≡ Done) ⊎ (outcome.status ≡ Refused)
answer_status (OfTable cedt ask) (ByTable table) outcome answer = table_status ask table outcome answer
answer_status (OfTable cedt ask) (ByTree table tree) outcome answer = absurd answer
answer_status (OfTable cedt ask) (ByHost table tree blocks) outcome answer = absurd answer
answer_status (OfResetHost cedt topo ask) (ByTable table) outcome answer = absurd answer
answer_status (OfResetHost cedt topo ask) (ByTree table tree) outcome answer = reset_status ask table tree outcome answer
answer_status (OfResetHost cedt topo ask) (ByHost table tree blocks) outcome answer = absurd answer
answer_status (OfHost cedt topo image ask) (ByTable table) outcome answer = absurd answer
answer_status (OfHost cedt topo image ask) (ByTree table tree) outcome answer = absurd answer
answer_status (OfHost cedt topo image ask) (ByHost table tree blocks) outcome answer = host_status ask table tree blocks outcome answer
answer_status (OfWords ask) readings outcome answer = absurd answer

module _ (old new : Outside) where
  -- the table in its file answers what is asked of it, and the outcome is written
  pub record IsTableAnswered (form : Form) (status : Status) : Type 0 where
    pub cedt : List ℕ
    pub ask : TableAsk
    pub table : CedtFields
    pub outcome : Outcome
    pub is : form ≡ OfTable cedt ask
    pub asks : AsksFor old.files new.files (cedt ∷ [])
    pub of : IsTableOf (old.files.told cedt) table
    pub answer : IsTableAnswer ask table outcome
    pub written : IsWritten outcome status old.out new.out

  -- the table and the topology in its files do
  pub record IsResetAnswered (form : Form) (status : Status) : Type 0 where
    pub cedt : List ℕ
    pub topo : List ℕ
    pub ask : ResetAsk
    pub table : CedtFields
    pub tree : Tree
    pub outcome : Outcome
    pub is : form ≡ OfResetHost cedt topo ask
    pub asks : AsksFor old.files new.files (cedt ∷ topo ∷ [])
    pub of : AreBothRead old.files.told cedt topo table tree
    pub answer : IsResetAnswer ask table tree outcome
    pub written : IsWritten outcome status old.out new.out

  -- the table, the topology and the image in its files do
  pub record IsHostAnswered (form : Form) (status : Status) : Type 0 where
    pub cedt : List ℕ
    pub topo : List ℕ
    pub image : List ℕ
    pub ask : HostAsk
    pub table : CedtFields
    pub tree : Tree
    pub blocks : List Registers
    pub outcome : Outcome
    pub is : form ≡ OfHost cedt topo image ask
    pub asks : AsksFor old.files new.files (cedt ∷ topo ∷ image ∷ [])
    pub of : AreRead old.files.told cedt topo image table tree blocks
    pub answer : IsHostAnswer ask table tree blocks outcome
    pub written : IsWritten outcome status old.out new.out

  -- the files of a form answer it
  pub data IsAnswered (form : Form) (status : Status) : Type 0 where
    by_table : IsTableAnswered form status → IsAnswered form status
    by_tree : IsResetAnswered form status → IsAnswered form status
    by_host : IsHostAnswered form status → IsAnswered form status

  pub data Came (form : Form) : Status → Type 0 where
    misused : (form ≡ Unreadable) ⊎ (form ≡ NoCreate) → Came form Usage
    helped : (ask : WordsAsk) → form ≡ OfWords ask → AsksFor old.files new.files [] → Came form Done
    unread : HasFailedFetch (own_files form) old.files new.files → Came form FetchFault
    large : (file : List ℕ) → Contains (own_files form) file → IsTooLarge (old.files.told file) → Came form TooLarge
    faulty : (file : List ℕ) (fault : CedtFault) → table_file form ≡ Some file → IsFaultyFile (old.files.told file) fault → Came form (BadTable fault)
    faulty_tree : (file : List ℕ) (fault : TopoFault) → topology_file form ≡ Some file → IsFaultyTreeFile (old.files.told file) fault → Came form (BadTopo fault)
    faulty_image : (topo file : List ℕ) (tree : Tree) (fault : ImageFault) → topology_file form ≡ Some topo → IsTreeOf (old.files.told topo) tree → image_file form ≡ Some file → IsFaultyImageFile (old.files.told file) tree.nodes fault → Came form (BadImage fault)
    done : IsAnswered form Done → Came form Done
    refuses : IsAnswered form Refused → Came form Refused
    cut : (outcome : Outcome) → IsOutcomeByFiles form old.files new.files outcome → IsCutShort outcome WriteFault old.out new.out → Came form WriteFault
    out : takes_memory form ≡ true → RunsOut form old new → Came form Memory

  -- ---- from the relation

  by_status : (form : Form) (status : Status) (outcome : Outcome) → status ≡ outcome.status → IsAnswered form status → (outcome.status ≡ Done) ⊎ (outcome.status ≡ Refused) → Came form status
  by_status form status outcome own answered (inl e) = let is = own ∙ e in subst (Came form) (sym is) (done (subst (IsAnswered form) is answered))
  by_status form status outcome own answered (inr e) = let is = own ∙ e in subst (Came form) (sym is) (refuses (subst (IsAnswered form) is answered))

  -- a file that gives no bytes
  came_no_bytes : (form : Form) (before : List (List ℕ)) (file : List ℕ) (after : List (List ℕ)) → own_files form ≡ before ++ file ∷ after → Contains (own_files form) file → (status : Status) (outcome : Outcome) → HasNoBytes before file old.files new.files outcome → IsWritten outcome status old.out new.out → Came form status
  came_no_bytes form front file after own there status outcome (not_read rose asks e) written =
      subst (Came form) (sym (written.status_is ∙ ap (λ o. o.status) e)) (unread (record { before = front; file = file; after = after; own = own; asks = asks; rose = rose }))
  came_no_bytes form front file after own there status outcome (not_small many asks e) written =
      subst (Came form) (sym (written.status_is ∙ ap (λ o. o.status) e)) (large file there many)

  came_no_table : (form : Form) (file : List ℕ) (after : List (List ℕ)) → own_files form ≡ file ∷ after → Contains (own_files form) file → table_file form ≡ Some file → (status : Status) (outcome : Outcome) → tables.HasNoTable file old.files new.files outcome → IsWritten outcome status old.out new.out → Came form status
  came_no_table form file after own there asked status outcome (tables.no_bytes none) written = came_no_bytes form [] file after own there status outcome none written
  came_no_table form file after own there asked status outcome (tables.not_sound fault is asks e) written =
      subst (Came form) (sym (written.status_is ∙ ap (λ o. o.status) e)) (faulty file fault asked is)

  came_by_table : (cedt : List ℕ) (ask : TableAsk) (status : Status) (outcome : Outcome) → IsOutcomeByFiles (OfTable cedt ask) old.files new.files outcome → IsWritten outcome status old.out new.out → Came (OfTable cedt ask) status
  came_by_table cedt ask status outcome (tables.no_table none) written =
      came_no_table (OfTable cedt ask) cedt [] refl (0, omega arith, refl) refl status outcome none written
  came_by_table cedt ask status outcome (tables.by_table table of answer) written =
      by_status (OfTable cedt ask) status outcome written.status_is (by_table (record { cedt = cedt; ask = ask; table = table; outcome = outcome; is = refl; asks = answer.0; of = of; answer = answer.1; written = written })) (table_status ask table outcome answer.1)

  came_no_tree : (form : Form) (cedt topo : List ℕ) (after : List (List ℕ)) → own_files form ≡ cedt ∷ topo ∷ after → topology_file form ≡ Some topo → (status : Status) (outcome : Outcome) → trees.HasNoTree (cedt ∷ []) topo old.files new.files outcome → IsWritten outcome status old.out new.out → Came form status
  came_no_tree form cedt topo after own asked status outcome (trees.no_bytes none) written =
      came_no_bytes form (cedt ∷ []) topo after own (subst (λ names. Contains names topo) (sym own) (1, omega arith, refl)) status outcome none written
  came_no_tree form cedt topo after own asked status outcome (trees.not_sound fault is asks e) written =
      subst (Came form) (sym (written.status_is ∙ ap (λ o. o.status) e)) (faulty_tree topo fault asked is)

  came_by_reset_host : (cedt topo : List ℕ) (ask : ResetAsk) (status : Status) (outcome : Outcome) → IsOutcomeByFiles (OfResetHost cedt topo ask) old.files new.files outcome → IsWritten outcome status old.out new.out → Came (OfResetHost cedt topo ask) status
  came_by_reset_host cedt topo ask status outcome (resets.no_reset_host (resets.no_table none)) written =
      came_no_table (OfResetHost cedt topo ask) cedt (topo ∷ []) refl (0, omega arith, refl) refl status outcome none written
  came_by_reset_host cedt topo ask status outcome (resets.no_reset_host (resets.no_tree table of none)) written =
      came_no_tree (OfResetHost cedt topo ask) cedt topo [] refl refl status outcome none written
  came_by_reset_host cedt topo ask status outcome (resets.by_reset_host table tree of answer) written =
      by_status (OfResetHost cedt topo ask) status outcome written.status_is (by_tree (record { cedt = cedt; topo = topo; ask = ask; table = table; tree = tree; outcome = outcome; is = refl; asks = answer.0; of = of; answer = answer.1; written = written })) (reset_status ask table tree outcome answer.1)

  came_by_host : (cedt topo image : List ℕ) (ask : HostAsk) (status : Status) (outcome : Outcome) → IsOutcomeByFiles (OfHost cedt topo image ask) old.files new.files outcome → IsWritten outcome status old.out new.out → Came (OfHost cedt topo image ask) status
  came_by_host cedt topo image ask status outcome (hosts.no_host (hosts.no_table none)) written =
      came_no_table (OfHost cedt topo image ask) cedt (topo ∷ image ∷ []) refl (0, omega arith, refl) refl status outcome none written
  came_by_host cedt topo image ask status outcome (hosts.no_host (hosts.no_tree table of none)) written =
      came_no_tree (OfHost cedt topo image ask) cedt topo (image ∷ []) refl refl status outcome none written
  came_by_host cedt topo image ask status outcome (hosts.no_host (hosts.no_image table tree of of_tree (images.no_bytes none))) written =
      came_no_bytes (OfHost cedt topo image ask) (cedt ∷ topo ∷ []) image [] refl (2, omega arith, refl) status outcome none written
  came_by_host cedt topo image ask status outcome (hosts.no_host (hosts.no_image table tree of of_tree (images.not_sound fault is asks e))) written =
      subst (Came (OfHost cedt topo image ask)) (sym (written.status_is ∙ ap (λ o. o.status) e)) (faulty_image topo image tree fault refl of_tree refl is)
  came_by_host cedt topo image ask status outcome (hosts.by_host table tree blocks of answer) written =
      by_status (OfHost cedt topo image ask) status outcome written.status_is (by_host (record { cedt = cedt; topo = topo; image = image; ask = ask; table = table; tree = tree; blocks = blocks; outcome = outcome; is = refl; asks = answer.0; of = of; answer = answer.1; written = written })) (host_status ask table tree blocks outcome answer.1)

  came_by_words : (ask : WordsAsk) (status : Status) (outcome : Outcome) → IsOutcomeByFiles (OfWords ask) old.files new.files outcome → IsWritten outcome status old.out new.out → Came (OfWords ask) status
  came_by_words plain_asks.NoCreate status outcome answers written = subst (Came NoCreate) (sym (written.status_is ∙ ap (λ o. o.status) answers.0)) (misused (inr refl))
  came_by_words plain_asks.Help status outcome answers written = subst (Came Help) (sym (written.status_is ∙ ap (λ o. o.status) answers.0)) (helped plain_asks.Help refl answers.1)
  came_by_words plain_asks.Version status outcome answers written = subst (Came Version) (sym (written.status_is ∙ ap (λ o. o.status) answers.0)) (helped plain_asks.Version refl answers.1)
  came_by_words plain_asks.Unreadable status outcome answers written = subst (Came Unreadable) (sym (written.status_is ∙ ap (λ o. o.status) answers.0)) (misused (inl refl))
  came_by_words (plain_asks.Gen n) status outcome answers written = absurd answers.0

  came_written : (form : Form) (status : Status) (outcome : Outcome) → IsOutcomeByFiles form old.files new.files outcome → IsWritten outcome status old.out new.out → Came form status
  came_written (OfTable cedt ask) status outcome answers written = came_by_table cedt ask status outcome answers written
  came_written (OfResetHost cedt topo ask) status outcome answers written = came_by_reset_host cedt topo ask status outcome answers written
  came_written (OfHost cedt topo image ask) status outcome answers written = came_by_host cedt topo image ask status outcome answers written
  came_written (OfWords ask) status outcome answers written = came_by_words ask status outcome answers written

  came : (form : Form) (status : Status) → IsRunByFiles form old new status → Came form status
  came form status (writes outcome answers written) = came_written form status outcome answers written
  came form status (is_cut outcome answers is) = subst (Came form) (sym is.status_is) (cut outcome answers (subst (λ s. IsCutShort outcome s old.out new.out) is.status_is is))
  came form status (runs_out takes is left) = subst (Came form) (sym is) (out takes left)

  -- how a run came to this status
  pub came_to : (form : Form) (status wanted : Status) → IsRunByFiles form old new status → status ≡ wanted → Came form wanted
  came_to form status wanted run is = subst (Came form) is (came form status run)

  -- ---- the files that were asked for

  bytes_asked : (before : List (List ℕ)) (file : List ℕ) (outcome : Outcome) → HasNoBytes before file old.files new.files outcome → AsksFor old.files new.files (before ++ file ∷ [])
  bytes_asked front file outcome (not_read rose asks e) = asks
  bytes_asked front file outcome (not_small many asks e) = asks

  table_asked : (file : List ℕ) (outcome : Outcome) → tables.HasNoTable file old.files new.files outcome → AsksFor old.files new.files (file ∷ [])
  table_asked file outcome (tables.no_bytes none) = bytes_asked [] file outcome none
  table_asked file outcome (tables.not_sound fault is asks e) = asks

  tree_asked : (before : List (List ℕ)) (file : List ℕ) (outcome : Outcome) → trees.HasNoTree before file old.files new.files outcome → AsksFor old.files new.files (before ++ file ∷ [])
  tree_asked front file outcome (trees.no_bytes none) = bytes_asked front file outcome none
  tree_asked front file outcome (trees.not_sound fault is asks e) = asks

  image_asked : (before : List (List ℕ)) (file : List ℕ) (tree : Tree) (outcome : Outcome) → images.HasNoImage before file tree.nodes old.files new.files outcome → AsksFor old.files new.files (before ++ file ∷ [])
  image_asked front file tree outcome (images.no_bytes none) = bytes_asked front file outcome none
  image_asked front file tree outcome (images.not_sound fault is asks e) = asks

  asked_by_table : (cedt : List ℕ) (ask : TableAsk) (outcome : Outcome) → IsOutcomeByFiles (OfTable cedt ask) old.files new.files outcome → AsksFor old.files new.files (cedt ∷ [])
  asked_by_table cedt ask outcome (tables.no_table none) = table_asked cedt outcome none
  asked_by_table cedt ask outcome (tables.by_table table of answer) = answer.0

  asked_by_reset_host : (cedt topo : List ℕ) (ask : ResetAsk) (outcome : Outcome) → IsOutcomeByFiles (OfResetHost cedt topo ask) old.files new.files outcome → AsksForSome (cedt ∷ topo ∷ []) old.files new.files
  asked_by_reset_host cedt topo ask outcome (resets.no_reset_host (resets.no_table none)) = record { count = 1; asks = table_asked cedt outcome none }
  asked_by_reset_host cedt topo ask outcome (resets.no_reset_host (resets.no_tree table of none)) = record { count = 2; asks = tree_asked (cedt ∷ []) topo outcome none }
  asked_by_reset_host cedt topo ask outcome (resets.by_reset_host table tree of answer) = record { count = 2; asks = answer.0 }

  asked_by_host : (cedt topo image : List ℕ) (ask : HostAsk) (outcome : Outcome) → IsOutcomeByFiles (OfHost cedt topo image ask) old.files new.files outcome → AsksForSome (cedt ∷ topo ∷ image ∷ []) old.files new.files
  asked_by_host cedt topo image ask outcome (hosts.no_host (hosts.no_table none)) = record { count = 1; asks = table_asked cedt outcome none }
  asked_by_host cedt topo image ask outcome (hosts.no_host (hosts.no_tree table of none)) = record { count = 2; asks = tree_asked (cedt ∷ []) topo outcome none }
  asked_by_host cedt topo image ask outcome (hosts.no_host (hosts.no_image table tree of of_tree none)) = record { count = 3; asks = image_asked (cedt ∷ topo ∷ []) image tree outcome none }
  asked_by_host cedt topo image ask outcome (hosts.by_host table tree blocks of answer) = record { count = 3; asks = answer.0 }

  asked_answers : (form : Form) (outcome : Outcome) → IsOutcomeByFiles form old.files new.files outcome → AsksForSome (own_files form) old.files new.files
  asked_answers (OfTable cedt ask) outcome answers = record { count = 1; asks = asked_by_table cedt ask outcome answers }
  asked_answers (OfResetHost cedt topo ask) outcome answers = asked_by_reset_host cedt topo ask outcome answers
  asked_answers (OfHost cedt topo image ask) outcome answers = asked_by_host cedt topo image ask outcome answers
  asked_answers (OfWords ask) outcome answers = record { count = 0; asks = answers.1 }

  one_file_asked : (form : Form) (file : List ℕ) (outcome : Outcome) → own_files form ≡ file ∷ [] → IsOutcomeByFiles form old.files new.files outcome → AsksFor old.files new.files (own_files form)
  one_file_asked (OfTable cedt ask) file outcome one answers = asked_by_table cedt ask outcome answers
  one_file_asked (OfResetHost cedt topo ask) file outcome one answers = absurd (cc)
  one_file_asked (OfHost cedt topo image ask) file outcome one answers = absurd (cc)
  one_file_asked (OfWords ask) file outcome one answers = absurd (cc)

  asked_left : (form : Form) → RunsOut form old new → AsksForSome (own_files form) old.files new.files
  asked_left form (before some none) = some.asked
  asked_left form (behind outcome answers unfailed lines) = asked_answers form outcome answers

  -- the first of its files are asked for, and no other
  pub some_asked : (form : Form) (status : Status) → IsRunByFiles form old new status → AsksForSome (own_files form) old.files new.files
  some_asked form status (writes outcome answers written) = asked_answers form outcome answers
  some_asked form status (is_cut outcome answers is) = asked_answers form outcome answers
  some_asked form status (runs_out takes is left) = asked_left form left

  -- a form of one file asked for it, where memory did not run out
  pub one_asked : (form : Form) (file : List ℕ) (status : Status) → own_files form ≡ file ∷ [] → IsRunByFiles form old new status → status ≢ Memory → AsksFor old.files new.files (file ∷ [])
  one_asked form file status one (writes outcome answers written) other = subst (AsksFor old.files new.files) one (one_file_asked form file outcome one answers)
  one_asked form file status one (is_cut outcome answers is) other = subst (AsksFor old.files new.files) one (one_file_asked form file outcome one answers)
  one_asked form file status one (runs_out takes is left) other = absurd (other is)

  -- a form with an answer asked for all of its files
  answer_asked : (form : Form) (status : Status) → IsAnswered form status → AsksFor old.files new.files (own_files form)
  answer_asked form status (by_table answered) = subst (λ f. AsksFor old.files new.files (own_files f)) (sym answered.is) answered.asks
  answer_asked form status (by_tree answered) = subst (λ f. AsksFor old.files new.files (own_files f)) (sym answered.is) answered.asks
  answer_asked form status (by_host answered) = subst (λ f. AsksFor old.files new.files (own_files f)) (sym answered.is) answered.asks

  pub done_asked : (form : Form) → Came form Done → AsksFor old.files new.files (own_files form)
  done_asked form (helped ask is asks) = subst (λ f. AsksFor old.files new.files (own_files f)) (sym is) asks
  done_asked form (done answered) = answer_asked form Done answered

  pub refused_asked : (form : Form) → Came form Refused → AsksFor old.files new.files (own_files form)
  refused_asked form (refuses answered) = answer_asked form Refused answered

  -- ---- what each status tells

  pub usage_asked : (form : Form) → Came form Usage → (form ≡ Unreadable) ⊎ (form ≡ NoCreate)
  usage_asked form (misused is) = is

  pub fetch_failed : (form : Form) → Came form FetchFault → HasFailedFetch (own_files form) old.files new.files
  fetch_failed form (unread failed) = failed

  pub large_told : (form : Form) → Came form TooLarge → (file : List ℕ) × Contains (own_files form) file × IsTooLarge (old.files.told file)
  large_told form (large file there many) = (file, there, many)

  pub sink_rose : (form : Form) → Came form WriteFault → Rose old.out.faults new.out.faults
  sink_rose form (cut outcome answers is) = is.rose

  pub fault_told : (form : Form) (fault : CedtFault) → Came form (BadTable fault) → (file : List ℕ) × (table_file form ≡ Some file) × IsFaultyFile (old.files.told file) fault
  fault_told form fault (faulty file first asked is) = (file, asked, is)

  pub tree_fault_told : (form : Form) (fault : TopoFault) → Came form (BadTopo fault) → (file : List ℕ) × (topology_file form ≡ Some file) × IsFaultyTreeFile (old.files.told file) fault
  tree_fault_told form fault (faulty_tree file first asked is) = (file, asked, is)

  pub record IsImageFault (form : Form) (fault : ImageFault) : Type 0 where
    pub topo : List ℕ
    pub file : List ℕ
    pub tree : Tree
    pub asked_tree : topology_file form ≡ Some topo
    pub of_tree : IsTreeOf (old.files.told topo) tree
    pub asked : image_file form ≡ Some file
    pub is : IsFaultyImageFile (old.files.told file) tree.nodes fault

  pub image_fault_told : (form : Form) (fault : ImageFault) → Came form (BadImage fault) → IsImageFault form fault
  image_fault_told form fault (faulty_image topo file tree first asked_tree of_tree asked is) =
      record { topo = topo; file = file; tree = tree; asked_tree = asked_tree; of_tree = of_tree; asked = asked; is = is }

  pub memory_left : (form : Form) → Came form Memory → (takes_memory form ≡ true) × RunsOut form old new
  memory_left form (out takes left) = (takes, left)

  -- ---- the answer of each kind of files

  answered_of_table : (cedt : List ℕ) (ask : TableAsk) (status : Status) → IsAnswered (OfTable cedt ask) status → IsTableAnswered (OfTable cedt ask) status
  answered_of_table cedt ask status (by_table answered) = answered
  answered_of_table cedt ask status (by_tree answered) = let is = ap topology_file answered.is in absurd (cc)
  answered_of_table cedt ask status (by_host answered) = let is = ap topology_file answered.is in absurd (cc)

  answered_of_tree : (cedt topo : List ℕ) (ask : ResetAsk) (status : Status) → IsAnswered (OfResetHost cedt topo ask) status → IsResetAnswered (OfResetHost cedt topo ask) status
  answered_of_tree cedt topo ask status (by_table answered) = let is = ap topology_file answered.is in absurd (cc)
  answered_of_tree cedt topo ask status (by_tree answered) = answered
  answered_of_tree cedt topo ask status (by_host answered) = let is = ap image_file answered.is in absurd (cc)

  answered_of_host : (cedt topo image : List ℕ) (ask : HostAsk) (status : Status) → IsAnswered (OfHost cedt topo image ask) status → IsHostAnswered (OfHost cedt topo image ask) status
  answered_of_host cedt topo image ask status (by_table answered) = let is = ap image_file answered.is in absurd (cc)
  answered_of_host cedt topo image ask status (by_tree answered) = let is = ap image_file answered.is in absurd (cc)
  answered_of_host cedt topo image ask status (by_host answered) = answered

  -- what is asked of a table came to this
  pub record OfItsTable (cedt : List ℕ) (ask : TableAsk) (status : Status) : Type 0 where
    pub table : CedtFields
    pub outcome : Outcome
    pub of : IsTableOf (old.files.told cedt) table
    pub answer : IsTableAnswer ask table outcome
    pub written : IsWritten outcome status old.out new.out

  -- what is asked of a host after reset did
  pub record OfItsTree (cedt topo : List ℕ) (ask : ResetAsk) (status : Status) : Type 0 where
    pub table : CedtFields
    pub tree : Tree
    pub outcome : Outcome
    pub of : AreBothRead old.files.told cedt topo table tree
    pub answer : IsResetAnswer ask table tree outcome
    pub written : IsWritten outcome status old.out new.out

  -- what is asked of a host did
  pub record OfItsHost (cedt topo image : List ℕ) (ask : HostAsk) (status : Status) : Type 0 where
    pub table : CedtFields
    pub tree : Tree
    pub blocks : List Registers
    pub outcome : Outcome
    pub of : AreRead old.files.told cedt topo image table tree blocks
    pub answer : IsHostAnswer ask table tree blocks outcome
    pub written : IsWritten outcome status old.out new.out

  of_table : (cedt : List ℕ) (ask : TableAsk) (status : Status) → IsTableAnswered (OfTable cedt ask) status → OfItsTable cedt ask status
  of_table cedt ask status answered =
      let is = answered.is in
      let one : answered.cedt ≡ cedt = cc in
      let two : answered.ask ≡ ask = cc in
      record {
        table = answered.table;
        outcome = answered.outcome;
        of = subst (λ f. IsTableOf (old.files.told f) answered.table) one answered.of;
        answer = subst (λ a. IsTableAnswer a answered.table answered.outcome) two answered.answer;
        written = answered.written;
      }

  of_tree : (cedt topo : List ℕ) (ask : ResetAsk) (status : Status) → IsResetAnswered (OfResetHost cedt topo ask) status → OfItsTree cedt topo ask status
  of_tree cedt topo ask status answered =
      let is = answered.is in
      let one : answered.cedt ≡ cedt = cc in
      let two : answered.topo ≡ topo = cc in
      let three : answered.ask ≡ ask = cc in
      record {
        table = answered.table;
        tree = answered.tree;
        outcome = answered.outcome;
        of =
            subst (λ f. AreBothRead old.files.told f topo answered.table answered.tree) one
            (subst (λ f. AreBothRead old.files.told answered.cedt f answered.table answered.tree) two answered.of);
        answer = subst (λ a. IsResetAnswer a answered.table answered.tree answered.outcome) three answered.answer;
        written = answered.written;
      }

  of_host : (cedt topo image : List ℕ) (ask : HostAsk) (status : Status) → IsHostAnswered (OfHost cedt topo image ask) status → OfItsHost cedt topo image ask status
  of_host cedt topo image ask status answered =
      let is = answered.is in
      let one : answered.cedt ≡ cedt = cc in
      let two : answered.topo ≡ topo = cc in
      let three : answered.image ≡ image = cc in
      let four : answered.ask ≡ ask = cc in
      record {
        table = answered.table;
        tree = answered.tree;
        blocks = answered.blocks;
        outcome = answered.outcome;
        of =
            subst (λ f. AreRead old.files.told f topo image answered.table answered.tree answered.blocks) one
            (subst (λ f. AreRead old.files.told answered.cedt f image answered.table answered.tree answered.blocks) two
            (subst (λ f. AreRead old.files.told answered.cedt answered.topo f answered.table answered.tree answered.blocks) three answered.of));
        answer = subst (λ a. IsHostAnswer a answered.table answered.tree answered.blocks answered.outcome) four answered.answer;
        written = answered.written;
      }

  pub table_done : (cedt : List ℕ) (ask : TableAsk) → Came (OfTable cedt ask) Done → OfItsTable cedt ask Done
  table_done cedt ask (helped plain is asks) = let none = ap table_file is in absurd (cc)
  table_done cedt ask (done answered) = of_table cedt ask Done (answered_of_table cedt ask Done answered)

  pub table_refused : (cedt : List ℕ) (ask : TableAsk) → Came (OfTable cedt ask) Refused → OfItsTable cedt ask Refused
  table_refused cedt ask (refuses answered) = of_table cedt ask Refused (answered_of_table cedt ask Refused answered)

  pub reset_done : (cedt topo : List ℕ) (ask : ResetAsk) → Came (OfResetHost cedt topo ask) Done → OfItsTree cedt topo ask Done
  reset_done cedt topo ask (helped plain is asks) = let none = ap table_file is in absurd (cc)
  reset_done cedt topo ask (done answered) = of_tree cedt topo ask Done (answered_of_tree cedt topo ask Done answered)

  pub reset_refused : (cedt topo : List ℕ) (ask : ResetAsk) → Came (OfResetHost cedt topo ask) Refused → OfItsTree cedt topo ask Refused
  reset_refused cedt topo ask (refuses answered) = of_tree cedt topo ask Refused (answered_of_tree cedt topo ask Refused answered)

  pub host_done : (cedt topo image : List ℕ) (ask : HostAsk) → Came (OfHost cedt topo image ask) Done → OfItsHost cedt topo image ask Done
  host_done cedt topo image ask (helped plain is asks) = let none = ap table_file is in absurd (cc)
  host_done cedt topo image ask (done answered) = of_host cedt topo image ask Done (answered_of_host cedt topo image ask Done answered)

  pub host_refused : (cedt topo image : List ℕ) (ask : HostAsk) → Came (OfHost cedt topo image ask) Refused → OfItsHost cedt topo image ask Refused
  host_refused cedt topo image ask (refuses answered) = of_host cedt topo image ask Refused (answered_of_host cedt topo image ask Refused answered)

  -- ---- which forms are refused

  abbrev pub IsRefusable : Form → Type 0
  IsRefusable form = ((file : List ℕ) × (h : ℕ) × (form ≡ Route file h)) ⊎ ((cedt : List ℕ) × (topo : List ℕ) × (image : List ℕ) × (form ≡ Check cedt topo image)) ⊎ ((cedt : List ℕ) × (topo : List ℕ) × (create : Create) × (form ≡ Plan cedt topo create)) ⊎ ((cedt : List ℕ) × (topo : List ℕ) × (image : List ℕ) × (form ≡ Script cedt topo (Some image)))

  refusable_table : (cedt : List ℕ) (ask : TableAsk) (table : CedtFields) (outcome : Outcome) → outcome.status ≡ Refused → IsTableAnswer ask table outcome → IsRefusable (OfTable cedt ask)
  refusable_table cedt (table_asks.Route h) table outcome is answer = inl (cedt, h, refl)
  refusable_table cedt table_asks.Listing table outcome is answer = let own = ap (λ o. o.status) answer in absurd (cc)
  refusable_table cedt table_asks.Normal table outcome is answer = let own = ap (λ o. o.status) answer in absurd (cc)

  refusable_tree : (cedt topo : List ℕ) (ask : ResetAsk) (table : CedtFields) (tree : Tree) (outcome : Outcome) → IsResetAnswer ask table tree outcome → IsRefusable (OfResetHost cedt topo ask)
  refusable_tree cedt topo (reset_asks.Plan create) table tree outcome answer = inr (inr (inl (cedt, topo, create, refl)))
  refusable_tree cedt topo reset_asks.Script table tree outcome answer = absurd answer

  refusable_host : (cedt topo image : List ℕ) (ask : HostAsk) (table : CedtFields) (tree : Tree) (blocks : List Registers) (outcome : Outcome) → IsHostAnswer ask table tree blocks outcome → IsRefusable (OfHost cedt topo image ask)
  refusable_host cedt topo image host_asks.Check table tree blocks outcome answer = inr (inl (cedt, topo, image, refl))
  refusable_host cedt topo image host_asks.Script table tree blocks outcome answer = inr (inr (inr (cedt, topo, image, refl)))

  pub refuses_some : (form : Form) → Came form Refused → IsRefusable form
  refuses_some form (refuses (by_table answered)) =
      subst IsRefusable (sym answered.is) (refusable_table answered.cedt answered.ask answered.table answered.outcome (sym answered.written.status_is) answered.answer)
  refuses_some form (refuses (by_tree answered)) =
      subst IsRefusable (sym answered.is) (refusable_tree answered.cedt answered.topo answered.ask answered.table answered.tree answered.outcome answered.answer)
  refuses_some form (refuses (by_host answered)) =
      subst IsRefusable (sym answered.is) (refusable_host answered.cedt answered.topo answered.image answered.ask answered.table answered.tree answered.blocks answered.outcome answered.answer)
