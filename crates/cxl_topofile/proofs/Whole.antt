-- The answers of the steps, as answers on whole files.
use Rattle.std.proofs.Common.{◌≡◌, ℕ, ◌+◌, List, [], ◌∷◌, Result, Ok, Err, refl, sym, ap, subst, ◌∙◌}
use Rattle.std.specs.Prelude.{IfOk, IfErr, MatchResult}
use Rattle.std.proofs.lemmas.Option.{none-some, same_Some}
use Rattle.cxl_topo.specs.Tree.{Tree}
use Rattle.cxl_topo.specs.Faults.{IsTree}
use Rattle.toml.specs.Data.{Members}
use Rattle.cxl_topofile.specs.declared.fault.Wrong.{Wrong}
use Rattle.cxl_topofile.specs.declared.fault.Cause.{Cause}
use Rattle.cxl_topofile.specs.declared.fault.Cause.TheVariants as causes
use Rattle.cxl_topofile.specs.declared.fault.TableKey.{TableKey}
use Rattle.cxl_topofile.specs.declared.fault.Section.{Section}
use Rattle.cxl_topofile.specs.declared.fault.Section.TheVariants as sections
use Rattle.cxl_topofile.specs.declared.fault.TopoFault.{TopoFault}
use Rattle.cxl_topofile.specs.declared.fault.TopoFault.TheVariants as faults
use Rattle.cxl_topofile.specs.Values.{◌>>=◌}
use Rattle.cxl_topofile.specs.Drafts.{bridge_of, switch_of, endpoint_of}
use Rattle.cxl_topofile.specs.Groups.{by_cause, placed, FailsAs, all_of, tables_of, top_of, Stated, stated_of}
use Rattle.cxl_topofile.specs.File.{tree_of, IsDocument, IsTopologyFile, IsFirstTopoFault}
use Rattle.cxl_topofile.specs.inner.Answers.{IsNoDocument, IsTreeRefusal}

-- ---- the faults of tables are of a key

abbrev IsOfKey : TopoFault → Type 0
IsOfKey faults.Toml = ⊥
IsOfKey (faults.Key place) = Unit {0}
IsOfKey (faults.Kind place) = Unit {0}
IsOfKey (faults.Range place) = Unit {0}
IsOfKey (faults.Tree fault) = ⊥
IsOfKey faults.Memory = ⊥

abbrev FailsOfKey : {A : Type 0} → Result A TopoFault → Type 0
FailsOfKey (Ok x) = Unit {0}
FailsOfKey (Err fault) = IsOfKey fault

cause_of_key : (cause : Cause) (place : TableKey) → IsOfKey (by_cause cause place)
cause_of_key causes.Missing place = tt
cause_of_key causes.Kind place = tt
cause_of_key causes.Range place = tt

placed_of_key : {A : Type 0} (section : Section) (index : ℕ) (r : Result A Wrong) → FailsOfKey (placed section index r)
placed_of_key section index (Ok x) = tt
placed_of_key section index (Err wrong) = cause_of_key wrong.cause (record { section = section; index = index; key = wrong.key })

then_of_key : {A B : Type 0} (r : Result A TopoFault) (f : A → Result B TopoFault) → FailsOfKey r → ((x : A) → FailsOfKey (f x)) → FailsOfKey (r >>= f)
then_of_key (Ok x) f h k = k x
then_of_key (Err fault) f h k = h

all_of_key : {A : Type 0} (section : Section) (read : Members → Result A Wrong) (index : ℕ) (tables : List Members) → FailsOfKey (all_of section read index tables)
unfolding all_of
all_of_key section read index [] = tt
all_of_key section read index (first ∷ others) =
    then_of_key (placed section index (read first)) (λ x. all_of section read (index + 1) others >>= λ xs. Ok (x ∷ xs)) (placed_of_key section index (read first)) (λ x.
    then_of_key (all_of section read (index + 1) others) (λ xs. Ok (x ∷ xs)) (all_of_key section read (index + 1) others) (λ xs. tt))

stated_of_key : (members : Members) → FailsOfKey (stated_of members)
unfolding stated_of
stated_of_key members =
    then_of_key (placed sections.Top 0 (top_of members)) _ (placed_of_key sections.Top 0 (top_of members)) (λ top.
    then_of_key (all_of sections.Bridge bridge_of 0 (tables_of top.bridges)) _ (all_of_key sections.Bridge bridge_of 0 (tables_of top.bridges)) (λ bridges.
    then_of_key (all_of sections.Switch switch_of 0 (tables_of top.switches)) _ (all_of_key sections.Switch switch_of 0 (tables_of top.switches)) (λ switches.
    then_of_key (all_of sections.Endpoint endpoint_of 0 (tables_of top.endpoints)) _ (all_of_key sections.Endpoint endpoint_of 0 (tables_of top.endpoints)) (λ endpoints. tt))))

-- ---- each step's refusal is the first fault of the file

pub no_document : (bytes : List ℕ) (fault : TopoFault) → IsNoDocument bytes fault → IsFirstTopoFault bytes fault
no_document bytes faults.Toml is = is
no_document bytes (faults.Key place) is = absurd is
no_document bytes (faults.Kind place) is = absurd is
no_document bytes (faults.Range place) is = absurd is
no_document bytes (faults.Tree fault) is = absurd is
no_document bytes faults.Memory is = tt

pub table_fault : (bytes : List ℕ) (members : Members) (fault : TopoFault) → IsDocument bytes members → FailsAs fault (stated_of members) → IsFirstTopoFault bytes fault
table_fault bytes m faults.Toml document fails = absurd (subst FailsOfKey fails (stated_of_key m))
table_fault bytes m (faults.Key place) document fails = record { members = m; document = document; faulty = fails }
table_fault bytes m (faults.Kind place) document fails = record { members = m; document = document; faulty = fails }
table_fault bytes m (faults.Range place) document fails = record { members = m; document = document; faulty = fails }
table_fault bytes m (faults.Tree fault) document fails = absurd (subst FailsOfKey fails (stated_of_key m))
table_fault bytes m faults.Memory document fails = tt

pub tree_fault : (bytes : List ℕ) (members : Members) (stated : Stated) (fault : TopoFault) → IsDocument bytes members → stated_of members ≡ Ok stated → IsTreeRefusal (tree_of stated).nodes fault → IsFirstTopoFault bytes fault
tree_fault bytes m stated faults.Toml document states is = absurd is
tree_fault bytes m stated (faults.Key place) document states is = absurd is
tree_fault bytes m stated (faults.Kind place) document states is = absurd is
tree_fault bytes m stated (faults.Range place) document states is = absurd is
tree_fault bytes m stated (faults.Tree fault) document states is = record { members = m; document = document; stated = stated; states = states; first = is }
tree_fault bytes m stated faults.Memory document states is = tt

-- ---- a file that stands for a tree is refused for want of memory alone

pub same_members : (bytes : List ℕ) (members other : Members) → IsDocument bytes members → IsDocument bytes other → members ≡ other
same_members bytes members other a b = same_Some members other (sym a.text ∙ b.text)

pub document_memory : (bytes : List ℕ) (fault : TopoFault) (tree : Tree) → IsNoDocument bytes fault → IsTopologyFile bytes tree → fault ≡ faults.Memory
document_memory bytes faults.Toml tree is file = absurd (none-some file.members (sym (is file.document.utf8) ∙ file.document.text))
document_memory bytes (faults.Key place) tree is file = absurd is
document_memory bytes (faults.Kind place) tree is file = absurd is
document_memory bytes (faults.Range place) tree is file = absurd is
document_memory bytes (faults.Tree fault) tree is file = absurd is
document_memory bytes faults.Memory tree is file = refl

ok_or_memory : (stated : Stated) (fault : TopoFault) → FailsAs fault (Ok stated) → fault ≡ faults.Memory
ok_or_memory stated faults.Toml fails = absurd cc
ok_or_memory stated (faults.Key place) fails = absurd cc
ok_or_memory stated (faults.Kind place) fails = absurd cc
ok_or_memory stated (faults.Range place) fails = absurd cc
ok_or_memory stated (faults.Tree fault) fails = absurd cc
ok_or_memory stated faults.Memory fails = refl

pub table_memory : (bytes : List ℕ) (members : Members) (fault : TopoFault) (tree : Tree) → IsDocument bytes members → FailsAs fault (stated_of members) → IsTopologyFile bytes tree → fault ≡ faults.Memory
table_memory bytes members fault tree document fails file =
    let states : stated_of members ≡ Ok file.stated = ap stated_of (same_members bytes members file.members document file.document) ∙ file.states in
    ok_or_memory file.stated fault (subst (FailsAs fault) states fails)

-- ---- what a document without fault gives

ok_is : (a b : Stated) → ◌≡◌ {A = Result Stated TopoFault} (Ok a) (Ok b) → a ≡ b
ok_is a b e = cc

module _ (bytes : List ℕ) (members : Members) (stated : Stated) (document : IsDocument bytes members) (states : stated_of members ≡ Ok stated) where
  pub stands : (result : Result Tree TopoFault) → IfOk result (λ tree. tree ≡ tree_of stated) → IfOk result (λ _. IsTree (tree_of stated).nodes) → IfOk result (λ tree. IsTopologyFile bytes tree)
  stands (Ok tree) is legal = record {
    members = members;
    document = document;
    stated = stated;
    states = states;
    tree_is = is;
    legal = subst (λ (t : Tree). IsTree t.nodes) (sym is) legal;
  }
  stands (Err fault) is legal = tt

  same_tree : (tree : Tree) → IsTopologyFile bytes tree → tree ≡ tree_of stated
  same_tree tree file =
      let same : Ok file.stated ≡ Ok stated = sym file.states ∙ ap stated_of (same_members bytes file.members members file.document document) ∙ states in
      file.tree_is ∙ ap tree_of (ok_is file.stated stated same)

  pub alone : (result : Result Tree TopoFault) → IfOk result (λ tree. tree ≡ tree_of stated) → (IsTree (tree_of stated).nodes → IfErr result (λ fault. fault ≡ faults.Memory)) → (tree : Tree) → IsTopologyFile bytes tree → MatchResult result (λ topo. topo ≡ tree) (λ fault. fault ≡ faults.Memory)
  alone (Ok topo) is only tree file = is ∙ sym (same_tree tree file)
  alone (Err fault) is only tree file = only (subst (λ (t : Tree). IsTree t.nodes) (same_tree tree file) file.legal)

  pub refused : (result : Result Tree TopoFault) → IfErr result (λ fault. IsTreeRefusal (tree_of stated).nodes fault) → IfErr result (λ fault. IsFirstTopoFault bytes fault)
  refused (Ok topo) is = tt
  refused (Err fault) is = tree_fault bytes members stated fault document states is
