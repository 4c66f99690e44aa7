-- Bytes stand for one tree at the most, or have one first fault.
use Rattle.std.proofs.Common.{◌≡◌, ◌≢◌, ℕ, ◌<◌, false, IsTrue, List, Result, Ok, Err, ◌↔◌, refl, sym, ap, subst, ◌∙◌, arith}
use Rattle.std.proofs.lemmas.Bool.{false≢true}
use Rattle.std.proofs.lemmas.Option.{none-some}
use Rattle.cxl_topo.specs.Tree.{Tree}
use Rattle.cxl_topo.specs.Faults.{IsTree, IsFirstTreeFault, fits, turn_of}
use Rattle.cxl_topo.specs.declared.node.Node.{Node}
use Rattle.cxl_topo.specs.declared.fault.TreeFault.{TreeFault}
use Rattle.cxl_topo.specs.declared.fault.TreeFault.TheVariants as trees
use Rattle.toml.specs.Data.{Members}
use Rattle.cxl_topofile.specs.declared.fault.TopoFault.{TopoFault}
use Rattle.cxl_topofile.specs.declared.fault.TopoFault.TheVariants as faults
use Rattle.cxl_topofile.specs.Groups.{Stated, stated_of}
use Rattle.cxl_topofile.specs.File.{tree_of, IsDocument, IsTopologyFile, IsFirstTopoFault, HasTableFault, HasTreeFault}
use Rattle.cxl_topofile.proofs.Whole.{same_members}

-- ---- the first fault of a tree

-- faults of one turn are one, but for want of memory
one_turn : (fault other : TreeFault) → turn_of fault ≡ turn_of other → fault ≢ trees.Memory → other ≢ trees.Memory → fault ≡ other
one_turn trees.TooMany trees.TooMany e real real' = refl
one_turn trees.TooMany trees.Memory e real real' = absurd (real' refl)
one_turn trees.TooMany other e real real' = absurd (omega arith)
one_turn (trees.NoParent i) (trees.NoParent j) e real real' = ap trees.NoParent (omega arith)
one_turn (trees.NoParent i) other e real real' = absurd (omega arith)
one_turn (trees.PortTaken i) (trees.PortTaken j) e real real' = ap trees.PortTaken (omega arith)
one_turn (trees.PortTaken i) other e real real' = absurd (omega arith)
one_turn (trees.Forks i) (trees.Forks j) e real real' = ap trees.Forks (omega arith)
one_turn (trees.Forks i) other e real real' = absurd (omega arith)
one_turn (trees.NameTaken i) (trees.NameTaken j) e real real' = ap trees.NameTaken (omega arith)
one_turn (trees.NameTaken i) other e real real' = absurd (omega arith)
one_turn (trees.UidTaken i) (trees.UidTaken j) e real real' = ap trees.UidTaken (omega arith)
one_turn (trees.UidTaken i) other e real real' = absurd (omega arith)
one_turn (trees.Depth i) (trees.Depth j) e real real' = ap trees.Depth (omega arith)
one_turn (trees.Depth i) other e real real' = absurd (omega arith)
one_turn (trees.Caps i) (trees.Caps j) e real real' = ap trees.Caps (omega arith)
one_turn (trees.Caps i) other e real real' = absurd (omega arith)
one_turn (trees.Capacity i) (trees.Capacity j) e real real' = ap trees.Capacity (omega arith)
one_turn (trees.Capacity i) other e real real' = absurd (omega arith)
one_turn trees.Memory other e real real' = absurd (real refl)

fits_not : (nodes : List Node) (fault : TreeFault) → IsTrue (fits nodes fault) → fits nodes fault ≡ false → ⊥
fits_not nodes fault holds none = false≢true (sym none ∙ holds)

real_fault : (nodes : List Node) (fault : TreeFault) → IsFirstTreeFault nodes fault → fault ≢ trees.Memory
real_fault nodes fault first = λ e. fits_not nodes trees.Memory (subst (λ f. IsTrue (fits nodes f)) e first.holds) refl

one_tree_fault : (nodes : List Node) (fault other : TreeFault) → IsFirstTreeFault nodes fault → IsFirstTreeFault nodes other → fault ≡ other
one_tree_fault nodes fault other first first' =
    let no_lower : turn_of fault < turn_of other → ⊥ = λ lower. fits_not nodes fault first.holds (first'.first fault lower) in
    let no_higher : turn_of other < turn_of fault → ⊥ = λ lower. fits_not nodes other first'.holds (first.first other lower) in
    one_turn fault other (omega (arith, no_lower, no_higher)) (real_fault nodes fault first) (real_fault nodes other first')

-- ---- bytes with one table

module _ (bytes : List ℕ) where
  -- what the tables of a document state is one
  same_states : (members other : Members) (stated stated' : Result Stated TopoFault) → IsDocument bytes members → IsDocument bytes other → stated_of members ≡ stated → stated_of other ≡ stated' → stated ≡ stated'
  same_states members other stated stated' a b states states' = sym states ∙ ap stated_of (same_members bytes members other a b) ∙ states'

  no_text : (members : Members) → IsDocument bytes members → IsFirstTopoFault bytes faults.Toml → ⊥
  no_text members document none = none-some members (sym (none document.utf8) ∙ document.text)

  tables_fault : (fault other : TopoFault) → HasTableFault bytes fault → HasTableFault bytes other → fault ≡ other
  tables_fault fault other a b =
      let same : Err fault ≡ Err other = same_states a.members b.members (Err fault) (Err other) a.document b.document a.faulty b.faulty in cc

  tables_stated : (fault : TopoFault) (members : Members) (stated : Stated) → HasTableFault bytes fault → IsDocument bytes members → stated_of members ≡ Ok stated → ⊥
  tables_stated fault members stated a document states =
      let same : Err fault ≡ Ok stated = same_states a.members members (Err fault) (Ok stated) a.document document a.faulty states in cc

  same_stated : (members other : Members) (stated stated' : Stated) → IsDocument bytes members → IsDocument bytes other → stated_of members ≡ Ok stated → stated_of other ≡ Ok stated' → stated ≡ stated'
  same_stated members other stated stated' a b states states' =
      let same : Ok stated ≡ Ok stated' = same_states members other (Ok stated) (Ok stated') a b states states' in cc

  trees_fault : (fault other : TreeFault) → HasTreeFault bytes fault → HasTreeFault bytes other → fault ≡ other
  trees_fault fault other a b =
      let same = same_stated a.members b.members a.stated b.stated a.document b.document a.states b.states in
      one_tree_fault (tree_of b.stated).nodes fault other (subst (λ s. IsFirstTreeFault (tree_of s).nodes fault) same a.first) b.first

pub one_tree : (bytes : List ℕ) (tree other : Tree) → IsTopologyFile bytes tree → IsTopologyFile bytes other → tree ≡ other
one_tree bytes tree other a b =
    a.tree_is ∙ ap tree_of (same_stated bytes a.members b.members a.stated b.stated a.document b.document a.states b.states) ∙ sym b.tree_is

pub one_fault : (bytes : List ℕ) (fault other : TopoFault) → fault ≢ faults.Memory → other ≢ faults.Memory → IsFirstTopoFault bytes fault → IsFirstTopoFault bytes other → fault ≡ other
one_fault bytes faults.Toml faults.Toml real real' a b = refl
one_fault bytes faults.Toml (faults.Key y) real real' a b = absurd (no_text bytes b.members b.document a)
one_fault bytes faults.Toml (faults.Kind y) real real' a b = absurd (no_text bytes b.members b.document a)
one_fault bytes faults.Toml (faults.Range y) real real' a b = absurd (no_text bytes b.members b.document a)
one_fault bytes faults.Toml (faults.Tree y) real real' a b = absurd (no_text bytes b.members b.document a)
one_fault bytes faults.Toml faults.Memory real real' a b = absurd (real' refl)
one_fault bytes (faults.Key x) faults.Toml real real' a b = absurd (no_text bytes a.members a.document b)
one_fault bytes (faults.Key x) (faults.Key y) real real' a b = tables_fault bytes (faults.Key x) (faults.Key y) a b
one_fault bytes (faults.Key x) (faults.Kind y) real real' a b = tables_fault bytes (faults.Key x) (faults.Kind y) a b
one_fault bytes (faults.Key x) (faults.Range y) real real' a b = tables_fault bytes (faults.Key x) (faults.Range y) a b
one_fault bytes (faults.Key x) (faults.Tree y) real real' a b = absurd (tables_stated bytes (faults.Key x) b.members b.stated a b.document b.states)
one_fault bytes (faults.Key x) faults.Memory real real' a b = absurd (real' refl)
one_fault bytes (faults.Kind x) faults.Toml real real' a b = absurd (no_text bytes a.members a.document b)
one_fault bytes (faults.Kind x) (faults.Key y) real real' a b = tables_fault bytes (faults.Kind x) (faults.Key y) a b
one_fault bytes (faults.Kind x) (faults.Kind y) real real' a b = tables_fault bytes (faults.Kind x) (faults.Kind y) a b
one_fault bytes (faults.Kind x) (faults.Range y) real real' a b = tables_fault bytes (faults.Kind x) (faults.Range y) a b
one_fault bytes (faults.Kind x) (faults.Tree y) real real' a b = absurd (tables_stated bytes (faults.Kind x) b.members b.stated a b.document b.states)
one_fault bytes (faults.Kind x) faults.Memory real real' a b = absurd (real' refl)
one_fault bytes (faults.Range x) faults.Toml real real' a b = absurd (no_text bytes a.members a.document b)
one_fault bytes (faults.Range x) (faults.Key y) real real' a b = tables_fault bytes (faults.Range x) (faults.Key y) a b
one_fault bytes (faults.Range x) (faults.Kind y) real real' a b = tables_fault bytes (faults.Range x) (faults.Kind y) a b
one_fault bytes (faults.Range x) (faults.Range y) real real' a b = tables_fault bytes (faults.Range x) (faults.Range y) a b
one_fault bytes (faults.Range x) (faults.Tree y) real real' a b = absurd (tables_stated bytes (faults.Range x) b.members b.stated a b.document b.states)
one_fault bytes (faults.Range x) faults.Memory real real' a b = absurd (real' refl)
one_fault bytes (faults.Tree x) faults.Toml real real' a b = absurd (no_text bytes a.members a.document b)
one_fault bytes (faults.Tree x) (faults.Key y) real real' a b = absurd (tables_stated bytes (faults.Key y) a.members a.stated b a.document a.states)
one_fault bytes (faults.Tree x) (faults.Kind y) real real' a b = absurd (tables_stated bytes (faults.Kind y) a.members a.stated b a.document a.states)
one_fault bytes (faults.Tree x) (faults.Range y) real real' a b = absurd (tables_stated bytes (faults.Range y) a.members a.stated b a.document a.states)
one_fault bytes (faults.Tree x) (faults.Tree y) real real' a b = ap faults.Tree (trees_fault bytes x y a b)
one_fault bytes (faults.Tree x) faults.Memory real real' a b = absurd (real' refl)
one_fault bytes faults.Memory other real real' a b = absurd (real refl)

-- a tree for which they stand, and a fault
pub not_both : ((nodes : List Node) → IsTree nodes ↔ ((fault : TreeFault) → fits nodes fault ≡ false)) → (bytes : List ℕ) (tree : Tree) (fault : TopoFault) → fault ≢ faults.Memory → IsTopologyFile bytes tree → IsFirstTopoFault bytes fault → ⊥
not_both legal bytes tree faults.Toml real a b = no_text bytes a.members a.document b
not_both legal bytes tree (faults.Key place) real a b = tables_stated bytes (faults.Key place) a.members a.stated b a.document a.states
not_both legal bytes tree (faults.Kind place) real a b = tables_stated bytes (faults.Kind place) a.members a.stated b a.document a.states
not_both legal bytes tree (faults.Range place) real a b = tables_stated bytes (faults.Range place) a.members a.stated b a.document a.states
not_both legal bytes tree (faults.Tree fault) real a b =
    let same = same_stated bytes a.members b.members a.stated b.stated a.document b.document a.states b.states in
    let is_tree = subst (λ (t : Tree). IsTree t.nodes) (a.tree_is ∙ ap tree_of same) a.legal in
    fits_not (tree_of b.stated).nodes fault b.first.holds ((legal (tree_of b.stated).nodes).0 is_tree fault)
not_both legal bytes tree faults.Memory real a b = real refl
