-- Nodes under earlier ones, one after another, and the table of those that others may stand under.
use Rattle.std.proofs.Common.{not, true, ◌≡◌, ℕ, ◌+◌, ◌<◌, ◌≤◌, List, [], ◌∷◌, ◌++◌, length, get_or, drop, cond, Option, Some, None, inl, inr, refl, sym, ap, ◌∙◌, arith}
use Rattle.std.specs.Prelude.{nat_lt, count_by, position}
use Rattle.std.specs.Option.{option_or, unwrap_or}
use Rattle.std.specs.HashMap.{HashMap, get}
use Rattle.std.proofs.lemmas.Bool.{cases_Bool, lt-ltb, or_left}
use Rattle.std.proofs.lemmas.List.{drop_more, drop_all, length_push}
use Rattle.cxl_enc.specs.Name.{IsName}
use Rattle.cxl_topo.proofs.Entering.{position_push, one_key}
use Rattle.cxl_topo.proofs.NameKeys.{name_same}
use Rattle.cxl_topo.specs.Kinds.{is_bridge, is_endpoint}
use Rattle.cxl_topo.specs.Keys.{name_key, name_eq}
use Rattle.cxl_topo.specs.declared.tables.NameKey.{NameKey}
use Rattle.cxl_topo.specs.Faults.{IsTree, IsFirstTreeFault}
use Rattle.cxl_topo.specs.declared.node.Node.{Node}
use Rattle.cxl_topo.specs.declared.fault.TreeFault.TheVariants.{TooMany}
use Rattle.cxl_topofile.specs.declared.draft.Draft.{Draft}
use Rattle.cxl_topofile.specs.File.{is_port_named, node_under, attached}
use Rattle.cxl_topofile.specs.inner.Ports.{ListsPorts}

pub attached_more : (nodes : List Node) (drafts : List Draft) (i : ℕ) (draft : Draft) → i < length drafts → draft ≡ get_or drafts i draft → attached nodes (drop i drafts) ≡ attached (nodes ++ node_under nodes draft ∷ []) (drop (i + 1) drafts)
unfolding attached
attached_more nodes drafts i draft lt at = ap (attached nodes) (drop_more drafts i draft lt) ∙ ap (λ (d : Draft). attached (nodes ++ node_under nodes d ∷ []) (drop (i + 1) drafts)) (sym at)

pub attached_all : (nodes : List Node) (drafts : List Draft) (i : ℕ) → length drafts ≤ i → attached nodes (drop i drafts) ≡ nodes
unfolding attached
attached_all nodes drafts i le = ap (attached nodes) (drop_all i drafts le)

pub length-attached : (nodes : List Node) (drafts : List Draft) → length (attached nodes drafts) ≡ length nodes + length drafts
unfolding attached
length-attached nodes [] = omega arith
length-attached nodes (draft ∷ drafts) =
    let more = length-attached (nodes ++ node_under nodes draft ∷ []) drafts in
    omega (arith, length_push nodes (node_under nodes draft))

-- more nodes than a tree may have are no tree, and nothing is taken_or before that
pub too_many : (nodes : List Node) (drafts : List Draft) → 1024 < length nodes + length drafts → IsFirstTreeFault (attached nodes drafts) TooMany
too_many nodes drafts lt =
    let len = length-attached nodes drafts in
    record {
      holds = or_left (nat_lt 1024 (length (attached nodes drafts))) (nat_lt 64 (count_by (λ (node : Node). is_bridge node.kind) (attached nodes drafts))) (lt-ltb 1024 (length (attached nodes drafts)) (omega arith));
      first = λ fault turn. absurd (omega arith);
    }

pub no_tree : (nodes : List Node) (drafts : List Draft) → 1024 < length nodes + length drafts → IsTree (attached nodes drafts) → ⊥
no_tree nodes drafts lt tree =
    let few = tree.few_nodes in
    omega (arith, length-attached nodes drafts)

-- ---- the table of ports by name

module _ {S : Type 0} (nodes : List Node) (node : Node) (old : HashMap NameKey ℕ S) (before : ListsPorts nodes old) where
  -- a bridge or a switch is entered under its name, unless an earlier one has it
  pub port_entered : (new : HashMap NameKey ℕ S) (value : ℕ) → IsName node.name → not (is_endpoint node.kind) ≡ true → value ≡ unwrap_or (get name_eq old (name_key node.name)) (length nodes)
      → ((q : NameKey) → get name_eq new q ≡ cond (name_eq (name_key node.name) q) (Some value) (get name_eq old q)) → ListsPorts (nodes ++ node ∷ []) new
  port_entered new value own port is_value updates name is = updates (name_key name) ∙ go ∙ sym (position_push (is_port_named name) nodes node)
    where
      fits : is_port_named name node ≡ name_eq (name_key node.name) (name_key name)
      fits = rw port (name_same node.name name own is)

      kept : (o : Option ℕ) → Some (unwrap_or o (length nodes)) ≡ option_or o (Some (length nodes))
      kept None = refl
      kept (Some j) = refl

      left : (o : Option ℕ) → o ≡ option_or o None
      left None = refl
      left (Some j) = refl

      go : cond (name_eq (name_key node.name) (name_key name)) (Some value) (get name_eq old (name_key name)) ≡ option_or (position (is_port_named name) nodes) (cond (is_port_named name node) (Some (length nodes)) None)
      go = elim (cases_Bool (name_eq (name_key node.name) (name_key name))) [
        | inl e ↦ rw (fits, e) (ap Some is_value ∙ kept (get name_eq old (name_key node.name)) ∙ ap (λ (o : Option ℕ). option_or o (Some (length nodes))) (ap (get name_eq old) (one_key (name_key node.name) (name_key name) e) ∙ before name is))
        | inr e ↦ rw (fits, e) (before name is ∙ left (position (is_port_named name) nodes))
      ]
