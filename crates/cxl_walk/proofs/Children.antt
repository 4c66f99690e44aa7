-- A child comes after its parent, with one more port above it.
use Rattle.std.proofs.Common.{◌≡◌, ℕ, suc, ◌<◌, true, List, [], ◌∷◌, length, Option, Some, None, refl, ap, ◌∙◌, arith}
use Rattle.std.specs.Prelude.{option_map}
use Rattle.std.specs.Option.{option_map_or}
use Rattle.std.proofs.lemmas.Option.{none-some, same_Some}
use Rattle.cxl_topo.specs.declared.node.Node.{Node}
use Rattle.cxl_topo.specs.declared.node.Parent.{Parent}
use Rattle.cxl_topo.specs.Tree.{forwards_at, parent_of, child_of, least_child_of, ports_above}
use Rattle.cxl_topo.specs.Faults.{IsTree}
use Rattle.cxl_topo.specs.Laws.{AreTreeLaws}
use Rattle.cxl_topo.proofs.Trees.{parent_within, parent_is_port}

-- node c stands under node n
pub record IsChild (nodes : List Node) (n c : ℕ) : Type 0 where
  pub later : n < c
  pub below : c < length nodes
  pub deeper : length (ports_above nodes c) ≡ suc (length (ports_above nodes n))

module _ (nodes : List Node) (tree : IsTree nodes) (laws : AreTreeLaws nodes) where
  stands : (n c : ℕ) (parent : Parent) → parent_of nodes c ≡ Some parent → parent.node ≡ n → IsChild nodes n c
  stands n c parent is same =
      let earlier : parent.node < c = (parent_is_port (record { tree = tree; laws = laws }) c parent is).0 in
      let ports : ports_above nodes c ≡ parent ∷ ports_above nodes parent.node =
      laws.ports c ∙ ap (λ (o : Option Parent). option_map_or (λ p. p ∷ ports_above nodes p.node) o []) is in
      record {
        later = omega (arith, earlier, same);
        below = parent_within nodes c parent is;
        deeper = ap length ports ∙ ap (λ (m : ℕ). suc (length (ports_above nodes m))) same;
      }

  pub child_at_port : (n p c : ℕ) → child_of nodes n p ≡ Some c → IsChild nodes n c
  child_at_port n p c is = stands n c (record { node = n; port = p }) ((laws.children n p c).0 is) refl

  pub only_child : (n c : ℕ) → forwards_at nodes n ≡ true → least_child_of nodes n ≡ Some c → IsChild nodes n c
  only_child n c forwards is = go (parent_of nodes c) refl ((laws.only_children n c forwards).0 is)
    where
      go : (o : Option Parent) → parent_of nodes c ≡ o → option_map (λ parent. parent.node) o ≡ Some n → IsChild nodes n c
      go None e same = absurd (none-some n same)
      go (Some parent) e same = stands n c parent e (same_Some parent.node n same)
