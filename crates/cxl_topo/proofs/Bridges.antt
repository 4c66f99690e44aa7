-- Which nodes are bridges, and that a bridge is a port.
use Rattle.std.proofs.Common.{◌≡◌, ℕ, ◌<◌, Bool, true, false, not, List, length, Option, Some, None, refl, sym, ap, ◌∙◌, inl, inr}
use Rattle.std.specs.Prelude.{slice_get}
use Rattle.std.specs.Option.{option_map_or}
use Rattle.std.proofs.lemmas.Bool.{cases_Bool, false≢true}
use Rattle.std.proofs.lemmas.Option.{none-some}
use Rattle.cxl_topo.specs.declared.node.Node.{Node}
use Rattle.cxl_topo.specs.declared.node.NodeKind.{NodeKind}
use Rattle.cxl_topo.specs.declared.node.NodeKind.TheVariants.{Bridge, Switch, Endpoint}
use Rattle.cxl_topo.specs.Kinds.{is_bridge, is_endpoint}
use Rattle.cxl_topo.specs.Tree.{is_bridge_at, is_port_at, parent_of}
use Rattle.cxl_topo.proofs.Trees.{KnownTree}

-- a node without a parent is a bridge
pub top_bridge : {nodes : List Node} → KnownTree nodes → (b : ℕ) → parent_of nodes b ≡ None → b < length nodes → is_bridge_at nodes b ≡ true
top_bridge {nodes} known b none within =
    elim (cases_Bool (is_bridge_at nodes b)) [
      | inl bridge ↦ bridge
      | inr other ↦ let own = known.tree.others b within other in absurd (none-some own.0 (sym none ∙ own.1))
    ]

kind_port : (kind : NodeKind) → is_bridge kind ≡ true → is_endpoint kind ≡ false
kind_port (Bridge uid) is = refl
kind_port Switch is = refl
kind_port (Endpoint capacity) is = absurd (false≢true is)

-- a bridge is a port
pub bridge_port : (nodes : List Node) (b : ℕ) → is_bridge_at nodes b ≡ true → is_port_at nodes b ≡ true
bridge_port nodes b is = go (slice_get nodes b) is
  where
    go : (o : Option Node) → option_map_or (λ node. is_bridge node.kind) o false ≡ true → option_map_or (λ node. not (is_endpoint node.kind)) o false ≡ true
    go None none = absurd (false≢true none)
    go (Some node) bridge = ap not (kind_port node.kind bridge)
