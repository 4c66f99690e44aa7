-- What the faults that do not fit say of nodes.
use Rattle.std.proofs.Common.{◌≡◌, ℕ, ◌+◌, ◌*◌, ◌<◌, ◌≤◌, true, false, ◌&&◌, List, take, Option, Some, None, sym, ◌∙◌, inl, inr, arith}
use Rattle.std.specs.Prelude.{slice_get, nat_le}
use Rattle.std.specs.Option.{option_map_or}
use Rattle.std.proofs.lemmas.Bool.{and_cases, false≢true, leb-false}
use Rattle.cxl_topo.specs.declared.node.Node.{Node}
use Rattle.cxl_topo.specs.declared.fault.TreeFault.TheVariants as faults
use Rattle.cxl_topo.specs.Kinds.{is_switch}
use Rattle.cxl_topo.specs.Tree.{holds_at, is_switch_at}
use Rattle.cxl_topo.specs.Faults.{lacks_parent, switches_above, NoneBefore}

-- no node up to the last one lacks a parent
pub no_lack : (nodes : List Node) (turn last : ℕ) → NoneBefore nodes turn → 8 * last + 1 < turn → (k : ℕ) → k ≤ last → holds_at nodes k (lacks_parent (take k nodes)) ≡ false
no_lack nodes turn last none lt k le = none (faults.NoParent k) (omega arith)

-- no switch up to the last one has four switches above it
pub shallow : (nodes : List Node) (turn last : ℕ) → NoneBefore nodes turn → 8 * last + 6 < turn → (k : ℕ) → k ≤ last → is_switch_at nodes k ≡ true → switches_above nodes k < 4
shallow nodes turn last none lt k le switch = go (slice_get nodes k) switch (none (faults.Depth k) (omega arith))
  where
    go : (o : Option Node) → option_map_or (λ (node : Node). is_switch node.kind) o false ≡ true → option_map_or (λ (node : Node). is_switch node.kind && nat_le 4 (switches_above nodes k)) o false ≡ false → switches_above nodes k < 4
    go None s d = absurd (false≢true s)
    go (Some node) s d =
        elim (and_cases (is_switch node.kind) (nat_le 4 (switches_above nodes k)) d) [
          | inl other ↦ absurd (false≢true (sym other ∙ s))
          | inr few ↦ leb-false 4 (switches_above nodes k) few
        ]
