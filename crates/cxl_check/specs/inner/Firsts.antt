-- Ranges as keys of a table, with the first endpoint of each.
use Rattle.std.specs.Prelude.{◌≡◌, ℕ, ◌<◌, ◌&&◌, List, length, find, slice_get, Option, Some, Bool}
use Rattle.std.specs.declared.cmp.Ordering.{Ordering}
use Rattle.std.specs.List.{range_with_len}
use Rattle.std.specs.Ordering.{nat_cmp, on, then_cmp}
use Rattle.std.specs.BTreeMap.{BTreeMap, get}
use Rattle.cxl_topo.specs.declared.node.Node.{Node}
use Rattle.cxl_topo.specs.Tree.{is_endpoint_at}
use Rattle.cxl_regs.specs.declared.reading.Range.{Range}
use Rattle.cxl_check.specs.declared.firsts.RangeKey.{RangeKey}
use Rattle.cxl_model.specs.System.{System}
use Rattle.cxl_model.specs.Ranges.{serves}
use Rattle.cxl_model.specs.Rules.{is_bridge_landing}

-- the order of ranges: by base, then by size
abbrev pub key_cmp : RangeKey → RangeKey → Ordering
key_cmp = then_cmp (on (λ key. key.base) nat_cmp) (on (λ key. key.size) nat_cmp)

-- the range of a key
abbrev pub range_at : RangeKey → Range
range_at key = record { base = key.base; size = key.size }

-- the first of the nodes below k that is an endpoint of the range
abbrev pub first_below : System → ℕ → Range → Option ℕ
first_below s k r = find (λ n. is_endpoint_at s.nodes n && serves s r n) (range_with_len 0 k)

-- the table has the first endpoint of each range among the nodes below k
abbrev pub ListsFirsts : System → ℕ → BTreeMap RangeKey ℕ → Type 0
ListsFirsts s k table = (key : RangeKey) → get key_cmp table key ≡ first_below s k (range_at key)

-- which nodes are the landing of a bridge
pub record AreLandings (nodes : List Node) (landings : List Bool) : Type 0 where
  pub count : length landings ≡ length nodes
  pub each : (n : ℕ) → n < length nodes → slice_get landings n ≡ Some (is_bridge_landing nodes n)
