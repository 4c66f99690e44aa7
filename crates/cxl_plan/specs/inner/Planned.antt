-- The rows that are stated for a request; opaque, since the list of all ports is long.
use Rattle.std.specs.Prelude.{ℕ, List}
use Rattle.cxl_topo.specs.declared.node.Node.{Node}
use Rattle.cxl_regs.specs.Registers.{Registers}
use Rattle.cxl_window.specs.Fields.{WindowFields}
use Rattle.cxl_model.specs.declared.request.Request.{Request}
use Rattle.cxl_model.specs.declared.plan.Row.{Row}
use Rattle.cxl_legal.specs.Stated.{stated_tail, stated_row, stated_rows, Reaches}
use Rattle.cxl_plan.specs.inner.Judging.{without_windows, over}

-- the skip or the target list that is stated for node n
unfoldable pub tail_at : List Node → List Registers → Request → ℕ → ℕ
tail_at nodes blocks request n = stated_tail (without_windows nodes blocks) request n

-- the row that is stated for node n
unfoldable pub row_at : List Node → List Registers → Request → WindowFields → ℕ → ℕ → Row
row_at nodes blocks request w base n = stated_row (without_windows nodes blocks) request w base n

-- the rows that are stated for a request
unfoldable pub rows_at : List Node → List Registers → Request → WindowFields → ℕ → List Row
rows_at nodes blocks request w base = stated_rows (without_windows nodes blocks) request w base

-- from node n on, the used ports lead a slot to this endpoint
unfoldable pub ReachesAt : List Node → Request → WindowFields → ℕ → ℕ → ℕ → Type 0
ReachesAt nodes request w slot n m = (blocks : List Registers) (windows : List WindowFields) → Reaches (over nodes blocks windows) request w slot n m
