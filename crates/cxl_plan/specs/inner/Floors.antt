-- The end of all that is committed in the used nodes.
use Rattle.std.specs.Prelude.{◌≡◌, ℕ, ◌≤◌, true, List}
use Rattle.cxl_enc.specs.Limits.{address_limit}
use Rattle.cxl_topo.specs.declared.node.Node.{Node}
use Rattle.cxl_regs.specs.Registers.{Registers}
use Rattle.cxl_model.specs.declared.request.Request.{Request}
use Rattle.cxl_legal.specs.Used.{is_used}
use Rattle.cxl_legal.specs.Bases.{last_end}
use Rattle.cxl_plan.specs.inner.Judging.{without_windows}

-- the least number that no used node's end is above
pub record IsFloor (nodes : List Node) (blocks : List Registers) (request : Request) (floor : ℕ) : Type 0 where
  pub above : (n : ℕ) → is_used (without_windows nodes blocks) request n ≡ true → last_end (without_windows nodes blocks) n ≤ floor
  pub least : (bound : ℕ) → ((n : ℕ) → is_used (without_windows nodes blocks) request n ≡ true → last_end (without_windows nodes blocks) n ≤ bound) → floor ≤ bound
  pub low : floor ≤ address_limit
