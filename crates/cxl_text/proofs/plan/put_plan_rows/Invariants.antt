use Rattle.std.proofs.Common.{◌≡◌, ◌++◌, take}
use Rattle.std.specs.List.{flat_map}
use Rattle.cxl_reply.specs.Plans.{planned_text}
use Rattle.cxl_text.proofs.plan.put_plan_rows.Given as goal

-- the lines so far are appended
abbrev pub invariant-loop-row : goal.invariant-loop-row
invariant-loop-row l = l.out.items ≡ l.fn.out.items ++ flat_map (planned_text l.topo.nodes) (take l.row-index l.rows)
