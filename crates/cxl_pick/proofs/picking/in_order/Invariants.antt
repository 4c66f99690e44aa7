use Rattle.std.proofs.Common.{◌≡◌}
use Rattle.std.specs.Prelude.{filter}
use Rattle.std.specs.List.{range_with_len}
use Rattle.cxl_enc.proofs.Lists.{is_in}
use Rattle.cxl_pick.proofs.picking.in_order.Given as goal

abbrev pub invariant-loop-node : goal.invariant-loop-node
invariant-loop-node l = l.set.items ≡ filter (λ n. is_in n l.given) (range_with_len 0 l.node)
