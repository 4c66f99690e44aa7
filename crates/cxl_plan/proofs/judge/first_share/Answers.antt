use Rattle.std.proofs.Common.{ℕ, Some, ap, ◌∙◌}
use Rattle.std.specs.Prelude.{option_map}
use Rattle.cxl_legal.specs.Used.{count_under}
use Rattle.cxl_plan.specs.inner.Uses.{tree_alone}
use Rattle.cxl_plan.proofs.judge.first_share.Goals as goal

pub returns : goal.returns
returns c = ap (λ (n : ℕ). Some n) c.count_of.ensures ∙ ap (option_map (count_under (tree_alone c.args.topo.now.nodes) c.args.request.now)) c.in_ok-bridge.ensures.first
