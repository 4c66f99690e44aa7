use Rattle.std.proofs.Common.{ℕ, List, get_or, ap, ◌∙◌}
use Rattle.cxl_legal.specs.Used.{count_under}
use Rattle.cxl_plan.specs.inner.Uses.{tree_alone}
use Rattle.cxl_plan.proofs.used.count_of.Goals as goal

pub returns : goal.returns
returns c =
    let place : ℕ = c.place_of.result in
    ap (λ (xs : List ℕ). get_or xs place 0) c.as_slice.ensures.value ∙ c.requires.uses.counts.each place c.place_of.ensures.within ∙ ap (count_under (tree_alone c.args.topo.now.nodes) c.args.request.now) c.place_of.ensures.node
