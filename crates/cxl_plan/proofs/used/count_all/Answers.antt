use Rattle.std.proofs.Common.{ℕ, ◌+◌, ◌≤◌, List, length, filter, get_or, take, refl, sym, subst, arith, if◌then◌else◌}
use Rattle.std.proofs.lemmas.List.{take_all}
use Rattle.std.proofs.lemmas.List.Filters.{length-filter_more}
use Rattle.cxl_topo.proofs.Trees.{endpoint_within}
use Rattle.cxl_model.specs.Counts.{is_under}
use Rattle.cxl_plan.specs.inner.Uses.{AreCounted}
use Rattle.cxl_plan.proofs.Counting.{none_counted, recounted}
use Rattle.cxl_plan.proofs.used.count_all.Goals as goal

pub loop-endpoint-init : goal.loop-endpoint-init
loop-endpoint-init c = none_counted _ (length c.args.topo.now.nodes) c.args.nodes.now.items c.args.counts.now.items c.requires.no_nodes c.requires.no_counts (λ n. refl)

pub count_up-requires-clause-here : goal.count_up-requires-clause-here
count_up-requires-clause-here c = endpoint_within c.args.topo.now.nodes _ (c.requires.named c.loop-endpoint.endpoint-index 0 (omega arith))

pub count_up-requires-clause-same : goal.count_up-requires-clause-same
count_up-requires-clause-same c = c.loop-endpoint.invariant.count

pub loop-endpoint-preserved : goal.loop-endpoint-preserved
loop-endpoint-preserved c =
    let nodes = c.args.topo.now.nodes in
    let es : List ℕ = c.args.endpoints.now in
    let i : ℕ = c.loop-endpoint.endpoint-index in
    recounted (λ n. length (filter (is_under nodes n) (take i es)) + (if is_under nodes n (get_or es i 0) then 1 else 0)) (λ n. length (filter (is_under nodes n) (take (i + 1) es))) (length nodes) _ _
    (λ n. sym (length-filter_more (is_under nodes n) es i 0 (omega arith)))
    (c.in_ok-count_up.ensures.counted (λ n. length (filter (is_under nodes n) (take i es))) c.loop-endpoint.invariant)

pub returns : goal.returns
returns c =
    let past : length c.args.endpoints.now ≤ c.loop-endpoint.endpoint-index = omega arith in
    subst (λ (es : List ℕ). AreCounted (λ n. length (filter (is_under c.args.topo.now.nodes n) es)) (length c.args.topo.now.nodes) c.loop-endpoint.nodes.items c.loop-endpoint.counts.items) (take_all c.loop-endpoint.endpoint-index c.args.endpoints.now past) c.loop-endpoint.invariant
