use Rattle.std.proofs.Common.{◌≡◌, ℕ, sym, ap, refl, ◌∙◌}
use Rattle.std.specs.Prelude.{◌==◌}
use Rattle.cxl_enc.specs.Codes.{bits_of}
use Rattle.cxl_topo.specs.Tree.{is_endpoint_at}
use Rattle.cxl_legal.specs.Endpoints.{cap_at}
use Rattle.cxl_plan.specs.inner.Uses.{tree_alone, ways_at}
use Rattle.cxl_plan.proofs.stages.stage_of.Goals as goal

pub returns : goal.returns
returns c =
    let nodes = c.args.topo.now.nodes in
    let request = c.args.request.now in
    let node : ℕ = c.args.node in
    let cap : c.node-own.result.now.cap ≡ cap_at (tree_alone nodes) node = sym (rw c.node-own.ensures refl) in
    let endpoint : c.is_endpoint.result ≡ is_endpoint_at nodes node = c.is_endpoint.ensures ∙ sym (rw c.node-own.ensures refl) in
    let single : (c.planned_ways-ways.result == 1) ≡ (ways_at nodes request node == 1) = ap (λ (n : ℕ). n == 1) c.planned_ways-ways.ensures.value in
    let bits : c.split.result.bits ≡ bits_of (ways_at nodes request node) = c.split.ensures.bits ∙ ap bits_of c.planned_ways-ways.ensures.value in
    let above = c.used_above-above.ensures.bits in
    λ k. record { cap = cap k; endpoint = endpoint k; single = single k; bits = bits k; above = above k }
