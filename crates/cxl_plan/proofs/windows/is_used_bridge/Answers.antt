use Rattle.std.proofs.Common.{ℕ, List, Option, false, length, sym, ap, ◌∙◌, arith}
use Rattle.std.specs.Prelude.{◌==◌}
use Rattle.std.specs.List.{list_any}
use Rattle.std.specs.Option.{option_map_or}
use Rattle.cxl_legal.specs.Used.{is_used}
use Rattle.cxl_plan.specs.inner.Uses.{tree_alone}
use Rattle.cxl_plan.proofs.Tables.{any_filtered}
use Rattle.cxl_plan.proofs.Reasons.{bridge_inside}
use Rattle.cxl_plan.proofs.windows.is_used_bridge.Goals as goal

pub returns-in-Some : goal.returns-in-Some
returns-in-Some c =
    let nodes = c.args.topo.now.nodes in
    let bridge : ℕ = c.in-Some.bridge in
    let inside = bridge_inside nodes (c.tree_laws.ensures.laws nodes c.count-count.ensures.tree) c.args.uid bridge (sym c.in-Some.ensures.bridge) in
    c.contains.ensures.value ∙ ap (λ (xs : List ℕ). list_any (λ m. m == bridge) xs) (c.deref.ensures.value ∙ c.requires.listed)
    ∙ any_filtered (is_used (tree_alone nodes) c.args.request.now) 0 (length nodes) bridge (omega arith) (omega (arith, inside))
    ∙ ap (λ (o : Option ℕ). option_map_or (is_used (tree_alone nodes) c.args.request.now) o false) c.in-Some.ensures.bridge
