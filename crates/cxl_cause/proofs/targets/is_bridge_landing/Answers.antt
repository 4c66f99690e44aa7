use Rattle.std.proofs.Common.{◌≡◌, ℕ, ◌&&◌, Bool, false, length, refl, sym, ◌∙◌, arith}
use Rattle.std.specs.Prelude.{◌==◌}
use Rattle.std.specs.Option.{option_map_or}
use Rattle.cxl_topo.specs.Tree.{is_bridge_at, landing_of}
use Rattle.cxl_check.proofs.Numbers.{any_more}
use Rattle.cxl_cause.proofs.Searches.{any_here}
use Rattle.cxl_cause.proofs.targets.is_bridge_landing.Goals as goal

pub returns-then-is_landing_of : goal.returns-then-is_landing_of
returns-then-is_landing_of c =
    let nodes = c.args.topo.now.nodes in
    let test : ℕ → Bool = λ (b : ℕ). is_bridge_at nodes b && option_map_or (λ m. m == c.args.node) (landing_of nodes b) false in
    sym (any_here test c.loop-bridge.bridge (length nodes) (omega (arith, c.loop-bridge-test.true, c.count-bridge-end.ensures.count)) (sym c.is_landing_of.ensures ∙ c.if-is_landing_of.true))

pub loop-bridge-preserved : goal.loop-bridge-preserved
loop-bridge-preserved c =
    let nodes = c.args.topo.now.nodes in
    let test : ℕ → Bool = λ (b : ℕ). is_bridge_at nodes b && option_map_or (λ m. m == c.args.node) (landing_of nodes b) false in
    let other : test c.loop-bridge.bridge ≡ false = sym c.is_landing_of.ensures ∙ c.if-is_landing_of.false in
    any_more test c.loop-bridge.bridge ∙ rw (c.loop-bridge.invariant, other) refl

pub returns : goal.returns
returns c =
    let whole : c.loop-bridge.bridge ≡ length c.args.topo.now.nodes = omega (arith, c.loop-bridge-test.false, c.count-bridge-end.ensures.count) in
    sym (rw whole at c.loop-bridge.invariant)
