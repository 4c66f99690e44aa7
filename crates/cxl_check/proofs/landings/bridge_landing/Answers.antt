use Rattle.std.proofs.Common.{◌≡◌, ℕ, ◌<◌, Option, Some, None, length, refl, sym, ◌∙◌}
use Rattle.std.specs.Prelude.{IfSome}
use Rattle.cxl_check.proofs.Trees.{landing_below}
use Rattle.cxl_check.proofs.landings.bridge_landing.Goals as goal

below : (o : Option ℕ) (n : ℕ) → ((m : ℕ) → o ≡ Some m → m < n) → IfSome o (λ m. m < n)
below None n each = tt
below (Some m) n each = each m refl

pub returns-in-Bridge-clause-inside : goal.returns-in-Bridge-clause-inside
returns-in-Bridge-clause-inside c =
    let nodes = c.args.topo.now.nodes in
    below c.landing.result (length nodes) (λ m is. landing_below (length nodes) nodes c.args.node m c.requires (sym c.landing.ensures ∙ is))
