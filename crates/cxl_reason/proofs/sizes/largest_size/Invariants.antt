use Rattle.std.proofs.Common.{◌≡◌, ℕ, ◌*◌, ◌-◌, ◌<◌, ◌≤◌, ◌⊎◌}
use Rattle.cxl_enc.specs.Limits.{unit}
use Rattle.cxl_model.specs.Hosts.{as_system}
use Rattle.cxl_reason.specs.inner.Sizes.{GivesAtParts}
use Rattle.cxl_reason.proofs.sizes.largest_size.Given as goal

abbrev pub invariant-loop-least : goal.invariant-loop-least
invariant-loop-least l =
    (l.least ≤ l.most)
    × (l.most * (unit * l.want.ways) ≤ l.want.size)
    × ((l.least ≡ 0) ⊎ GivesAtParts (as_system l.host) l.want l.w l.least)
    × ((parts : ℕ) → l.most < parts → GivesAtParts (as_system l.host) l.want l.w parts → ⊥)

abbrev pub decreases-loop-least : goal.decreases-loop-least
decreases-loop-least l = l.most - l.least
