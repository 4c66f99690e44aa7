use Rattle.std.proofs.Common.{◌≡◌, ◌+◌, ◌≤◌, not, length, drop, filter}
use Rattle.std.specs.Prelude.{◌==◌}
use Rattle.cxl_pick.specs.inner.Gifts.{known_at}
use Rattle.cxl_pick.proofs.asking.willing.Given as goal

abbrev pub invariant-loop-child : goal.invariant-loop-child
invariant-loop-child l =
    (l.willing + length (filter (λ c. not (known_at l.gifts.known.items c l.share == 0)) (drop l.child-index l.children))
    ≡ length (filter (λ c. not (known_at l.gifts.known.items c l.share == 0)) l.children))
    × (l.willing ≤ l.child-index)
