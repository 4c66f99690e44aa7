use Rattle.std.proofs.Common.{◌≡◌, ℕ, ◌-◌, ◌<◌, true, get_or, length}
use Rattle.cxl_model.specs.Hosts.{as_system}
use Rattle.cxl_pick.specs.inner.Gifts.{AreGifts, IsAsked, is_known}
use Rattle.cxl_pick.proofs.asking.+ask.Given as goal

abbrev pub decreases-ask : goal.decreases-ask
decreases-ask l = length l.host.now.topo.now.nodes - l.node

abbrev pub invariant-loop-child : goal.invariant-loop-child
invariant-loop-child l =
    AreGifts (as_system l.host) l.want l.gifts
    × IsAsked l.want l.gifts l.w l.start
    × ((n : ℕ) → is_known l.fn.gifts.known.items n ≡ true → is_known l.gifts.known.items n ≡ true)
    × ((i : ℕ) → i < l.child-index → is_known l.gifts.known.items (get_or l.children i 0) ≡ true)
