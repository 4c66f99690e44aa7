use Rattle.std.proofs.Common.{◌≡◌, ◌++◌, drop, map}
use Rattle.std.specs.Prelude.{option_map}
use Rattle.cxl_model.specs.Hosts.{as_system}
use Rattle.cxl_pick.specs.Picking.{all_given}
use Rattle.cxl_pick.specs.inner.Gifts.{AreGifts, IsAsked}
use Rattle.cxl_pick.proofs.Parts.{at_target}
use Rattle.cxl_pick.proofs.picking.give_for_each.Given as goal

abbrev pub invariant-loop-uid : goal.invariant-loop-uid
invariant-loop-uid l =
    AreGifts (as_system l.host) l.want l.gifts
    × IsAsked l.want l.gifts l.w l.start
    × (option_map (λ ms. l.given.items ++ ms) (all_given (map (at_target (as_system l.host) l.want l.w l.start) (drop l.uid-index l.targets)))
    ≡ all_given (map (at_target (as_system l.host) l.want l.w l.start) l.targets))
