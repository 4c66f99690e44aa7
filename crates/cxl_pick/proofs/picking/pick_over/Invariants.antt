use Rattle.std.proofs.Common.{◌≡◌, ℕ, ◌<◌, Some, None}
use Rattle.std.specs.Prelude.{slice_get, All}
use Rattle.cxl_window.specs.Fields.{WindowFields}
use Rattle.cxl_model.specs.Hosts.{as_system}
use Rattle.cxl_pick.specs.Picking.{given_in}
use Rattle.cxl_pick.specs.inner.Gifts.{AreGifts}
use Rattle.cxl_pick.proofs.picking.pick_over.Given as goal

abbrev pub invariant-loop-w : goal.invariant-loop-w
invariant-loop-w l =
    All (AreGifts (as_system l.host) l.want) l.tables.items
    × ((k : ℕ) (v : WindowFields) → k < l.w-index → slice_get l.host.windows.now k ≡ Some v → given_in (as_system l.host) l.want v ≡ None)
