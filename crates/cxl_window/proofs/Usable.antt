-- A verdict of usable is that one.
use Rattle.std.proofs.Common.{◌≡◌, true, refl}
use Rattle.cxl_window.specs.declared.window.Verdict.{Verdict}
use Rattle.cxl_window.specs.declared.window.Verdict.TheVariants.{Usable, Align, Size, TooHigh, Overlap, Target, Repeat, Maps}
use Rattle.cxl_window.specs.Position.{is_usable}

pub usable_is : (verdict : Verdict) → is_usable verdict ≡ true → verdict ≡ Usable
usable_is Usable h = refl
usable_is Align h = cc
usable_is Size h = cc
usable_is TooHigh h = cc
usable_is (Overlap i) h = cc
usable_is (Target u) h = cc
usable_is (Repeat u) h = cc
usable_is Maps h = cc
