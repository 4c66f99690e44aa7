-- Windows that can be used.
use Rattle.std.proofs.Common.{◌≡◌, true, refl, ◌+◌, ◌≤◌}
use Rattle.std.proofs.lemmas.Bool.{false≢true}
use Rattle.cxl_enc.specs.Limits.{address_limit}
use Rattle.cxl_window.specs.declared.window.Verdict.{Verdict}
use Rattle.cxl_window.specs.declared.window.Verdict.TheVariants.{Usable, Align, Size, TooHigh, Overlap, Target, Repeat, Maps}
use Rattle.cxl_window.specs.Fields.{WindowFields, IsWindow}
use Rattle.cxl_window.specs.Position.{is_usable}

verdict_is : (v : Verdict) → is_usable v ≡ true → v ≡ Usable
verdict_is Usable is = refl
verdict_is Align is = absurd (false≢true is)
verdict_is Size is = absurd (false≢true is)
verdict_is TooHigh is = absurd (false≢true is)
verdict_is (Overlap i) is = absurd (false≢true is)
verdict_is (Target u) is = absurd (false≢true is)
verdict_is (Repeat u) is = absurd (false≢true is)
verdict_is Maps is = absurd (false≢true is)

-- one ends at or below the address limit
pub ends_low : (w : WindowFields) → IsWindow w → is_usable w.verdict ≡ true → w.base + w.size ≤ address_limit
ends_low w window usable = (window.usable (verdict_is w.verdict usable)).low
