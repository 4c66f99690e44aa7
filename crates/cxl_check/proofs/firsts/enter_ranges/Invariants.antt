use Rattle.std.proofs.Common.{◌≡◌, Some, None, take, if◌then◌else◌}
use Rattle.std.specs.List.{list_any}
use Rattle.std.specs.Option.{option_or}
use Rattle.std.specs.BTreeMap.{get}
use Rattle.cxl_regs.specs.Reading.{has_range}
use Rattle.cxl_check.specs.declared.firsts.RangeKey.{RangeKey}
use Rattle.cxl_check.specs.inner.Firsts.{key_cmp, range_at}
use Rattle.cxl_check.proofs.firsts.enter_ranges.Given as goal

abbrev pub invariant-loop-i : goal.invariant-loop-i
invariant-loop-i l =
    (key : RangeKey) → get key_cmp l.firsts key ≡ option_or (get key_cmp l.initial.firsts key)
    (if list_any (has_range (range_at key)) (take l.i l.block.decoders) then Some l.node else None)
