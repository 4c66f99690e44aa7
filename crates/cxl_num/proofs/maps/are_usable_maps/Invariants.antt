use Rattle.std.proofs.Common.{◌≡◌, ◌-◌, drop}
use Rattle.cxl_num.specs.Maps.{are_usable_from, are_usable_maps}
use Rattle.cxl_num.proofs.maps.are_usable_maps.Given as goal

-- the maps from i on decide
abbrev pub invariant-loop-i : goal.invariant-loop-i
invariant-loop-i l = are_usable_from l.gran l.bits l.i (l.bits - l.i) (drop l.i l.maps) ≡ are_usable_maps l.gran l.bits l.maps
