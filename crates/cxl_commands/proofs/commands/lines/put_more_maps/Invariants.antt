use Rattle.std.proofs.Common.{◌≡◌, ◌++◌, take}
use Rattle.cxl_commands.specs.commands.Lines.{more_maps_text}
use Rattle.cxl_commands.proofs.commands.lines.put_more_maps.Given as goal

-- the maps so far are appended
abbrev pub invariant-loop-map : goal.invariant-loop-map
invariant-loop-map l = l.out.items ≡ l.fn.out.items ++ more_maps_text (take l.map-index l.maps)
