use Rattle.std.proofs.Common.{◌≡◌, ◌++◌, take}
use Rattle.std.specs.List.{flat_map}
use Rattle.cxl_reply.specs.Texts.{extent_text}
use Rattle.cxl_text.proofs.places.put_extents.Given as goal

-- the lines so far are appended
abbrev pub invariant-loop-extent : goal.invariant-loop-extent
invariant-loop-extent l = l.out.items ≡ l.fn.out.items ++ flat_map (extent_text l.topo.nodes l.endpoints) (take l.extent-index l.extent-items)
