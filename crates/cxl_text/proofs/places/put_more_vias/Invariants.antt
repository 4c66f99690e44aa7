use Rattle.std.proofs.Common.{◌≡◌, ◌++◌, take, map}
use Rattle.cxl_reply.specs.Words.{more_spaced}
use Rattle.cxl_reply.specs.Texts.{via_text}
use Rattle.cxl_text.proofs.places.put_more_vias.Given as goal

-- the lines so far are appended
abbrev pub invariant-loop-via : goal.invariant-loop-via
invariant-loop-via l = l.out.items ≡ l.fn.out.items ++ more_spaced (map (via_text l.topo.nodes) (take l.via-index l.vias))
