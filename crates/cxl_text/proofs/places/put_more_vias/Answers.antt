use Rattle.std.proofs.Common.{List, map}
use Rattle.cxl_reply.specs.declared.details.Via.{Via}
use Rattle.cxl_reply.specs.Words.{more_spaced}
use Rattle.cxl_reply.specs.Texts.{via_text}
use Rattle.cxl_text.proofs.Lines.{word_step, all_items}
use Rattle.cxl_text.proofs.places.put_more_vias.Goals as goal

pub loop-via-preserved : goal.loop-via-preserved
loop-via-preserved c =
    word_step (via_text c.args.topo.now.nodes) c.args.vias.now c.loop-via.via-index _ _ _ _ c.loop-via-test.true c.loop-via.invariant c.in_ok-put_via.ensures

pub returns : goal.returns
returns c =
    all_items (λ (vias : List Via). more_spaced (map (via_text c.args.topo.now.nodes) vias)) c.args.vias.now c.loop-via.via-index _ _ c.loop-via-test.false c.loop-via.invariant
