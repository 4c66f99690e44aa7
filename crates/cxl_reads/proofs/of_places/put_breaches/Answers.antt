use Rattle.std.specs.List.{flat_map}
use Rattle.cxl_reads.specs.Breaches.{breach_line}
use Rattle.cxl_text.proofs.Lines.{item_step, all_items}
use Rattle.cxl_reads.proofs.of_places.put_breaches.Goals as goal

pub loop-b-preserved : goal.loop-b-preserved
loop-b-preserved c =
    item_step (breach_line c.args.topo.now.nodes) c.args.found.now c.loop-b.b-index _ _ _ _ c.loop-b-test.true c.loop-b.invariant c.in_ok-put_breach.ensures.ok

pub returns : goal.returns
returns c =
    all_items (flat_map (breach_line c.args.topo.now.nodes)) c.args.found.now c.loop-b.b-index _ _ c.loop-b-test.false c.loop-b.invariant
