use Rattle.std.proofs.lemmas.Result.{IfOk-from_err}
use Rattle.std.proofs.Common.{◌+◌, map, sym, subst, ◌∙◌, inl, inr, refl, arith}
use Rattle.cxl_enc.specs.Faults.{Rose, LeavesCount, CountsExactly}
use Rattle.cxl_enc.proofs.Options.{on_ok_at, on_err_at}
use Rattle.cxl_io.specs.Sink.{Takes, TakesPrefix}
use Rattle.cxl_reply.specs.Plans.{found_text}
use Rattle.cxl_io.specs.Blocks.{KeepsOrWrites}
use Rattle.cxl_commands.proofs.InBlocks.{blocks-written, blocks-flushed, blocks-cut}
use Rattle.cxl_commands.proofs.Regions.{blocks-region, length-region_lines, all_regions}
use Rattle.cxl_commands.proofs.Results.{on_err_from, counted_on}
use Rattle.cxl_commands.proofs.commands.check.write_regions.Goals as goal

pub returns-in_err-put_found-clause-ends : goal.returns-in_err-put_found-clause-ends
returns-in_err-put_found-clause-ends g c = IfOk-from_err c.from_residual.result _ c.from_residual.ensures.0

pub returns-in_err-put_found-clause-behind : goal.returns-in_err-put_found-clause-behind
returns-in_err-put_found-clause-behind g c =
    let so_far = c.loop-region.invariant.blocks in
    on_err_from c.from_residual.result _ (record {
      count = so_far.written;
      short = let few = so_far.few in let there = c.loop-region-test.true in omega (arith, length-region_lines c.args.topo.now.nodes c.args.regions.now);
      taken = so_far.taken;
      unswallowed = c.loop-region.invariant.unswallowed;
    })

pub returns-then-is_err-clause-ends : goal.returns-then-is_err-clause-ends
returns-then-is_err-clause-ends g c =
    let l = c.loop-region in
    let lines = map (found_text c.args.topo.now.nodes) c.args.regions.now in
    let old = g.K.Sink.state c.args.out.now in
    let now = g.K.Sink.state l.out in
    let new = g.K.Sink.state c.line_done.new.out in
    let next = blocks-region c.args.topo.now.nodes c.args.regions.now l.region-index c.region-item.result c.loop-region-test.true c.region-item.is l.lines.block.items c.put_found.new.out.items old now c.in_ok-put_found.ensures.ok l.invariant.blocks in
    let failed = sym c.is_err.ensures.value ∙ c.if-is_err.true in
    let part : TakesPrefix now new c.put_found.new.out.items = on_err_at c.line_done.result _ failed c.line_done.ensures.failed in
    let rose : Rose now.faults new.faults = on_err_at c.line_done.result _ failed c.line_done.ensures.cause in
    let once : CountsExactly 1 now.counts_failures_alone now.faults new.faults = on_err_at c.line_done.result _ failed c.line_done.ensures.counted in
    inr (record {
      status_is = refl;
      rose = let so_far = l.invariant.counts in omega (arith, rose, so_far);
      taken = blocks-cut c.writes_join.ensures.both c.writes_join.ensures.first c.writes_join.ensures.second lines (l.region-index + 1) c.put_found.new.out.items old now new next part;
      counted = λ only. counted_on old.faults now.faults new.faults (l.invariant.unswallowed only) (once (l.invariant.alone ∙ only));
    })

pub loop-region-preserved : goal.loop-region-preserved
loop-region-preserved g c =
    let l = c.loop-region in
    let lines = map (found_text c.args.topo.now.nodes) c.args.regions.now in
    let old = g.K.Sink.state c.args.out.now in
    let now = g.K.Sink.state l.out in
    let new = g.K.Sink.state c.line_done.new.out in
    let next = blocks-region c.args.topo.now.nodes c.args.regions.now l.region-index c.region-item.result c.loop-region-test.true c.region-item.is l.lines.block.items c.put_found.new.out.items old now c.in_ok-put_found.ensures.ok l.invariant.blocks in
    let left : LeavesCount now.counts_failures_alone now.faults new.faults = on_ok_at c.line_done.result _ (sym c.is_err.ensures.value ∙ c.if-is_err.false) c.line_done.ensures.unswallowed in
    let flushed : KeepsOrWrites _ now new c.put_found.new.out.items c.line_done.new.self.block.items = on_ok_at c.line_done.result _ (sym c.is_err.ensures.value ∙ c.if-is_err.false) c.line_done.ensures.ok in
    record {
      blocks = blocks-flushed c.writes_join.ensures.both c.writes_join.ensures.first c.writes_join.ensures.second lines (l.region-index + 1) c.put_found.new.out.items c.line_done.new.self.block.items old now new next flushed;
      counts = let more = c.line_done.ensures.counts in let so_far = l.invariant.counts in omega arith;
      alone = c.line_done.ensures.alone ∙ l.invariant.alone;
      unswallowed = λ only. left (l.invariant.alone ∙ only) ∙ l.invariant.unswallowed only;
    }

pub returns-then-is_err-2-clause-ends : goal.returns-then-is_err-2-clause-ends
returns-then-is_err-2-clause-ends g c =
    let l = c.loop-region in
    let lines = map (found_text c.args.topo.now.nodes) c.args.regions.now in
    let old = g.K.Sink.state c.args.out.now in
    let now = g.K.Sink.state l.out in
    let new = g.K.Sink.state c.end.new.out in
    let failed = sym c.is_err-2.ensures.value ∙ c.if-is_err-2.true in
    let part : TakesPrefix now new l.lines.block.items = on_err_at c.end.result _ failed c.end.ensures.failed in
    let rose : Rose now.faults new.faults = on_err_at c.end.result _ failed c.end.ensures.cause in
    let once : CountsExactly 1 now.counts_failures_alone now.faults new.faults = on_err_at c.end.result _ failed c.end.ensures.counted in
    inr (record {
      status_is = refl;
      rose = let so_far = l.invariant.counts in omega (arith, rose, so_far);
      taken = blocks-cut c.writes_join.ensures.both c.writes_join.ensures.first c.writes_join.ensures.second lines l.region-index l.lines.block.items old now new l.invariant.blocks part;
      counted = λ only. counted_on old.faults now.faults new.faults (l.invariant.unswallowed only) (once (l.invariant.alone ∙ only));
    })

pub returns-clause-ends : goal.returns-clause-ends
returns-clause-ends g c =
    let l = c.loop-region in
    let lines = map (found_text c.args.topo.now.nodes) c.args.regions.now in
    let old = g.K.Sink.state c.args.out.now in
    let now = g.K.Sink.state l.out in
    let new = g.K.Sink.state c.end.new.out in
    let taken : Takes now new l.lines.block.items = on_ok_at c.end.result _ (sym c.is_err-2.ensures.value ∙ c.if-is_err-2.false) c.end.ensures.ok in
    let left : LeavesCount now.counts_failures_alone now.faults new.faults = on_ok_at c.end.result _ (sym c.is_err-2.ensures.value ∙ c.if-is_err-2.false) c.end.ensures.unswallowed in
    inl (record {
      status_is = refl;
      taken =
          subst (Takes old new) (all_regions c.args.topo.now.nodes c.args.regions.now l.region-index c.loop-region-test.false)
          (blocks-written c.writes_join.ensures.both c.writes_join.ensures.first c.writes_join.ensures.second lines l.region-index l.lines.block.items old now new l.invariant.blocks taken);
      unswallowed = λ only. left (l.invariant.alone ∙ only) ∙ l.invariant.unswallowed only;
    })
