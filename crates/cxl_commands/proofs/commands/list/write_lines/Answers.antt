use Rattle.std.proofs.lemmas.Result.{IfOk-from_err}
use Rattle.std.proofs.Common.{◌≡◌, ◌+◌, List, [], ◌∷◌, ◌++◌, length, sym, ap, subst, ◌∙◌, inl, inr, refl, arith}
use Rattle.std.specs.List.{filter_map}
use Rattle.cxl_enc.specs.Faults.{Rose, LeavesCount, CountsExactly}
use Rattle.cxl_enc.proofs.Options.{on_ok_at, on_err_at}
use Rattle.cxl_cedt.specs.RecordTexts.{record_in}
use Rattle.cxl_table.specs.declared.cedt.Record.{Record}
use Rattle.cxl_io.specs.Sink.{Takes, TakesPrefix}
use Rattle.cxl_io.specs.Blocks.{KeepsOrWrites}
use Rattle.cxl_window.specs.Windows.{cfmws_in}
use Rattle.cxl_commands.specs.commands.Lines.{list_lines}
use Rattle.cxl_commands.proofs.InBlocks.{blocks-written, blocks-flushed, blocks-cut}
use Rattle.cxl_commands.proofs.ListLines.{length-list_lines}
use Rattle.cxl_commands.proofs.ListedTo.{IsListedTo, stands_next, stands_within, place_there, place_left, listed_next, listed_none, listed_all}
use Rattle.cxl_commands.proofs.Results.{on_err_from, counted_on}
use Rattle.cxl_commands.proofs.commands.list.write_lines.Goals as goal

pub returns-in_err-put_line-clause-ends : goal.returns-in_err-put_line-clause-ends
returns-in_err-put_line-clause-ends g c = IfOk-from_err c.from_residual.result _ c.from_residual.ensures.0

pub loop-item-init : goal.loop-item-init
loop-item-init g c =
    let old = g.K.Sink.state c.args.out.now in
    let table = c.args.table.now.records in
    record {
      listed =
          subst (λ (rs : List Record). IsListedTo table rs 0 c.new-lines.result.block.items old old) (sym c.records-records.ensures)
          (subst (λ block. IsListedTo table table 0 block old old) (sym c.new-lines.ensures) (listed_none table old (c.writes_join.ensures.nothing old)));
      counts = omega arith;
      alone = refl;
      unswallowed = λ _. refl;
    }

pub loop-item-smaller : goal.loop-item-smaller
loop-item-smaller g c = let next = ap length c.in-Some.ensures in omega (arith, next)

pub put_line-requires : goal.put_line-requires
put_line-requires g c =
    let l = c.loop-item in
    let so_far = l.invariant.listed in
    place_there c.args.table.now.records so_far.before c.next.new.self (record_in c.in-Some.item) (stands_next c.args.table.now.records so_far.before c.next.new.self l.records (record_in c.in-Some.item) so_far.split c.in-Some.ensures) c.args.windows.now c.requires l.place so_far.windows

pub returns-in_err-put_line-clause-behind : goal.returns-in_err-put_line-clause-behind
returns-in_err-put_line-clause-behind g c =
    let l = c.loop-item in
    let so_far = l.invariant.listed in
    let there = stands_within c.args.table.now.records so_far.before c.next.new.self (record_in c.in-Some.item) (stands_next c.args.table.now.records so_far.before c.next.new.self l.records (record_in c.in-Some.item) so_far.split c.in-Some.ensures) in
    on_err_from c.from_residual.result _ (record {
      count = so_far.blocks.written;
      short = let few = so_far.blocks.few in omega (arith, length-list_lines c.args.table.now.records);
      taken = so_far.blocks.taken;
      unswallowed = l.invariant.unswallowed;
    })

pub returns-then-is_err-clause-ends : goal.returns-then-is_err-clause-ends
returns-then-is_err-clause-ends g c =
    let l = c.loop-item in
    let so_far = l.invariant.listed in
    let table = c.args.table.now.records in
    let old = g.K.Sink.state c.args.out.now in
    let now = g.K.Sink.state l.out in
    let new = g.K.Sink.state c.line_done.new.out in
    let r : Record = record_in c.in-Some.item in
    let split = stands_next table so_far.before c.next.new.self l.records r so_far.split c.in-Some.ensures in
    let next : IsListedTo table c.next.new.self (l.place + length (filter_map cfmws_in (r ∷ []))) c.put_line.new.out.items old now =
    listed_next table so_far.before c.next.new.self r split c.args.windows.now c.requires l.place so_far.windows (length (filter_map cfmws_in (r ∷ []))) l.lines.block.items c.put_line.new.out.items old now refl c.in_ok-put_line.ensures so_far.blocks in
    let failed = sym c.is_err.ensures.value ∙ c.if-is_err.true in
    let part : TakesPrefix now new c.put_line.new.out.items = on_err_at c.line_done.result _ failed c.line_done.ensures.failed in
    let rose : Rose now.faults new.faults = on_err_at c.line_done.result _ failed c.line_done.ensures.cause in
    let once : CountsExactly 1 now.counts_failures_alone now.faults new.faults = on_err_at c.line_done.result _ failed c.line_done.ensures.counted in
    inr (record {
      status_is = refl;
      rose = let before = l.invariant.counts in omega (arith, rose, before);
      taken = blocks-cut c.writes_join.ensures.both c.writes_join.ensures.first c.writes_join.ensures.second (list_lines table) (length next.before) c.put_line.new.out.items old now new next.blocks part;
      counted = λ only. counted_on old.faults now.faults new.faults (l.invariant.unswallowed only) (once (l.invariant.alone ∙ only));
    })

pub loop-item-preserved : goal.loop-item-preserved
loop-item-preserved g c =
    let l = c.loop-item in
    let so_far = l.invariant.listed in
    let table = c.args.table.now.records in
    let old = g.K.Sink.state c.args.out.now in
    let now = g.K.Sink.state l.out in
    let new = g.K.Sink.state c.line_done.new.out in
    let r : Record = record_in c.in-Some.item in
    let split = stands_next table so_far.before c.next.new.self l.records r so_far.split c.in-Some.ensures in
    let next : IsListedTo table c.next.new.self (l.place + c.window_count-place.result) c.put_line.new.out.items old now =
    listed_next table so_far.before c.next.new.self r split c.args.windows.now c.requires l.place so_far.windows c.window_count-place.result l.lines.block.items c.put_line.new.out.items old now c.window_count-place.ensures.value c.in_ok-put_line.ensures so_far.blocks in
    let left : LeavesCount now.counts_failures_alone now.faults new.faults = on_ok_at c.line_done.result _ (sym c.is_err.ensures.value ∙ c.if-is_err.false) c.line_done.ensures.unswallowed in
    let flushed : KeepsOrWrites _ now new c.put_line.new.out.items c.line_done.new.self.block.items = on_ok_at c.line_done.result _ (sym c.is_err.ensures.value ∙ c.if-is_err.false) c.line_done.ensures.ok in
    record {
      listed = record {
        before = next.before;
        split = next.split;
        windows = next.windows;
        blocks = blocks-flushed c.writes_join.ensures.both c.writes_join.ensures.first c.writes_join.ensures.second (list_lines table) (length next.before) c.put_line.new.out.items c.line_done.new.self.block.items old now new next.blocks flushed;
      };
      counts = let more = c.line_done.ensures.counts in let before = l.invariant.counts in omega arith;
      alone = c.line_done.ensures.alone ∙ l.invariant.alone;
      unswallowed = λ only. left (l.invariant.alone ∙ only) ∙ l.invariant.unswallowed only;
    }

pub returns-then-is_err-2-clause-ends : goal.returns-then-is_err-2-clause-ends
returns-then-is_err-2-clause-ends g c =
    let l = c.loop-item in
    let so_far = l.invariant.listed in
    let old = g.K.Sink.state c.args.out.now in
    let now = g.K.Sink.state l.out in
    let new = g.K.Sink.state c.end.new.out in
    let failed = sym c.is_err-2.ensures.value ∙ c.if-is_err-2.true in
    let part : TakesPrefix now new l.lines.block.items = on_err_at c.end.result _ failed c.end.ensures.failed in
    let rose : Rose now.faults new.faults = on_err_at c.end.result _ failed c.end.ensures.cause in
    let once : CountsExactly 1 now.counts_failures_alone now.faults new.faults = on_err_at c.end.result _ failed c.end.ensures.counted in
    inr (record {
      status_is = refl;
      rose = let before = l.invariant.counts in omega (arith, rose, before);
      taken = blocks-cut c.writes_join.ensures.both c.writes_join.ensures.first c.writes_join.ensures.second (list_lines c.args.table.now.records) (length so_far.before) l.lines.block.items old now new so_far.blocks part;
      counted = λ only. counted_on old.faults now.faults new.faults (l.invariant.unswallowed only) (once (l.invariant.alone ∙ only));
    })

pub returns-clause-ends : goal.returns-clause-ends
returns-clause-ends g c =
    let l = c.loop-item in
    let table = c.args.table.now.records in
    let old = g.K.Sink.state c.args.out.now in
    let now = g.K.Sink.state l.out in
    let new = g.K.Sink.state c.end.new.out in
    let so_far : IsListedTo table [] l.place l.lines.block.items old now = subst (λ (rs : List Record). IsListedTo table rs l.place l.lines.block.items old now) c.in_default.ensures l.invariant.listed in
    let taken : Takes now new l.lines.block.items = on_ok_at c.end.result _ (sym c.is_err-2.ensures.value ∙ c.if-is_err-2.false) c.end.ensures.ok in
    let left : LeavesCount now.counts_failures_alone now.faults new.faults = on_ok_at c.end.result _ (sym c.is_err-2.ensures.value ∙ c.if-is_err-2.false) c.end.ensures.unswallowed in
    inl (record {
      status_is = refl;
      taken =
          subst (Takes old new) (listed_all table l.place l.lines.block.items old now so_far)
          (blocks-written c.writes_join.ensures.both c.writes_join.ensures.first c.writes_join.ensures.second (list_lines table) (length so_far.before) l.lines.block.items old now new so_far.blocks taken);
      unswallowed = λ only. left (l.invariant.alone ∙ only) ∙ l.invariant.unswallowed only;
    })

pub overflow_add-place : goal.overflow_add-place
overflow_add-place g c =
    let l = c.loop-item in
    let so_far = l.invariant.listed in
    let r : Record = record_in c.in-Some.item in
    let split = stands_next c.args.table.now.records so_far.before c.next.new.self l.records r so_far.split c.in-Some.ensures in
    let fits = place_left c.args.table.now.records so_far.before c.next.new.self r split c.args.windows.now c.requires l.place so_far.windows c.window_count-place.result c.window_count-place.ensures.value in
    omega (arith, fits)
