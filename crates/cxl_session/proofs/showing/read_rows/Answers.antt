use Rattle.std.proofs.Common.{◌≡◌, ◌<◌, List, [], ◌∷◌, ◌++◌, map, take, length, sym, ap, ◌∙◌, arith}
use Rattle.std.proofs.Math.Nat.{le_trans}
use Rattle.std.proofs.lemmas.List.{length-map, length-take, take_all}
use Rattle.cxl_model.specs.declared.plan.Row.{Row}
use Rattle.cxl_reply.specs.declared.details.ShownRow.{ShownRow}
use Rattle.cxl_machine.specs.Reports.{shown_row}
use Rattle.cxl_opening.proofs.Errors.{at_any_err}
use Rattle.cxl_session.proofs.Shows.{shown_more, read_more, read_stops, untouched_more}
use Rattle.cxl_session.proofs.showing.read_rows.Goals as goal

pub loop-row-preserved : goal.loop-row-preserved
loop-row-preserved g c =
    let rows : List Row = c.args.rows.now in
    let front : List ShownRow = map shown_row (take c.loop-row.row-index rows) in
    record {
      rows = record {
        are =
            c.push_reserved.ensures.items ∙ ap (λ (all : List ShownRow). all ++ c.in_ok-words.words ∷ []) c.loop-row.invariant.rows.are
            ∙ ap (λ (one : ShownRow). front ++ one ∷ []) c.in_ok-words.ensures.shown ∙ sym (shown_more rows c.loop-row.row-index _ c.loop-row-test.true);
        read = read_more _ (g.R.Regs.state c.loop-row.regs) _ c.loop-row.invariant.rows.read c.read_row.ensures.same c.read_row.ensures.counts c.in_ok-words.ensures.unfailed;
      };
      room = omega (arith, c.push_reserved.ensures.capacity, c.loop-row.invariant.room);
    }

pub push_reserved-requires : goal.push_reserved-requires
push_reserved-requires g c =
    let rows : List Row = c.args.rows.now in
    let shown : List ShownRow = c.loop-row.shown.items in
    let low : c.loop-row.row-index < length rows = omega arith in
    let size = c.loop-row.shown.ok.0 in
    let long : length shown ≡ length (map shown_row (take c.loop-row.row-index rows)) = ap (λ (all : List ShownRow). length all) c.loop-row.invariant.rows.are in
    let room = c.loop-row.invariant.room in
    omega (arith, low, size, long, length-map (take c.loop-row.row-index rows) shown_row, length-take c.loop-row.row-index rows, room)

pub returns-clause-shown : goal.returns-clause-shown
returns-clause-shown g c =
    c.new.ensures ∙ c.loop-row.invariant.rows.are ∙ ap (λ (rows : List Row). map shown_row rows) (take_all c.loop-row.row-index c.args.rows.now (omega arith))

pub returns-clause-same : goal.returns-clause-same
returns-clause-same g c = c.loop-row.invariant.rows.read.same

pub returns-clause-counts : goal.returns-clause-counts
returns-clause-counts g c = c.loop-row.invariant.rows.read.counts

pub returns-clause-unfailed : goal.returns-clause-unfailed
returns-clause-unfailed g c = c.loop-row.invariant.rows.read.unfailed

pub returns-in_err-words-clause-failed : goal.returns-in_err-words-clause-failed
returns-in_err-words-clause-failed g c =
    at_any_err c.from_residual.result _
    (read_stops _ (g.R.Regs.state c.loop-row.regs) (g.R.Regs.state c.read_row.new.regs) c.loop-row.invariant.rows.read c.in_err-words.ensures.failed)

pub returns-in_err-words-clause-same : goal.returns-in_err-words-clause-same
returns-in_err-words-clause-same g c = untouched_more _ _ _ c.loop-row.invariant.rows.read.same c.read_row.ensures.same

pub returns-in_err-words-clause-counts : goal.returns-in_err-words-clause-counts
returns-in_err-words-clause-counts g c = le_trans c.loop-row.invariant.rows.read.counts c.read_row.ensures.counts
