use Rattle.std.proofs.Common.{List, sym, subst}
use Rattle.cxl_poison.specs.declared.live.LiveSpan.{LiveSpan}
use Rattle.cxl_poison.specs.inner.Spans.{AreTouchedSpans}
use Rattle.cxl_poison.proofs.touching.pieces_at.Goals as goal

pub spans_at-requires-clause-live : goal.spans_at-requires-clause-live
spans_at-requires-clause-live c = (c.args.windows.now, c.requires.live)

pub pieces_in-requires-clause-spans : goal.pieces_in-requires-clause-spans
pieces_in-requires-clause-spans c =
    let spans = c.in_ok-spans.ensures in
    subst (λ (xs : List LiveSpan). AreTouchedSpans c.args.entry.now c.args.endpoint c.args.live.now xs) (sym c.deref.ensures.value)
    (record { some = spans.some; all = λ span is touches. spans.all span is (c.requires.places.all span is touches) })
