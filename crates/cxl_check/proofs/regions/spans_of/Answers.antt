use Rattle.std.proofs.Common.{◌≡◌, ◌+◌, List, sym, subst, arith}
use Rattle.cxl_model.specs.declared.found.Place.{Place}
use Rattle.cxl_model.specs.Hosts.{as_system}
use Rattle.cxl_check.specs.inner.Listing.{AreSpans}
use Rattle.cxl_check.proofs.Wholes.{no_spans, one_more_span}
use Rattle.cxl_check.proofs.regions.spans_of.Goals as goal

pub place_of_slot-requires-clause-some : goal.place_of_slot-requires-clause-some
place_of_slot-requires-clause-some c = c.requires.some c.loop-slot.slot (omega arith)

pub loop-slot-preserved : goal.loop-slot-preserved
loop-slot-preserved c =
    let s = as_system c.args.host.now in
    subst (λ (spans : List Place). AreSpans s c.args.w.now c.args.range.now (c.loop-slot.slot + 1) spans) (sym c.in_ok-push.ensures.items)
    (one_more_span s c.args.w.now c.args.range.now c.loop-slot.slot c.loop-slot.spans.items c.place_of_slot.result c.loop-slot.invariant c.place_of_slot.ensures)

pub returns : goal.returns
returns c =
    let all : c.loop-slot.slot ≡ c.args.ways = omega arith in
    rw all at c.loop-slot.invariant

pub loop-slot-init : goal.loop-slot-init
loop-slot-init c =
    let s = as_system c.args.host.now in
    subst (λ (spans : List Place). AreSpans s c.args.w.now c.args.range.now 0 spans) (sym c.in_ok-spans.ensures.items) (no_spans s c.args.w.now c.args.range.now)
