use Rattle.std.proofs.Common.{◌<◌, ◌≤◌, refl, sym, ap, ◌∙◌, arith}
use Rattle.cxl_regs.specs.Reading.{decoder_ways, entry_at}
use Rattle.cxl_model.specs.Rules.{are_distinct}
use Rattle.cxl_check.proofs.Searches.{from_here, from_end}
use Rattle.cxl_check.proofs.targets.are_distinct.Goals as goal

pub returns-then-stands_later : goal.returns-then-stands_later
returns-then-stands_later c =
    let d = c.args.d.now in
    let i = c.loop-i.i in
    let below : i < decoder_ways d = omega (arith, c.interleave_ways-i-end.ensures.value) in
    let again = sym c.stands_later.ensures ∙ c.if-stands_later.true in
    sym (c.loop-i.invariant ∙ ap are_distinct (from_here (entry_at d) i (decoder_ways d) below) ∙ rw again refl)

pub loop-i-preserved : goal.loop-i-preserved
loop-i-preserved c =
    let d = c.args.d.now in
    let i = c.loop-i.i in
    let below : i < decoder_ways d = omega (arith, c.interleave_ways-i-end.ensures.value) in
    let once = sym c.stands_later.ensures ∙ c.if-stands_later.false in
    c.loop-i.invariant ∙ ap are_distinct (from_here (entry_at d) i (decoder_ways d) below) ∙ rw once refl

pub returns : goal.returns
returns c =
    let d = c.args.d.now in
    let past : decoder_ways d ≤ c.loop-i.i = omega (arith, c.interleave_ways-i-end.ensures.value) in
    sym (c.loop-i.invariant ∙ ap are_distinct (from_end (entry_at d) c.loop-i.i (decoder_ways d) past))
