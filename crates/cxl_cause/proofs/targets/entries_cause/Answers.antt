use Rattle.std.proofs.Common.{◌≡◌, ◌<◌, ◌≤◌, Some, None, refl, sym, ap, ◌∙◌, arith}
use Rattle.cxl_regs.specs.Reading.{decoder_ways, entry_at}
use Rattle.cxl_model.specs.Hosts.{as_system}
use Rattle.cxl_check.proofs.Searches.{from_here, from_end}
use Rattle.cxl_cause.specs.RangeCauses.{entry_cause, entries_cause}
use Rattle.cxl_cause.proofs.targets.entries_cause.Goals as goal

pub returns-in-Some : goal.returns-in-Some
returns-in-Some c =
    let s = as_system c.args.host.now in
    let r = c.args.range.now in
    let n = c.args.node in
    let d = c.args.d.now in
    let i = c.loop-entry.entry in
    let below : i < decoder_ways d = omega (arith, c.interleave_ways-entry-end.ensures.value) in
    let found : entry_cause s r n i (entry_at d i) ≡ Some c.in-Some.cause = ap (entry_cause s r n i) (sym c.entry_at.ensures.port) ∙ sym c.entry_cause.ensures ∙ c.in-Some.is in
    sym (c.loop-entry.invariant ∙ ap (entries_cause s r n i) (from_here (entry_at d) i (decoder_ways d) below) ∙ rw found refl)

pub loop-entry-preserved : goal.loop-entry-preserved
loop-entry-preserved c =
    let s = as_system c.args.host.now in
    let r = c.args.range.now in
    let n = c.args.node in
    let d = c.args.d.now in
    let i = c.loop-entry.entry in
    let below : i < decoder_ways d = omega (arith, c.interleave_ways-entry-end.ensures.value) in
    let none : entry_cause s r n i (entry_at d i) ≡ None = ap (entry_cause s r n i) (sym c.entry_at.ensures.port) ∙ sym c.entry_cause.ensures ∙ c.in_default.is in
    c.loop-entry.invariant ∙ ap (entries_cause s r n i) (from_here (entry_at d) i (decoder_ways d) below) ∙ rw none refl

pub returns : goal.returns
returns c =
    let s = as_system c.args.host.now in
    let d = c.args.d.now in
    let i = c.loop-entry.entry in
    let past : decoder_ways d ≤ i = omega (arith, c.interleave_ways-entry-end.ensures.value) in
    sym (c.loop-entry.invariant ∙ ap (entries_cause s c.args.range.now c.args.node i) (from_end (entry_at d) i (decoder_ways d) past))
