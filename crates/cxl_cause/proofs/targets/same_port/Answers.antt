use Rattle.std.proofs.Common.{◌≡◌, ℕ, ◌+◌, ◌-◌, ◌<◌, ◌≤◌, Some, None, map, refl, sym, ap, ◌∙◌, arith}
use Rattle.std.specs.List.{range_with_len}
use Rattle.cxl_regs.specs.Reading.{decoder_ways, entry_at}
use Rattle.cxl_check.proofs.Searches.{from_here, from_end}
use Rattle.cxl_cause.specs.RangeCauses.{entry_listing, same_port}
use Rattle.cxl_cause.proofs.targets.same_port.Goals as goal

pub returns-in-Some : goal.returns-in-Some
returns-in-Some c =
    let d = c.args.d.now in
    let i : ℕ = c.loop-entry.entry in
    let below : i < decoder_ways d = omega (arith, c.interleave_ways-entry-end.ensures.value) in
    let later : entry_listing (entry_at d i) (i + 1) (map (entry_at d) (range_with_len (i + 1) (decoder_ways d - (i + 1)))) ≡ Some c.in-Some.other = sym c.listed_later.ensures ∙ c.in-Some.is in
    sym (c.loop-entry.invariant ∙ ap (same_port i) (from_here (entry_at d) i (decoder_ways d) below) ∙ rw later refl)

pub loop-entry-preserved : goal.loop-entry-preserved
loop-entry-preserved c =
    let d = c.args.d.now in
    let i : ℕ = c.loop-entry.entry in
    let below : i < decoder_ways d = omega (arith, c.interleave_ways-entry-end.ensures.value) in
    let none : entry_listing (entry_at d i) (i + 1) (map (entry_at d) (range_with_len (i + 1) (decoder_ways d - (i + 1)))) ≡ None = sym c.listed_later.ensures ∙ c.in_default.is in
    c.loop-entry.invariant ∙ ap (same_port i) (from_here (entry_at d) i (decoder_ways d) below) ∙ rw none refl

pub returns : goal.returns
returns c =
    let d = c.args.d.now in
    let i : ℕ = c.loop-entry.entry in
    let past : decoder_ways d ≤ i = omega (arith, c.interleave_ways-entry-end.ensures.value) in
    sym (c.loop-entry.invariant ∙ ap (same_port i) (from_end (entry_at d) i (decoder_ways d) past))
