use Rattle.std.proofs.Common.{◌≡◌, ℕ, ◌<◌, ◌≤◌, true, false, refl, sym, ap, ◌∙◌, arith}
use Rattle.std.specs.Prelude.{◌==◌}
use Rattle.std.proofs.lemmas.Bool.{eq-eqb, ne_eqb}
use Rattle.cxl_regs.specs.Reading.{decoder_ways, entry_at}
use Rattle.cxl_check.proofs.Searches.{from_here, from_end}
use Rattle.cxl_cause.specs.RangeCauses.{entry_listing}
use Rattle.cxl_cause.proofs.targets.listed_later.Goals as goal

pub returns-then-entry_at-port : goal.returns-then-entry_at-port
returns-then-entry_at-port c =
    let d = c.args.d.now in
    let j : ℕ = c.loop-other.other in
    let below : j < decoder_ways d = omega (arith, c.interleave_ways-ways.ensures.value) in
    let here : (entry_at d j == entry_at d c.args.entry) ≡ true = eq-eqb (entry_at d j) (entry_at d c.args.entry) (sym c.entry_at.ensures.port ∙ c.if-entry_at-port.true ∙ c.entry_at-port.ensures.port) in
    sym (c.loop-other.invariant ∙ ap (entry_listing (entry_at d c.args.entry) j) (from_here (entry_at d) j (decoder_ways d) below) ∙ rw here refl)

pub loop-other-preserved : goal.loop-other-preserved
loop-other-preserved c =
    let d = c.args.d.now in
    let j : ℕ = c.loop-other.other in
    let below : j < decoder_ways d = omega (arith, c.interleave_ways-ways.ensures.value) in
    let other : (entry_at d j == entry_at d c.args.entry) ≡ false = ne_eqb (entry_at d j) (entry_at d c.args.entry) (λ same. c.if-entry_at-port.false (c.entry_at.ensures.port ∙ same ∙ sym c.entry_at-port.ensures.port)) in
    c.loop-other.invariant ∙ ap (entry_listing (entry_at d c.args.entry) j) (from_here (entry_at d) j (decoder_ways d) below) ∙ rw other refl

pub returns : goal.returns
returns c =
    let d = c.args.d.now in
    let j : ℕ = c.loop-other.other in
    let past : decoder_ways d ≤ j = omega (arith, c.interleave_ways-ways.ensures.value) in
    sym (c.loop-other.invariant ∙ ap (entry_listing (entry_at d c.args.entry) j) (from_end (entry_at d) j (decoder_ways d) past))
