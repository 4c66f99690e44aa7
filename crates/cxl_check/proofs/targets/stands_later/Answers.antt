use Rattle.std.proofs.Common.{◌<◌, ◌≤◌, ℕ, sym, ◌∙◌, arith}
use Rattle.std.specs.Prelude.{◌==◌}
use Rattle.std.proofs.lemmas.Bool.{eq-eqb, ne_eqb}
use Rattle.cxl_regs.specs.Reading.{decoder_ways, entry_at}
use Rattle.cxl_check.proofs.Searches.{any_here, any_later, any_end}
use Rattle.cxl_check.proofs.targets.stands_later.Goals as goal

pub returns-then-entry_at-port : goal.returns-then-entry_at-port
returns-then-entry_at-port c =
    let d = c.args.d.now in
    let j = c.loop-j.j in
    let below : j < decoder_ways d = omega (arith, c.interleave_ways-ways.ensures.value) in
    sym (c.loop-j.invariant ∙ any_here (entry_at d) (λ (port : ℕ). port == entry_at d c.args.i) j (decoder_ways d) below
    (eq-eqb (entry_at d j) (entry_at d c.args.i) (sym c.entry_at.ensures.port ∙ c.if-entry_at-port.true ∙ c.entry_at-port.ensures.port)))

pub loop-j-preserved : goal.loop-j-preserved
loop-j-preserved c =
    let d = c.args.d.now in
    let j = c.loop-j.j in
    let below : j < decoder_ways d = omega (arith, c.interleave_ways-ways.ensures.value) in
    c.loop-j.invariant ∙ any_later (entry_at d) (λ (port : ℕ). port == entry_at d c.args.i) j (decoder_ways d) below
    (ne_eqb (entry_at d j) (entry_at d c.args.i) (λ same. c.if-entry_at-port.false (c.entry_at.ensures.port ∙ same ∙ sym c.entry_at-port.ensures.port)))

pub returns : goal.returns
returns c =
    let d = c.args.d.now in
    let past : decoder_ways d ≤ c.loop-j.j = omega (arith, c.interleave_ways-ways.ensures.value) in
    sym (c.loop-j.invariant ∙ any_end (entry_at d) (λ (port : ℕ). port == entry_at d c.args.i) c.loop-j.j (decoder_ways d) past)
