use Rattle.std.proofs.Common.{◌<◌, ◌≤◌, ℕ, sym, ◌∙◌, arith}
use Rattle.std.specs.Prelude.{◌==◌}
use Rattle.std.proofs.lemmas.Bool.{eq-eqb, ne_eqb}
use Rattle.cxl_regs.specs.Reading.{decoder_ways, entry_at}
use Rattle.cxl_check.proofs.Searches.{any_here, any_later, any_end}
use Rattle.cxl_cause.proofs.reach.lists_port.Goals as goal

pub returns-then-entry_at-port : goal.returns-then-entry_at-port
returns-then-entry_at-port c =
    let d = c.args.d.now in
    let i = c.loop-i.i in
    let below : i < decoder_ways d = omega (arith, c.interleave_ways-i-end.ensures.value) in
    sym (c.loop-i.invariant ∙ any_here (entry_at d) (λ (port : ℕ). port == c.args.port) i (decoder_ways d) below (eq-eqb (entry_at d i) c.args.port (sym c.entry_at.ensures.port ∙ c.if-entry_at-port.true)))

pub loop-i-preserved : goal.loop-i-preserved
loop-i-preserved c =
    let d = c.args.d.now in
    let i = c.loop-i.i in
    let below : i < decoder_ways d = omega (arith, c.interleave_ways-i-end.ensures.value) in
    c.loop-i.invariant ∙ any_later (entry_at d) (λ (port : ℕ). port == c.args.port) i (decoder_ways d) below (ne_eqb (entry_at d i) c.args.port (λ same. c.if-entry_at-port.false (c.entry_at.ensures.port ∙ same)))

pub returns : goal.returns
returns c =
    let d = c.args.d.now in
    let past : decoder_ways d ≤ c.loop-i.i = omega (arith, c.interleave_ways-i-end.ensures.value) in
    sym (c.loop-i.invariant ∙ any_end (entry_at d) (λ (port : ℕ). port == c.args.port) c.loop-i.i (decoder_ways d) past)
