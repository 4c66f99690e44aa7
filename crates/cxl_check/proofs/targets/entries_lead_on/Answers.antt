use Rattle.std.proofs.Common.{◌≡◌, ◌<◌, ◌≤◌, true, false, sym, ap, ◌∙◌, arith}
use Rattle.cxl_regs.specs.Reading.{decoder_ways, entry_at}
use Rattle.cxl_model.specs.Hosts.{as_system}
use Rattle.cxl_model.specs.Rules.{leads_on}
use Rattle.cxl_check.proofs.Searches.{all_fails, all_later, all_end}
use Rattle.cxl_check.proofs.targets.entries_lead_on.Goals as goal

pub returns-then-not-leads_on : goal.returns-then-not-leads_on
returns-then-not-leads_on c =
    let d = c.args.d.now in
    let i = c.loop-i.i in
    let leads = leads_on (as_system c.args.host.now) c.args.range.now c.args.node in
    let below : i < decoder_ways d = omega (arith, c.interleave_ways-i-end.ensures.value) in
    let fails : leads (entry_at d i) ≡ false = ap leads (sym c.entry_at.ensures.port) ∙ sym c.leads_on.ensures ∙ c.if-not-leads_on.true in
    sym (c.loop-i.invariant ∙ all_fails (entry_at d) leads i (decoder_ways d) below fails)

pub loop-i-preserved : goal.loop-i-preserved
loop-i-preserved c =
    let d = c.args.d.now in
    let i = c.loop-i.i in
    let leads = leads_on (as_system c.args.host.now) c.args.range.now c.args.node in
    let below : i < decoder_ways d = omega (arith, c.interleave_ways-i-end.ensures.value) in
    let passes : leads (entry_at d i) ≡ true = ap leads (sym c.entry_at.ensures.port) ∙ sym c.leads_on.ensures ∙ c.if-not-leads_on.false in
    c.loop-i.invariant ∙ all_later (entry_at d) leads i (decoder_ways d) below passes

pub returns : goal.returns
returns c =
    let d = c.args.d.now in
    let leads = leads_on (as_system c.args.host.now) c.args.range.now c.args.node in
    let past : decoder_ways d ≤ c.loop-i.i = omega (arith, c.interleave_ways-i-end.ensures.value) in
    sym (c.loop-i.invariant ∙ all_end (entry_at d) leads c.loop-i.i (decoder_ways d) past)
