use Rattle.std.proofs.Common.{◌≡◌, refl, arith, append_assoc}
use Rattle.cxl_regs.specs.Reading.{entry_at}
use Rattle.cxl_text.proofs.Lines.{one_port}
use Rattle.cxl_text.proofs.plan.put_ports.Goals as goal

pub loop-entry-preserved : goal.loop-entry-preserved
loop-entry-preserved c =
    let more = one_port (entry_at c.args.decoder.now) c.loop-entry.entry (omega arith) in
    rw (c.in_ok-put_number-2.ensures.ok, c.in_ok-push.ensures.items, c.loop-entry.invariant, more, c.from-in-loop-entry.ensures, c.entry_at-in-loop-entry.ensures.port) (simp append_assoc)

pub returns : goal.returns
returns c =
    let end : c.loop-entry.entry ≡ c.interleave_ways-entry-end.result = omega (arith, c.loop-entry.auto.entry-end, c.interleave_ways-entry-end.ensures.some) in
    rw (c.loop-entry.invariant, end, c.interleave_ways-entry-end.ensures.value) refl
