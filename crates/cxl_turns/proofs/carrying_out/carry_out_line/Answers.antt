use Rattle.std.proofs.Common.{[], sym, ap, subst}
use Rattle.std.proofs.Math.Nat.{le_refl}
use Rattle.cxl_machine.specs.Scripts.{asked_before}
use Rattle.cxl_turns.specs.inner.CarriedOut.{IsAnswered}
use Rattle.cxl_turns.proofs.CarriedOut.{answered_none, left_as_it_was}
use Rattle.cxl_turns.proofs.carrying_out.carry_out_line.Goals as goal

pub returns-in-Ok-None : goal.returns-in-Ok-None
returns-in-Ok-None g c =
    let none = rw c.in-Ok-None.field-0-is at c.in-Ok-None.ensures in
    let regs = g.R.Regs.state c.args.regs.now in
    let media = g.M.Media.state c.args.media.now in
    let sink = g.K.Sink.state c.args.out.now in
    record {
      carried = λ m at.
          subst (λ asked. IsAnswered m asked c.args.session.now regs regs media sink sink) (sym (ap (λ asked. asked_before asked []) none))
          (answered_none m c.args.session.now regs media sink at);
      sink = le_refl sink.faults;
      bus = le_refl regs.faults;
    }

pub carry_out_command-carried-requires : goal.carry_out_command-carried-requires
carry_out_command-carried-requires g c =
    let some = rw c.in-Ok-Some.field-0-is at c.in-Ok-Some.ensures in
    record { stands = c.requires; ranged = c.asked_commands_are_ranged.ensures c.args.line.now c.in-Ok-Some.command some }

pub returns-in-Ok-Some : goal.returns-in-Ok-Some
returns-in-Ok-Some g c =
    let some = rw c.in-Ok-Some.field-0-is at c.in-Ok-Some.ensures in
    record {
      carried = rw some c.carry_out_command-carried.ensures.carried;
      sink = c.carry_out_command-carried.ensures.sink;
      bus = c.carry_out_command-carried.ensures.bus;
    }

pub returns-in-Err-Bad : goal.returns-in-Err-Bad
returns-in-Err-Bad g c =
    let bad = rw c.in-Err-Bad.field-0-is at c.in-Err-Bad.ensures in
    let told = rw c.in-Err-Bad.field-0-is at c.tell_bad_line.ensures.carried in
    let regs = g.R.Regs.state c.args.regs.now in
    record {
      carried = rw bad (λ m at. told m regs (g.M.Media.state c.args.media.now) at);
      sink = c.tell_bad_line.ensures.sink;
      bus = le_refl regs.faults;
    }

pub returns-in-Err-Memory : goal.returns-in-Err-Memory
returns-in-Err-Memory g c =
    let regs = g.R.Regs.state c.args.regs.now in
    let sink = g.K.Sink.state c.args.out.now in
    record {
      carried = λ m at. left_as_it_was m c.args.session.now regs (g.M.Media.state c.args.media.now) sink at;
      sink = le_refl sink.faults;
      bus = le_refl regs.faults;
    }
