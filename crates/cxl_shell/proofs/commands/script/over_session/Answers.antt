use Rattle.std.proofs.Common.{refl, subst}
use Rattle.cxl_inputs.specs.Ends.{Ends}
use Rattle.cxl_turns.specs.declared.endings.Ending.TheVariants as endings
use Rattle.cxl_shell.proofs.Scripts.{script-done, script-cut, script-out, script-stopped}
use Rattle.cxl_shell.proofs.commands.script.over_session.Goals as goal

pub returns-in-Done-clause-ends : goal.returns-in-Done-clause-ends
returns-in-Done-clause-ends g c = λ m at.
    let ends = c.in-Done.ensures.ends m at in
    (ends.0, ends.1, ends.2, script-done m.settled.nodes ends.0 ends.1 _ _ _ _ ends.3)

pub returns-in-ReadFault-clause-ends : goal.returns-in-ReadFault-clause-ends
returns-in-ReadFault-clause-ends g c = λ m at.
    let ends = c.in-ReadFault.ensures.ends m at in (
      ends.0,
      ends.1,
      ends.2,
      script-stopped m.settled.nodes ends.0 ends.1 _ _ endings.ReadFault c.finish.result (λ is. absurd (cc)) _ _ _ c.in-ReadFault.ensures.sink refl ends.3
          (subst (λ o. Ends o c.finish.result (g.K.Sink.state c.carry_out_lines.new.out) (g.K.Sink.state c.finish.new.out)) c.read_fault.ensures c.finish.ensures.finishes),
    )

pub returns-in-TooMuch-clause-ends : goal.returns-in-TooMuch-clause-ends
returns-in-TooMuch-clause-ends g c = λ m at.
    let ends = c.in-TooMuch.ensures.ends m at in (
      ends.0,
      ends.1,
      ends.2,
      script-stopped m.settled.nodes ends.0 ends.1 _ _ endings.TooMuch c.finish-in-TooMuch.result (λ is. absurd (cc)) _ _ _ c.in-TooMuch.ensures.sink refl ends.3
          (subst (λ o. Ends o c.finish-in-TooMuch.result (g.K.Sink.state c.carry_out_lines.new.out) (g.K.Sink.state c.finish-in-TooMuch.new.out)) c.too_much.ensures c.finish-in-TooMuch.ensures.finishes),
    )

pub returns-in-WriteFault-clause-ends : goal.returns-in-WriteFault-clause-ends
returns-in-WriteFault-clause-ends g c = λ m at.
    let ends = c.in-WriteFault.ensures.ends m at in
    (ends.0, ends.1, ends.2, script-cut m.settled.nodes ends.0 ends.1 _ _ _ _ ends.3)

pub returns-in-Memory-clause-ends : goal.returns-in-Memory-clause-ends
returns-in-Memory-clause-ends g c = λ m at.
    let ends = c.in-Memory.ensures.ends m at in
    (ends.0, ends.1, ends.2, script-out m.settled.nodes ends.0 ends.1 _ _ _ _ ends.3)
