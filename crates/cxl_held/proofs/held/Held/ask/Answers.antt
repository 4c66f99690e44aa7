use Rattle.std.proofs.Common.{Ok, sym, subst}
use Rattle.cxl_media.specs.Sim.{shipped_state}
use Rattle.cxl_session.specs.Standing.{IsAt}
use Rattle.cxl_held.specs.Trails.{Trailed, trailed_state}
use Rattle.cxl_held.proofs.StandsBehind.{stands_behind}
use Rattle.cxl_held.proofs.Keeping.{at_emptied}
use Rattle.cxl_held.proofs.held.Held.ask.Goals as goal

pub returns-clause-kept : goal.returns-clause-kept
returns-clause-kept c =
    let held = c.args.self.now in let m = c.requires.kept.0 in
    stands_behind _ _ _ _ _ _ (Ok c.args.command.now) m
    (subst (λ (bus : Trailed). IsAt held.session (trailed_state bus) (shipped_state held.media) m) (sym c.empty_trail.ensures)
    (at_emptied held.session held.regs (shipped_state held.media) m c.requires.kept.1))
    c.act.result c.act.ensures.answer c.act.ensures.memory
