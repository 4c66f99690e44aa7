use Rattle.std.proofs.Common.{List, sym, subst}
use Rattle.cxl_machine.specs.Scripts.{Asked, Turn}
use Rattle.cxl_media.specs.Sim.{shipped_state}
use Rattle.cxl_session.specs.Standing.{IsAt}
use Rattle.cxl_shell.specs.Endings.{EndsScript}
use Rattle.cxl_turns.specs.Going.{HasGoneOn}
use Rattle.cxl_held.specs.Trails.{Trailed, trailed_state}
use Rattle.cxl_held.proofs.Keeping.{at_emptied}
use Rattle.cxl_held.proofs.held.Held.act.Goals as goal

pub returns-clause-answered : goal.returns-clause-answered
returns-clause-answered g c = λ m at.
    let held = c.args.self.now in
    let now = c.over_session-status.new in
    subst (λ (bus : Trailed). (asked : List Asked) × (turns : List Turn)
    × HasGoneOn m asked turns now.session (trailed_state bus) (trailed_state now.regs) (shipped_state now.media)
    × EndsScript m.settled.nodes asked turns (g.S.Source.state c.args.lines.now) (g.S.Source.state now.source) (g.K.Sink.state c.args.out.now) (g.K.Sink.state now.out) c.over_session-status.result)
    c.empty_trail.ensures
    (c.over_session-status.ensures.ends m
    (subst (λ (bus : Trailed). IsAt held.session (trailed_state bus) (shipped_state held.media) m) (sym c.empty_trail.ensures)
    (at_emptied held.session held.regs (shipped_state held.media) m at)))
