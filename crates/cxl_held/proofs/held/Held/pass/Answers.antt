use Rattle.std.proofs.Common.{inr, sym, subst}
use Rattle.std.proofs.lemmas.Result.{IfOk-weaker}
use Rattle.cxl_inputs.specs.declared.status.Status.{Status}
use Rattle.cxl_machine.specs.Turns.{machine_after}
use Rattle.cxl_media.specs.Sim.{shipped_state}
use Rattle.cxl_shell.specs.Endings.{EndsScript}
use Rattle.cxl_turns.specs.Going.{HasGoneOn}
use Rattle.cxl_held.proofs.Untrailed.{sim, at_sim, passed_over}
use Rattle.cxl_held.proofs.held.Held.pass.Goals as goal

pub returns-in-Done-clause-answered : goal.returns-in-Done-clause-answered
returns-in-Done-clause-answered g c =
    IfOk-weaker c.held_over.result _ _ (λ held made. λ m at.
    let self = c.args.self in
    let now = c.over_session.new in
    let ended = c.over_session.ensures.ends m (at_sim self.session self.regs c.into_bus-bus.result (shipped_state self.media) c.into_bus-bus.ensures m at) in (
      ended.0,
      ended.1,
      passed_over held now.session now.regs m ended.0 ended.1 c.into_bus-bus.result made.0 made.1
          (subst (λ media. HasGoneOn m ended.0 ended.1 now.session (sim c.into_bus-bus.result) (sim now.regs) (shipped_state media)) (sym made.2) ended.2),
      subst (λ (status : Status). EndsScript m.settled.nodes ended.0 ended.1 (g.S.Source.state c.args.lines.now) (g.S.Source.state now.source) (g.K.Sink.state c.args.out.now) (g.K.Sink.state now.out) status) c.in-Done.is ended.3,
    )) c.held_over.ensures.made

pub returns-in-Done-clause-kept : goal.returns-in-Done-clause-kept
returns-in-Done-clause-kept g c =
    IfOk-weaker c.held_over.result _ _ (λ held made.
    let self = c.args.self in
    let now = c.over_session.new in
    let m = c.requires.kept.0 in
    let ended = c.over_session.ensures.ends m (at_sim self.session self.regs c.into_bus-bus.result (shipped_state self.media) c.into_bus-bus.ensures m c.requires.kept.1) in (
      machine_after m ended.1,
      (passed_over held now.session now.regs m ended.0 ended.1 c.into_bus-bus.result made.0 made.1
          (subst (λ media. HasGoneOn m ended.0 ended.1 now.session (sim c.into_bus-bus.result) (sim now.regs) (shipped_state media)) (sym made.2) ended.2)).at,
    )) c.held_over.ensures.made

pub returns-in_default-clause-stopped : goal.returns-in_default-clause-stopped
returns-in_default-clause-stopped g c = inr (λ m at.
    let self = c.args.self in
    let ended = c.over_session.ensures.ends m (at_sim self.session self.regs c.into_bus-bus.result (shipped_state self.media) c.into_bus-bus.ensures m at) in
    (ended.0, ended.1, ended.3))
