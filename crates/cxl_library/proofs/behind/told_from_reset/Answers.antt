use Rattle.std.proofs.Common.{◌∙◌, List, None, refl, sym, ap, subst}
use Rattle.cxl_inputs.specs.Ends.{Finishes}
use Rattle.cxl_machine.specs.Machine.{Machine}
use Rattle.cxl_opening.specs.Opening.{endpoints_in, enabling}
use Rattle.cxl_topo.specs.declared.node.Node.{Node}
use Rattle.cxl_library.proofs.Telling.{told_opened, told_unopened}
use Rattle.cxl_library.proofs.behind.told_from_reset.Goals as goal

pub returns-in-Ok : goal.returns-in-Ok
returns-in-Ok g c =
    let is = c.in-Ok.ensures.opened in
    let ends = subst (λ out. Finishes c.comes_to.result c.finish.result (g.K.Sink.state out) (g.K.Sink.state c.finish.new.out)) c.in-Ok.ensures.quiet c.finish.ensures.finishes in
    told_opened c.args.of c.args.files None c.args.script.now c.finish.result (g.K.Sink.state c.args.out.now) (g.K.Sink.state c.finish.new.out)
    is.0 is.1 is.2 is.3 is.4 c.comes_to.result (c.comes_to.ensures is.2 is.5 (is.6 ∙ ap (λ (nodes : List Node). enabling (endpoints_in nodes)) (sym (ap (λ (m : Machine). m.settled.nodes) is.4.machine)))) ends

pub returns-in-Err : goal.returns-in-Err
returns-in-Err g c =
    told_unopened c.args.of c.args.files None c.args.script.now c.in-Err.status (g.K.Sink.state c.args.out.now) (g.K.Sink.state c.open_from_reset.new.out) _ refl c.in-Err.ensures.unopened
