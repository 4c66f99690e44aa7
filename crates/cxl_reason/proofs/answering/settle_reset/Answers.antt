use Rattle.std.proofs.Common.{List, sym, subst}
use Rattle.cxl_regs.specs.Registers.{Registers}
use Rattle.cxl_model.specs.System.{IsSystem, system_of}
use Rattle.cxl_model.specs.Accepted.{IsAccepted}
use Rattle.cxl_reason.proofs.answering.settle_reset.Goals as goal

pub returns-clause-ready : goal.returns-clause-ready
returns-clause-ready c =
    let topo = c.args.topo.now in
    let windows = c.args.windows.now in
    let system : IsSystem (system_of c.args.reset.now topo windows) = record { tree = c.count-count.ensures.tree; blocks = c.count-blocks.ensures.image.each; caps = c.requires.caps; made = c.requires.made } in
    let fresh = c.reset_hosts_are_accepted.ensures topo windows (subst (λ (blocks : List Registers). IsSystem (system_of blocks topo windows)) c.requires.reset system) in
    let accepted : IsAccepted (system_of c.args.reset.now topo windows) = subst (λ (blocks : List Registers). IsAccepted (system_of blocks topo windows)) (sym c.requires.reset) fresh in
    record { system = system; blocks = λ rule n i low. accepted.each rule n i }
