use Rattle.cxl_pipe.proofs.Accesses.{stranger}
use Rattle.cxl_pipe.proofs.pipe_bus.PipeBusRegs.power_on.Goals as goal

pub returns-then-not-tells_all-clause-ok : goal.returns-then-not-tells_all-clause-ok
returns-then-not-tells_all-clause-ok g c =
    stranger c.args.start.now c.args.self.now c.begin.new.self c.tells_all.new.self c.end.new.self c.in_ok-begin.ensures.ok c.if-not-tells_all.ensures.no c.end.ensures
