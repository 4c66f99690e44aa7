use Rattle.std.proofs.Common.{ap, arith}
use Rattle.cxl_media.specs.Pool.{free_count}
use Rattle.std.specs.FinMap.{len}
use Rattle.cxl_media.specs.Sim.{Sim, sim_of}
use Rattle.cxl_media.proofs.Sims.{len_blocks}
use Rattle.cxl_media.proofs.SimCalls.{sim_view}
use Rattle.cxl_media.proofs.sim_media.SimMedia.pool.Goals as goal

pub returns-clause-total : goal.returns-clause-total
returns-clause-total c =
    omega (arith, c.self.invariant.sim.counted, ap (λ (s : Sim). free_count s.pool) (sim_view _ _ _ c.self.view_is), ap (λ (s : Sim). len s.frames) (sim_view _ _ _ c.self.view_is), len_blocks (sim_of c.args.self.now.pool c.args.self.now.cells))
