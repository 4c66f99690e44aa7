use Rattle.std.proofs.Common.{ap, arith}
use Rattle.cxl_media.proofs.Steps.{free_and_out}
use Rattle.cxl_media.proofs.Untaken.{free_of, given_few}
use Rattle.cxl_media.specs.Pool.{free_count}
use Rattle.cxl_media.proofs.pool.Pool.free.Goals as goal

pub returns-clause-free : goal.returns-clause-free
returns-clause-free c =
    omega (arith, free_of _ _ _ _ _ c.self.invariant, ap free_count c.self.view_is, c.len.ensures, c.self.inside.frames.ok.0)

pub returns-clause-rest : goal.returns-clause-rest
returns-clause-rest c =
    omega (arith, free_and_out c.args.self.now, free_of _ _ _ _ _ c.self.invariant, ap free_count c.self.view_is, c.len.ensures, c.self.inside.frames.ok.0)

pub overflow_add-result : goal.overflow_add-result
overflow_add-result c =
    omega (arith, given_few _ _ _ _ _ c.self.invariant, c.self.invariant.some, c.self.invariant.few, c.len.ensures, c.self.inside.frames.ok.0)
