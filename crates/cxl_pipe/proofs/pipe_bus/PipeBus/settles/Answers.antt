use Rattle.std.proofs.Common.{◌≡◌, false, arith, rules}
use Rattle.cxl_pipe.specs.Protocol.{read_back_limit}
use Rattle.cxl_pipe.proofs.Commits.{unsettled, all_pending}
use Rattle.cxl_pipe.proofs.pipe_bus.PipeBus.settles.Goals as goal

pub returns-then-not-is_pending-clause-no : goal.returns-then-not-is_pending-clause-no
returns-then-not-is_pending-clause-no g c =
    let lacks : c.is_pending.result ≡ false = search rules in
    unsettled c.args.node c.args.off c.args.word c.loop-count._count c.args.self.now c.loop-count.self c.tells.new.self c.loop-count.invariant.0 c.if-tells.ensures.no c.is_pending.result c.is_pending.ensures lacks (omega (arith, c.loop-count-test.true))

pub returns-clause-no : goal.returns-clause-no
returns-clause-no g c =
    let all : c.loop-count._count ≡ read_back_limit = omega (arith, c.loop-count.invariant.2, c.loop-count-test.false) in
    all_pending c.args.node c.args.off c.args.word c.loop-count._count c.args.self.now c.loop-count.self c.loop-count.invariant.0 all
