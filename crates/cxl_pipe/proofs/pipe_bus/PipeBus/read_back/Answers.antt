use Rattle.std.proofs.Common.{◌≡◌, true, rules}
use Rattle.cxl_pipe.specs.Commits.{is_read_back, settled}
use Rattle.cxl_pipe.proofs.pipe_bus.PipeBus.read_back.Goals as goal

pub returns-then-settles-clause-yes : goal.returns-then-settles-clause-yes
returns-then-settles-clause-yes g c =
    let asks : is_read_back c.args.self.now c.args.off c.args.value ≡ true = search rules in
    settled asks c.word_behind-left.result c.word_behind-left.ensures c.if-settles.ensures.yes
