use Rattle.cxl_model.specs.Hosts.{as_system}
use Rattle.cxl_check.proofs.RuleTests.{idle_here, all_rules}
use Rattle.cxl_check.proofs.ranges.least_broken.Goals as goal

pub returns-then-not-d-clause-least : goal.returns-then-not-d-clause-least
returns-then-not-d-clause-least c =
    all_rules (as_system c.args.host.now) c.requires.ready c.args.node c.args.i
    (λ rule from to. idle_here (as_system c.args.host.now) rule from to c.args.node c.args.i c.args.d.now c.requires.there c.if-not-d.true)
