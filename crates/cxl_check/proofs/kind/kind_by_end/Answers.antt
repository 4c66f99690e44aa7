use Rattle.std.proofs.Common.{sym, ◌∙◌, arith}
use Rattle.cxl_model.specs.Hosts.{as_system}
use Rattle.cxl_check.proofs.Kept.{ram_span, pmem_span, ram_only}
use Rattle.cxl_check.proofs.kind.kind_by_end.Goals as goal

pub returns-then-capacity-eq0 : goal.returns-then-capacity-eq0
returns-then-capacity-eq0 c =
    ram_only (as_system c.args.host.now) c.requires.ready c.spans_lie_in_partitions.ensures.ends c.args.node c.args.i c.args.end c.args.d.now
    c.requires.endpoint c.requires.committed.there c.requires.committed.committed c.requires.end (sym c.requires.pmem ∙ c.if-capacity-eq0.true)

pub returns-then-end-capacity : goal.returns-then-end-capacity
returns-then-end-capacity c =
    ram_span (as_system c.args.host.now) c.args.node c.args.i c.args.end c.args.d.now c.requires.committed.there c.requires.end
    (omega (arith, c.requires.ram, c.if-end-capacity.true))

pub returns-else-end-capacity : goal.returns-else-end-capacity
returns-else-end-capacity c =
    pmem_span (as_system c.args.host.now) c.args.node c.args.i c.args.end c.args.d.now c.requires.committed.there c.requires.end
    (omega (arith, c.requires.ram, c.if-end-capacity.false))
