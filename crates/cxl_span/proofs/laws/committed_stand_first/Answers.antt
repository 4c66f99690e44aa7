use Rattle.cxl_span.proofs.Committed.{committed_before, committed_is_counted, counted_is_committed}
use Rattle.cxl_span.proofs.laws.committed_stand_first.Goals as goal

pub returns-clause-before : goal.returns-clause-before
returns-clause-before c = λ block ram pmem i j d e keeps at_d at_e below committed. committed_before block ram pmem keeps j e at_e committed i d at_d below

pub returns-clause-counted : goal.returns-clause-counted
returns-clause-counted c = λ block ram pmem i d keeps here.
    ((λ committed. committed_is_counted block ram pmem keeps i d here committed), (λ below. counted_is_committed block.decoders i d here below))
