use Rattle.std.proofs.Common.{sym, ◌∙◌}
use Rattle.cxl_trace.proofs.HostLists.{first_is_least, none_where_none, one_where_apart}
use Rattle.cxl_trace.proofs.hosts.host_lists.Goals as goal

pub returns-clause-first : goal.returns-clause-first
returns-clause-first c = first_is_least

pub returns-clause-none : goal.returns-clause-none
returns-clause-none c = none_where_none

pub returns-clause-one : goal.returns-clause-one
returns-clause-one c = λ s ep dpa hosts system accepted.
    one_where_apart s ep dpa hosts
    (λ a b one two.
    c.routes_are_of_regions.ensures.apart s a b one.1.routing two.1.routing system accepted one.1.chain two.1.chain (one.1.endpoint ∙ sym two.1.endpoint) (one.1.byte ∙ sym two.1.byte))
