use Rattle.std.proofs.Common.{rules}
use Rattle.std.proofs.lemmas.Result.{err_from_is_err_and}
use Rattle.cxl_topo.proofs.Fitting.{memory_alone}
use Rattle.cxl_topo.proofs.Legal.{is_tree, none_fits}
use Rattle.cxl_topo.proofs.topo.Topo.new.Goals as goal

pub returns-then-are_too_many-clause-only : goal.returns-then-are_too_many-clause-only
returns-then-are_too_many-clause-only c = search rules

pub returns-then-are_too_many-clause-fault : goal.returns-then-are_too_many-clause-fault
returns-then-are_too_many-clause-fault c = search rules

pub returns-in_err-tables-clause-only : goal.returns-in_err-tables-clause-only
returns-in_err-tables-clause-only c =
    let p = err_from_is_err_and c.from_residual.result c.from_residual.ensures.1 in
    rw (p.1, p.2) (λ tree. memory_alone c.args.nodes.items tree c.in_err-tables.field-0.0 (rw c.deref-2.ensures.value at c.in_err-tables.ensures.fault))

pub invariant_of-result : goal.invariant_of-result
invariant_of-result c = record {
  tree = is_tree c.args.nodes.items (none_fits c.args.nodes.items (rw c.deref-2.ensures.value at c.in_ok-tables.ensures.none));
  few = c.requires;
  listed = rw c.deref-2.ensures.value at c.in_ok-tables.ensures.tables;
}

pub returns-clause-legal : goal.returns-clause-legal
returns-clause-legal c = is_tree c.args.nodes.items (none_fits c.args.nodes.items (rw c.deref-2.ensures.value at c.in_ok-tables.ensures.none))
