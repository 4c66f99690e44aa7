use Rattle.std.proofs.Common.{◌≡◌, ℕ, ◌+◌, ◌*◌, List, length, subst, arith}
use Rattle.std.proofs.lemmas.List.{take_all}
use Rattle.std.proofs.lemmas.Result.{err_from_is_err_and}
use Rattle.cxl_topo.specs.declared.node.Node.{Node}
use Rattle.cxl_topo.specs.Faults.{NoneBefore}
use Rattle.cxl_topo.specs.inner.AreTables.{AreTables}
use Rattle.cxl_topo.proofs.Judged.{NoneBefore-less, none_at_first, few_nodes}
use Rattle.cxl_topo.proofs.judge.tables_or_fault.Goals as goal

pub new-requires : goal.new-requires
new-requires c = few_nodes c.args.nodes.now c.requires

pub returns-in_err-tables : goal.returns-in_err-tables
returns-in_err-tables c =
    let p = err_from_is_err_and c.from_residual.result c.from_residual.ensures.1 in
    rw p.1 (record { tables = tt; none = tt; fault = λ other. absurd (other p.2) })

pub overflow_cast-i-end : goal.overflow_cast-i-end
overflow_cast-i-end c = omega (arith, few_nodes c.args.nodes.now c.requires)

pub loop-i-init : goal.loop-i-init
loop-i-init c = record {
  none = none_at_first c.args.nodes.now c.requires;
  listed = c.in_ok-tables.ensures;
}

pub loop-i-preserved : goal.loop-i-preserved
loop-i-preserved c = record {
  none = NoneBefore-less c.args.nodes.now (8 * (c.loop-i.i + 1) + 1) (8 * c.loop-i.i + 9) (omega arith) c.in_ok-judge.ensures.none;
  listed = c.in_ok-judge.ensures.tables;
}

pub judge-requires : goal.judge-requires
judge-requires c = record {
  below = omega arith;
  few = few_nodes c.args.nodes.now c.requires;
  earlier = c.loop-i.invariant.none;
  tables = c.loop-i.invariant.listed;
}

pub returns-in_err-judge : goal.returns-in_err-judge
returns-in_err-judge c =
    let p = err_from_is_err_and c.from_residual-in_err-judge.result c.from_residual-in_err-judge.ensures.1 in
    rw p.1 (record { tables = tt; none = tt; fault = rw p.2 c.in_err-judge.ensures.fault })

pub returns : goal.returns
returns c =
    let nodes = c.args.nodes.now in
    let last : c.loop-i.i ≡ length nodes = omega arith in
    record {
      tables = subst (λ (earlier : List Node). AreTables (length nodes) earlier c.loop-i.tables) (take_all c.loop-i.i nodes (omega (arith, last))) c.loop-i.invariant.listed;
      none = subst (λ (k : ℕ). NoneBefore nodes (8 * k + 1)) last c.loop-i.invariant.none;
      fault = tt;
    }
