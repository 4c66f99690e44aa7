use Rattle.std.proofs.Common.{◌*◌, ap, arith}
use Rattle.cxl_media.specs.CellList.{kept_of}
use Rattle.cxl_media.proofs.CellLists.{new_cells, placed_none}
use Rattle.cxl_media.proofs.cell_list.CellList.new.Goals as goal

pub invariant_of-result : goal.invariant_of-result
invariant_of-result c =
    placed_none _ _ (3 * c.args.room) _ c.in_ok-numbers.ensures c.in_ok-kept.ensures.items (omega (arith, c.in_ok-kept.ensures.capacity)) (omega (arith, c.requires))

pub returns-clause-cells : goal.returns-clause-cells
returns-clause-cells c = new_cells _ _ (3 * c.args.room) c.in_ok-numbers.ensures

pub returns-clause-kept : goal.returns-clause-kept
returns-clause-kept c = ap kept_of c.in_ok-kept.ensures.items
