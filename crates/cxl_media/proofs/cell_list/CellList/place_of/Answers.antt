use Rattle.std.proofs.Common.{◌≡◌, suc, ◌-◌, sym, ap, ◌∙◌, length, arith}
use Rattle.cxl_media.specs.Table.{cell_at}
use Rattle.cxl_media.specs.CellList.{Listed, kept_of, block_named}
use Rattle.cxl_media.proofs.CellLists.{cell_here, length_kept, named_below, filled}
use Rattle.cxl_media.proofs.cell_list.CellList.place_of.Goals as goal

pub returns-then-number-eq0-clause-none : goal.returns-then-number-eq0-clause-none
returns-then-number-eq0-clause-none c =
    ap (λ (l : Listed). cell_at l.cells c.args.at) (sym c.self.view_is)
    ∙ cell_here c.self.inside.numbers (kept_of c.self.inside.kept.items) c.args.at
    ∙ ap (block_named (kept_of c.self.inside.kept.items)) (sym c.get-number.ensures ∙ c.if-number-eq0.true)

pub returns-clause-found : goal.returns-clause-found
returns-clause-found c =
    let place = c.get-number.result - 1 in
    ap (λ (l : Listed). cell_at l.kept place) (sym c.self.view_is)
    ∙ sym (named_below (kept_of c.self.inside.kept.items) c.get-number.result c.if-number-eq0.false)
    ∙ ap (block_named (kept_of c.self.inside.kept.items)) c.get-number.ensures
    ∙ sym (cell_here c.self.inside.numbers (kept_of c.self.inside.kept.items) c.args.at)
    ∙ ap (λ (l : Listed). cell_at l.cells c.args.at) c.self.view_is

pub returns-clause-within : goal.returns-clause-within
returns-clause-within c =
    let above : c.get-number.result ≡ suc (c.get-number.result - 1) = omega (arith, c.if-number-eq0.false) in
    omega (arith, filled _ _ _ c.self.invariant c.args.at (c.get-number.result - 1) (sym c.get-number.ensures ∙ above), length_kept c.self.inside.kept.items, ap (λ (l : Listed). length l.kept) c.self.view_is)
