use Rattle.std.proofs.Common.{◌≡◌, ℕ, suc, ◌*◌, ◌<◌, List, [], ◌∷◌, ◌++◌, None, Some, length, set, sym, ap, ◌∙◌, subst, refl, arith}
use Rattle.cxl_media.specs.declared.cell.Cell.{Cell}
use Rattle.cxl_media.specs.declared.cell_list.KeptBlock.{KeptBlock}
use Rattle.cxl_media.specs.Table.{cell_at}
use Rattle.cxl_media.specs.CellList.{Listed, kept_of, cells_of, ArePlaced}
use Rattle.cxl_media.proofs.CellLists.{length_of, length_kept, put_cells, put_placed}
use Rattle.cxl_media.proofs.cell_list.CellList.put.Goals as goal

-- in the words of the code: l is what contracts see
module _ (numbers : List ℕ) (places : List KeptBlock) (room : ℕ) (l : Listed) (view : ◌≡◌ {A = Listed} (record { cells = cells_of numbers (kept_of places); kept = kept_of places }) l) (are : ArePlaced numbers places room) (at : ℕ) (cell : Cell) (within : at < length l.cells) (empty : cell_at l.cells at ≡ None) (more : 3 * length l.kept < length l.cells) (number : ℕ) (its : number ≡ suc (length places)) where
  abbrev new_place : KeptBlock
  new_place = record { cell = cell; at = at }

  inside : at < length numbers
  inside = omega (arith, within, ap (λ (m : Listed). length m.cells) view, length_of numbers (kept_of places))

  none : cell_at (cells_of numbers (kept_of places)) at ≡ None
  none = ap (λ (m : Listed). cell_at m.cells at) view ∙ empty

  room_left : 3 * length places < length numbers
  room_left = omega (arith, more, ap (λ (m : Listed). length m.cells) view, ap (λ (m : Listed). length m.kept) view, length_of numbers (kept_of places), length_kept places)

  pub placed : ArePlaced (set numbers at number) (places ++ (record { cell = cell; at = at }) ∷ []) room
  placed =
      subst (λ (n : ℕ). ArePlaced (set numbers at n) (places ++ new_place ∷ []) room) (sym its)
      (put_placed numbers places room are at new_place inside none refl room_left)

  pub cells : cells_of (set numbers at number) (kept_of (places ++ (record { cell = cell; at = at }) ∷ [])) ≡ set l.cells at (Some cell)
  cells =
      ap (λ n. cells_of (set numbers at n) (kept_of (places ++ new_place ∷ []))) its
      ∙ put_cells numbers places room are at new_place inside none refl room_left
      ∙ ap (λ (m : Listed). set m.cells at (Some cell)) view

pub push_reserved-requires : goal.push_reserved-requires
push_reserved-requires c =
    omega (arith, c.self.inside.kept.ok.0, c.self.invariant.fits, ap (λ (m : Listed). length m.cells) c.self.view_is, ap (λ (m : Listed). length m.kept) c.self.view_is, length_of c.self.inside.numbers (kept_of c.self.inside.kept.items), length_kept c.self.inside.kept.items, c.requires.room)

pub set-requires : goal.set-requires
set-requires c =
    omega (arith, c.requires.within, ap (λ (m : Listed). length m.cells) c.self.view_is, length_of c.self.inside.numbers (kept_of c.self.inside.kept.items))

pub invariant_of-self : goal.invariant_of-self
invariant_of-self c =
    let its : c.len-number.result ≡ suc (length c.self.inside.kept.items) = omega (arith, c.len-number.ensures, c.push_reserved.ensures.len, c.self.inside.kept.ok.0) in
    rw (c.set.ensures, c.push_reserved.ensures.items, c.push_reserved.ensures.capacity)
    (placed _ _ _ _ c.self.view_is c.self.invariant c.args.at c.args.cell c.requires.within c.requires.empty c.requires.room c.len-number.result its)

pub returns-clause-cells : goal.returns-clause-cells
returns-clause-cells c =
    let its : c.len-number.result ≡ suc (length c.self.inside.kept.items) = omega (arith, c.len-number.ensures, c.push_reserved.ensures.len, c.self.inside.kept.ok.0) in
    ap (λ ns. cells_of ns (kept_of c.push_reserved.new.self.items)) c.set.ensures
    ∙ ap (λ ps. cells_of (set c.self.inside.numbers c.args.at c.len-number.result) (kept_of ps)) c.push_reserved.ensures.items
    ∙ cells _ _ _ _ c.self.view_is c.self.invariant c.args.at c.args.cell c.requires.within c.requires.empty c.requires.room c.len-number.result its
