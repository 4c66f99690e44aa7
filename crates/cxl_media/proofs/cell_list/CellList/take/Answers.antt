use Rattle.std.proofs.Common.{◌≡◌, ◌≢◌, ℕ, ◌+◌, ◌-◌, ◌<◌, ◌≤◌, List, None, Some, length, get_or, set, sym, ap, ◌∙◌, subst, add-one, arith}
use Rattle.std.specs.Prelude.{swap_remove}
use Rattle.std.proofs.lemmas.List.{get_or_default, length-set}
use Rattle.cxl_media.specs.declared.cell_list.KeptBlock.{KeptBlock}
use Rattle.cxl_media.specs.Table.{cell_at}
use Rattle.cxl_media.specs.CellList.{Listed, kept_of, cells_of, place_at, ArePlaced}
use Rattle.cxl_media.proofs.CellLists.{length_kept, place_read, number_within, swapped_kept, Renamed, moved_number, out_cell, out_within, renamed_so, taken_cells, taken_placed}
use Rattle.cxl_media.proofs.cell_list.CellList.take.Goals as goal

-- what is left at each place
abbrev LeftBy : List KeptBlock → List KeptBlock → ℕ → ℕ → Type 0
LeftBy left places place count =
    ((d : KeptBlock) → place + 1 < count → get_or left place d ≡ get_or places (count - 1) d) × ((k : ℕ) (d : KeptBlock) → k ≢ place → k + 1 < count → get_or left k d ≡ get_or places k d)

-- in the words of the code: l is what contracts see
module _ (numbers : List ℕ) (places : List KeptBlock) (room : ℕ) (l : Listed) (view : ◌≡◌ {A = Listed} (record { cells = cells_of numbers (kept_of places); kept = kept_of places }) l) (are : ArePlaced numbers places room) (place : ℕ) (within : place < length l.kept) (out : KeptBlock) (read : out ≡ get_or places place out) (left : List KeptBlock) (fewer : length left + 1 ≡ length places) (by_index : LeftBy left places place (length places)) where
  inside : place < length places
  inside = omega (arith, within, ap (λ (m : Listed). length m.kept) view, length_kept places)

  there : place_at places place ≡ Some out
  there = place_read places place out inside ∙ ap (λ (p : KeptBlock). Some p) (sym read)

  pub cell_within : out.at < length numbers
  cell_within = out_within numbers places room are place out there left fewer by_index.0 by_index.1

  pub cell_was : cell_at l.cells out.at ≡ Some out.cell
  cell_was = ap (λ (m : Listed). cell_at m.cells out.at) (sym view) ∙ out_cell numbers places room are place out there left fewer by_index.0 by_index.1

  pub moved_within : (d : KeptBlock) → place < length left → (get_or left place d).at < length (set numbers out.at 0)
  moved_within d low =
      let number = moved_number numbers places room are place out there left fewer by_index.0 by_index.1 low in
      let named = number_within numbers (get_or left place out).at (length places - 1) number in
      subst (λ (p : KeptBlock). p.at < length (set numbers out.at 0)) (get_or_default left place out d low) (omega (arith, named, length-set numbers out.at 0))

  module _ (new : List ℕ) (one : (d : KeptBlock) → place < length left → new ≡ set (set numbers out.at 0) (get_or left place d).at (place + 1)) (none : length left ≤ place → new ≡ set numbers out.at 0) where
    so : Renamed numbers out.at place (length places - 1) new
    so =
        renamed_so numbers places room are place out there left fewer by_index.0 by_index.1 new
        (λ low. one out low ∙ ap (set (set numbers out.at 0) (get_or left place out).at) (add-one place)) none

    pub placed : ArePlaced new left room
    placed = taken_placed numbers places room are place out there left fewer by_index.0 by_index.1 new so

    pub cells : cells_of new (kept_of left) ≡ set l.cells out.at None
    cells = taken_cells numbers places room are place out there left fewer by_index.0 by_index.1 new so ∙ ap (λ (m : Listed). set m.cells out.at None) view

-- what the call of `swap_remove` says, of its lengths
is_fewer : (left places : List KeptBlock) (after before : ℕ) → after + 1 ≡ before → after ≡ length left → before ≡ length places → length left + 1 ≡ length places
is_fewer left places after before less one other = omega (arith, less, one, other)

is_left : (left places : List KeptBlock) (place count : ℕ) → count ≡ length places → LeftBy left places place count → LeftBy left places place (length places)
is_left left places place count all by_index = subst (λ (n : ℕ). LeftBy left places place n) all by_index

pub set-requires : goal.set-requires
set-requires c =
    cell_within _ _ _ _ c.self.view_is c.self.invariant c.args.place c.requires c.swap_remove-cell.result c.swap_remove-cell.ensures.value c.swap_remove-cell.new.self.items (is_fewer _ _ _ _ c.swap_remove-cell.ensures.len c.swap_remove-cell.new.self.ok.0 c.self.inside.kept.ok.0) (is_left _ _ _ _ c.self.inside.kept.ok.0 c.swap_remove-cell.ensures.by_index)

pub name_place-requires-clause-within : goal.name_place-requires-clause-within
name_place-requires-clause-within c =
    subst (λ (xs : List KeptBlock). (d : KeptBlock) → c.args.place < length xs → (get_or xs c.args.place d).at < length c.set.new.self) (sym c.deref.ensures.value)
    (subst (λ (ns : List ℕ). (d : KeptBlock) → c.args.place < length c.swap_remove-cell.new.self.items → (get_or c.swap_remove-cell.new.self.items c.args.place d).at < length ns) (sym c.set.ensures)
    (moved_within _ _ _ _ c.self.view_is c.self.invariant c.args.place c.requires c.swap_remove-cell.result c.swap_remove-cell.ensures.value c.swap_remove-cell.new.self.items (is_fewer _ _ _ _ c.swap_remove-cell.ensures.len c.swap_remove-cell.new.self.ok.0 c.self.inside.kept.ok.0) (is_left _ _ _ _ c.self.inside.kept.ok.0 c.swap_remove-cell.ensures.by_index)))

-- what the call of `name_place` says
module _ (numbers zeroed new : List ℕ) (place cell : ℕ) (left now : List KeptBlock) (value : now ≡ left) (set_zero : zeroed ≡ set numbers cell 0) where
  one_of : ((d : KeptBlock) → place < length now → new ≡ set zeroed (get_or now place d).at (place + 1)) → (d : KeptBlock) → place < length left → new ≡ set (set numbers cell 0) (get_or left place d).at (place + 1)
  one_of says =
      subst (λ (xs : List KeptBlock). (d : KeptBlock) → place < length xs → new ≡ set (set numbers cell 0) (get_or xs place d).at (place + 1)) value
      (subst (λ (ns : List ℕ). (d : KeptBlock) → place < length now → new ≡ set ns (get_or now place d).at (place + 1)) set_zero says)

  none_of : (length now ≤ place → new ≡ zeroed) → length left ≤ place → new ≡ set numbers cell 0
  none_of says =
      subst (λ (xs : List KeptBlock). length xs ≤ place → new ≡ set numbers cell 0) value
      (subst (λ (ns : List ℕ). length now ≤ place → new ≡ ns) set_zero says)

pub invariant_of-self : goal.invariant_of-self
invariant_of-self c =
    rw c.swap_remove-cell.ensures.capacity
    (placed _ _ _ _ c.self.view_is c.self.invariant c.args.place c.requires c.swap_remove-cell.result c.swap_remove-cell.ensures.value c.swap_remove-cell.new.self.items (is_fewer _ _ _ _ c.swap_remove-cell.ensures.len c.swap_remove-cell.new.self.ok.0 c.self.inside.kept.ok.0) (is_left _ _ _ _ c.self.inside.kept.ok.0 c.swap_remove-cell.ensures.by_index) c.name_place.new.numbers
    (one_of _ _ _ _ _ _ _ c.deref.ensures.value c.set.ensures c.name_place.ensures.there)
    (none_of _ _ _ _ _ _ _ c.deref.ensures.value c.set.ensures c.name_place.ensures.none))

pub returns-clause-there : goal.returns-clause-there
returns-clause-there c =
    cell_was _ _ _ _ c.self.view_is c.self.invariant c.args.place c.requires c.swap_remove-cell.result c.swap_remove-cell.ensures.value c.swap_remove-cell.new.self.items (is_fewer _ _ _ _ c.swap_remove-cell.ensures.len c.swap_remove-cell.new.self.ok.0 c.self.inside.kept.ok.0) (is_left _ _ _ _ c.self.inside.kept.ok.0 c.swap_remove-cell.ensures.by_index)

pub returns-clause-cells : goal.returns-clause-cells
returns-clause-cells c =
    cells _ _ _ _ c.self.view_is c.self.invariant c.args.place c.requires c.swap_remove-cell.result c.swap_remove-cell.ensures.value c.swap_remove-cell.new.self.items (is_fewer _ _ _ _ c.swap_remove-cell.ensures.len c.swap_remove-cell.new.self.ok.0 c.self.inside.kept.ok.0) (is_left _ _ _ _ c.self.inside.kept.ok.0 c.swap_remove-cell.ensures.by_index) c.name_place.new.numbers
    (one_of _ _ _ _ _ _ _ c.deref.ensures.value c.set.ensures c.name_place.ensures.there)
    (none_of _ _ _ _ _ _ _ c.deref.ensures.value c.set.ensures c.name_place.ensures.none)

pub returns-clause-kept : goal.returns-clause-kept
returns-clause-kept c =
    ap kept_of c.swap_remove-cell.ensures.items
    ∙ swapped_kept c.self.inside.kept.items c.args.place c.swap_remove-cell.result
    ∙ ap (λ (m : Listed). swap_remove m.kept c.args.place (Some c.swap_remove-cell.result.cell)) c.self.view_is
