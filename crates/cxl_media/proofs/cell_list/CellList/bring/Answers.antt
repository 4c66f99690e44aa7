use Rattle.std.proofs.Common.{◌≡◌, ℕ, suc, ◌-◌, ◌<◌, List, None, Some, IsSome, length, get_or, set, sym, ap, ◌∙◌, subst, arith}
use Rattle.std.specs.Prelude.{swap}
use Rattle.std.proofs.lemmas.List.{length-set}
use Rattle.cxl_media.specs.declared.cell_list.KeptBlock.{KeptBlock}
use Rattle.cxl_media.specs.Table.{cell_at}
use Rattle.cxl_media.specs.CellList.{Listed, kept_of, cells_of, place_at, ArePlaced}
use Rattle.cxl_media.proofs.CellLists.{length_of, number_within, place_read, filled, empty_number, taken_number, brought_kept, brought_cells, brought_placed}
use Rattle.cxl_media.proofs.cell_list.CellList.bring.Goals as goal

-- in the words of the code: l is what contracts see
module _ (numbers : List ℕ) (places : List KeptBlock) (room : ℕ) (l : Listed) (view : ◌≡◌ {A = Listed} (record { cells = cells_of numbers (kept_of places); kept = kept_of places }) l) (are : ArePlaced numbers places room) (empty from number : ℕ) (within : empty < length l.cells) (none : cell_at l.cells empty ≡ None) (taken : IsSome (cell_at l.cells from)) (read : number ≡ get_or numbers from 0) where
  pub above : number ≡ suc (number - 1)
  above =
      let some = taken_number numbers places room are from (subst (λ (m : Listed). IsSome (cell_at m.cells from)) (sym view) taken) in
      omega (arith, some, read)

  its : get_or numbers from 0 ≡ suc (number - 1)
  its = sym read ∙ above

  pub bring_filled : number - 1 < length places
  bring_filled = filled numbers places room are from (number - 1) its

  pub from_within : from < length numbers
  from_within = number_within numbers from (number - 1) its

  pub inside : empty < length numbers
  inside = omega (arith, within, ap (λ (m : Listed). length m.cells) view, length_of numbers (kept_of places))

  nothing : get_or numbers empty 0 ≡ 0
  nothing = empty_number numbers places room are empty (ap (λ (m : Listed). cell_at m.cells empty) view ∙ none)

  module _ (p : KeptBlock) (is : p ≡ get_or places (number - 1) p) where
    there : place_at places (number - 1) ≡ Some p
    there = place_read places (number - 1) p bring_filled ∙ ap (λ (q : KeptBlock). Some q) (sym is)

    pub placed : ArePlaced (set (set numbers empty number) from 0) (set places (number - 1) (record p { at = empty })) room
    placed =
        subst (λ (n : ℕ). ArePlaced (set (set numbers empty n) from 0) (set places (number - 1) (record p { at = empty })) room) (sym above)
        (brought_placed numbers places room are empty from (number - 1) p inside nothing its there (number_within numbers from (number - 1) its))

    pub cells : cells_of (set (set numbers empty number) from 0) (kept_of (set places (number - 1) (record p { at = empty }))) ≡ swap l.cells empty from
    cells =
        ap (λ n. cells_of (set (set numbers empty n) from 0) (kept_of (set places (number - 1) (record p { at = empty })))) above
        ∙ brought_cells numbers places room are empty from (number - 1) p inside nothing its there (number_within numbers from (number - 1) its)
        ∙ ap (λ (m : Listed). swap m.cells empty from) view

    pub kept : kept_of (set places (number - 1) (record p { at = empty })) ≡ l.kept
    kept = brought_kept numbers places room are empty from (number - 1) p inside nothing its there (number_within numbers from (number - 1) its) ∙ ap (λ (m : Listed). m.kept) view

pub overflow_sub-number : goal.overflow_sub-number
overflow_sub-number c = omega (arith, above _ _ _ _ c.self.view_is c.self.invariant c.args.empty c.args.from c.get-number.result c.requires.within c.requires.empty c.requires.taken c.get-number.ensures)

pub set-requires : goal.set-requires
set-requires c = inside _ _ _ _ c.self.view_is c.self.invariant c.args.empty c.args.from c.get-number.result c.requires.within c.requires.empty c.requires.taken c.get-number.ensures

pub set-requires-2 : goal.set-requires-2
set-requires-2 c = omega (arith, from_within _ _ _ _ c.self.view_is c.self.invariant c.args.empty c.args.from c.get-number.result c.requires.within c.requires.empty c.requires.taken c.get-number.ensures, length-set c.self.inside.numbers c.args.empty c.get-number.result, ap length c.set.ensures)

pub index_mut-requires : goal.index_mut-requires
index_mut-requires c =
    omega (arith, c.self.inside.kept.ok.0, bring_filled _ _ _ _ c.self.view_is c.self.invariant c.args.empty c.args.from c.get-number.result c.requires.within c.requires.empty c.requires.taken c.get-number.ensures)

pub invariant_of-self : goal.invariant_of-self
invariant_of-self c =
    rw (c.set-2.ensures, c.set.ensures, c.stand_at.ensures)
    (placed _ _ _ _ c.self.view_is c.self.invariant c.args.empty c.args.from c.get-number.result c.requires.within c.requires.empty c.requires.taken c.get-number.ensures c.index_mut.result.now c.index_mut.ensures.value)

pub returns-clause-cells : goal.returns-clause-cells
returns-clause-cells c =
    let n = c.get-number.result - 1 in
    ap (λ ns. cells_of ns (kept_of (set c.self.inside.kept.items n c.stand_at.new.self))) (c.set-2.ensures ∙ ap (λ ns. set ns c.args.from 0) c.set.ensures)
    ∙ ap (λ p. cells_of (set (set c.self.inside.numbers c.args.empty c.get-number.result) c.args.from 0) (kept_of (set c.self.inside.kept.items n p))) c.stand_at.ensures
    ∙ cells _ _ _ _ c.self.view_is c.self.invariant c.args.empty c.args.from c.get-number.result c.requires.within c.requires.empty c.requires.taken c.get-number.ensures c.index_mut.result.now c.index_mut.ensures.value

pub returns-clause-kept : goal.returns-clause-kept
returns-clause-kept c =
    ap (λ p. kept_of (set c.self.inside.kept.items (c.get-number.result - 1) p)) c.stand_at.ensures
    ∙ kept _ _ _ _ c.self.view_is c.self.invariant c.args.empty c.args.from c.get-number.result c.requires.within c.requires.empty c.requires.taken c.get-number.ensures c.index_mut.result.now c.index_mut.ensures.value
