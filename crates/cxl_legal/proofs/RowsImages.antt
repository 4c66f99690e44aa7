-- An image with the stated rows of a request committed, node by node.
use Rattle.std.proofs.Common.{◌≡◌, ℕ, ◌<◌, true, false, not, ◌&&◌, if◌then◌else◌, List, [], length, get_or, Option, Some, None, refl, sym, ap, ◌∙◌, subst, inl, inr, eq-eqb}
use Rattle.std.specs.Prelude.{slice_get, slice_set, find, position, option_map, ◌==◌}
use Rattle.std.specs.Option.{option_map_or}
use Rattle.std.proofs.lemmas.Bool.{cases_Bool, and_parts, and_from, cond-true, cond-false, false≢true}
use Rattle.std.proofs.lemmas.List.Elements.{Contains-get_or}
use Rattle.cxl_enc.proofs.Lists.{position_none}
use Rattle.cxl_topo.specs.Tree.{forwards_at}
use Rattle.cxl_regs.specs.declared.decoder.Decoder.{Decoder}
use Rattle.cxl_regs.specs.Registers.{Registers, reset_decoder}
use Rattle.cxl_regs.specs.Reading.{committed_count, has_range}
use Rattle.cxl_span.specs.Allotting.{all_committed}
use Rattle.cxl_window.specs.Fields.{WindowFields}
use Rattle.cxl_model.specs.declared.request.Request.{Request}
use Rattle.cxl_model.specs.declared.plan.Row.{Row}
use Rattle.cxl_model.specs.System.{System, decoders_at}
use Rattle.cxl_model.specs.Ranges.{decoder_for, index_for}
use Rattle.cxl_model.specs.Plans.{committed_row, block_with_row, with_rows}
use Rattle.cxl_model.proofs.OtherBlocks.{decoders_are}
use Rattle.cxl_model.proofs.RangeRules.{no_decoder}
use Rattle.cxl_legal.specs.Used.{is_used}
use Rattle.cxl_legal.specs.Stated.{Fits, planned_range, has_row, stated_row, stated_rows}
use Rattle.cxl_legal.proofs.RowsSystems.{HasBlock, block_of}
use Rattle.cxl_legal.proofs.RowsRanges.{Lower, known_tree, new_range}
use Rattle.cxl_legal.proofs.RowsUsed.{used_within, row_is, row_there, rows_apart}
use Rattle.cxl_legal.proofs.FittingRows.{set_passes, get_fold_none, get_fold_some}
use Rattle.cxl_legal.proofs.RowsFolds.{count_below}

module _ (lower : Lower) (s : System) (request : Request) (w : WindowFields) (base : ℕ) (fits : Fits s request w base) where
  abbrev pub rows : List Row
  rows = stated_rows s request w base

  abbrev pub after : System
  after = with_rows s rows

  -- a used node that does not forward, with its block and the place of its row
  pub record HasRow (n : ℕ) : Type 0 where
    pub used : is_used s request n ≡ true
    pub own : HasBlock s n
    pub left : committed_count own.block.decoders < length own.block.decoders

  pub row_of : (n : ℕ) → has_row s request n ≡ true → HasRow n
  row_of n has =
      let used = (and_parts (is_used s request n) (not (forwards_at s.nodes n)) has).0 in
      let own = block_of s n fits.system (used_within s request n (known_tree lower s request w base fits) fits.named used) in
      let free : all_committed (decoders_at s n) ≡ false = ap (λ b. b && all_committed (decoders_at s n)) (sym used) ∙ fits.endpoints.left n in
      record { used = used; own = own; left = count_below own.block.decoders (ap all_committed (sym own.decoders) ∙ free) }

  -- the block of a node with a row, and that of any other
  pub block_with : (n : ℕ) (block : Registers) → has_row s request n ≡ true → slice_get s.blocks n ≡ Some block → slice_get after.blocks n ≡ Some (block_with_row (stated_row s request w base n) block)
  block_with n block has here =
      let used = (and_parts (is_used s request n) (not (forwards_at s.nodes n)) has).0 in
      get_fold_some rows s.blocks (stated_row s request w base n) (rows_apart s request w base) (row_there s request w base n (used_within s request n (known_tree lower s request w base fits) fits.named used) has)
      ∙ ap (option_map (block_with_row (stated_row s request w base n))) here

  pub block_same : (n : ℕ) → has_row s request n ≡ false → slice_get after.blocks n ≡ slice_get s.blocks n
  block_same n none = get_fold_none rows s.blocks n (λ k d within e.
      let is = row_is s request w base (get_or rows k d) (Contains-get_or rows k d within) in
      let same : is.0 ≡ n = ap (λ (x : Row). x.node) is.2 ∙ e in
      false≢true (sym none ∙ ap (has_row s request) (sym same) ∙ is.1))

  -- ---- the decoders of the new range

  new_has_range : (n : ℕ) → has_range (planned_range request base) (committed_row (stated_row s request w base n)) ≡ true
  new_has_range n = and_from (base == base) (request.size == request.size) (eq-eqb base base refl) (eq-eqb request.size request.size refl)

  pub decoders_with : (n : ℕ) → has_row s request n ≡ true → decoders_at after n ≡ slice_set (decoders_at s n) (committed_count (decoders_at s n)) (committed_row (stated_row s request w base n))
  decoders_with n has =
      let row = row_of n has in
      decoders_are after n (block_with_row (stated_row s request w base n) row.own.block) (block_with n row.own.block has row.own.here)
      ∙ ap (λ (ds : List Decoder). slice_set ds (committed_count (decoders_at s n)) (committed_row (stated_row s request w base n))) (sym row.own.decoders)

  pub left_at : (n : ℕ) → has_row s request n ≡ true → committed_count (decoders_at s n) < length (decoders_at s n)
  left_at n has = let row = row_of n has in subst (λ (ds : List Decoder). committed_count ds < length ds) (sym row.own.decoders) row.left

  pub decoders_else : (n : ℕ) → has_row s request n ≡ false → decoders_at after n ≡ decoders_at s n
  decoders_else n none = ap (λ (o : Option Registers). option_map_or (λ (block : Registers). block.decoders) o []) (block_same n none)

  pub decoder_for_range : (n : ℕ) → decoder_for after (planned_range request base) n ≡ (if has_row s request n then Some (committed_row (stated_row s request w base n)) else None)
  decoder_for_range n =
      elim (cases_Bool (has_row s request n)) [
        | inl has ↦
            ap (find (has_range (planned_range request base))) (decoders_with n has)
            ∙ (set_passes (has_range (planned_range request base)) (decoders_at s n) (committed_count (decoders_at s n)) (committed_row (stated_row s request w base n))
            (new_range lower s request w base fits n) (left_at n has) (new_has_range n)).found
            ∙ sym (cond-true (has_row s request n) (Some (committed_row (stated_row s request w base n))) None has)
        | inr none ↦
            ap (find (has_range (planned_range request base))) (decoders_else n none)
            ∙ no_decoder s (planned_range request base) n (new_range lower s request w base fits n)
            ∙ sym (cond-false (has_row s request n) (Some (committed_row (stated_row s request w base n))) None none)
      ]

  pub index_for_range : (n : ℕ) → index_for after (planned_range request base) n ≡ (if has_row s request n then Some (committed_count (decoders_at s n)) else None)
  index_for_range n =
      elim (cases_Bool (has_row s request n)) [
        | inl has ↦
            ap (position (has_range (planned_range request base))) (decoders_with n has)
            ∙ (set_passes (has_range (planned_range request base)) (decoders_at s n) (committed_count (decoders_at s n)) (committed_row (stated_row s request w base n))
            (new_range lower s request w base fits n) (left_at n has) (new_has_range n)).place
            ∙ sym (cond-true (has_row s request n) (Some (committed_count (decoders_at s n))) None has)
        | inr none ↦
            ap (position (has_range (planned_range request base))) (decoders_else n none)
            ∙ position_none reset_decoder (has_range (planned_range request base)) (decoders_at s n) (new_range lower s request w base fits n)
            ∙ sym (cond-false (has_row s request n) (Some (committed_count (decoders_at s n))) None none)
      ]
