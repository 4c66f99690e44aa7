-- A block is added to a table at the cell where its probe stops, or taken out of it.
use Rattle.std.proofs.Common.{◌≡◌, ◌≢◌, ◌⊎◌, ℕ, suc, ◌+◌, ◌<◌, ◌≤◌, cond, length, set, Option, None, Some, IsSome, is_some, count_by, refl, sym, ap, subst, ◌∙◌, inl, inr, arith}
use Rattle.std.proofs.lemmas.Bool.{cases_eq, false≢true, cond-true, cond-false}
use Rattle.std.proofs.lemmas.List.{get_or-set_same, get_or-set_other, length-set}
use Rattle.std.proofs.lemmas.List.Sums.{sum_by-set}
use Rattle.std.specs.FinMap as fin
use Rattle.cxl_media.specs.declared.cell.Cell.{Cell}
use Rattle.cxl_media.specs.Blocks.{Key}
use Rattle.cxl_media.specs.Table.{key_at, Cells, cell_at, items_in, frames_in, IsOnce, IsTable, AreTaken, HasHole}
use Rattle.cxl_media.proofs.Keys.{key_total, key_is, key_is_not, keys_cases, not_none, same_some}
use Rattle.cxl_media.proofs.Items.{maps_alike}
use Rattle.cxl_media.proofs.Tables.{Stands, find_stands, find_nowhere_stands, same_find, get_frames}

pub taken_is_some : (o : Option Cell) (p : Cell) → o ≡ Some p → IsSome o
taken_is_some o p e = ap is_some e

pub none_is_not : (o : Option Cell) → o ≡ None → IsSome o → ⊥
none_is_not o e taken = false≢true (sym (ap is_some e) ∙ taken)

-- a block stands in a table besides those of another
pub frames_with : (old new : Cells) (p : Cell) → IsOnce old → IsOnce new → Stands new (key_at p) p → ((q : Key) (r : Cell) → Stands old q r → Stands new q r) → ((q : Key) (r : Cell) → Stands new q r → (q ≡ key_at p) ⊎ Stands old q r) → frames_in new ≡ fin.insert (frames_in old) (key_at p) p.frame
frames_with old new p once still here kept back =
    maps_alike (items_in new) _ (λ q.
    elim (keys_cases q (key_at p)) [
      | inl same ↦
          find_stands new q p still (record { at = here.at; is = here.is; key = here.key ∙ sym same })
          ∙ sym (cond-true _ (Some p.frame) (fin.get (frames_in old) q) (key_is q (key_at p) same))
          ∙ sym (fin.get-insert key_total (frames_in old) (key_at p) p.frame q)
      | inr other ↦
          same_find old new q once still (kept q) (λ r s. elim (back q r s) [ inl same ↦ absurd (other same) | inr was ↦ was ])
          ∙ sym (get_frames old q)
          ∙ sym (cond-false _ (Some p.frame) (fin.get (frames_in old) q) (key_is_not q (key_at p) other))
          ∙ sym (fin.get-insert key_total (frames_in old) (key_at p) p.frame q)
    ])

-- all blocks of a table stand in another but one
pub frames_without : (old new : Cells) (p : Cell) → IsOnce old → IsOnce new → ((q : Key) (r : Cell) → Stands new q r → (q ≢ key_at p) × Stands old q r) → ((q : Key) (r : Cell) → q ≢ key_at p → Stands old q r → Stands new q r) → frames_in new ≡ fin.remove (frames_in old) (key_at p)
frames_without old new p once still back kept =
    maps_alike (items_in new) _ (λ q.
    elim (keys_cases q (key_at p)) [
      | inl same ↦
          find_nowhere_stands new q (λ r s. (back q r s).0 same)
          ∙ sym (cond-true _ None (fin.get (frames_in old) q) (key_is q (key_at p) same))
          ∙ sym (fin.get-remove key_total (frames_in old) (key_at p) q)
      | inr other ↦
          same_find old new q once still (λ r s. kept q r other s) (λ r s. (back q r s).1)
          ∙ sym (get_frames old q)
          ∙ sym (cond-false _ None (fin.get (frames_in old) q) (key_is_not q (key_at p) other))
          ∙ sym (fin.get-remove key_total (frames_in old) (key_at p) q)
    ])

-- what stands at each cell after one was written
module _ (cells : Cells) (at : ℕ) (o : Option Cell) (within : at < length cells) where
  pub here : cell_at (set cells at o) at ≡ o
  here = get_or-set_same cells at o None within

  pub elsewhere : (k : ℕ) → k ≢ at → cell_at (set cells at o) k ≡ cell_at cells k
  elsewhere k other = get_or-set_other cells at k o None other

-- a block is added at an empty cell
module _ (home : Key → ℕ) (cells : Cells) (at : ℕ) (p : Cell) (table : IsTable home cells) (within : at < length cells) (empty : cell_at cells at ≡ None) (absent : (q : Cell) → Stands cells (key_at p) q → ⊥) (above : home (key_at p) ≤ at) (path : AreTaken cells (home (key_at p)) at) where
  new : Cells
  new = set cells at (Some p)

  old_cell : (k : ℕ) (q : Cell) → cell_at cells k ≡ Some q → k ≢ at
  old_cell k q is same = not_none q (sym is ∙ ap (cell_at cells) same ∙ empty)

  pub kept_cell : (k : ℕ) (q : Cell) → cell_at cells k ≡ Some q → cell_at (set cells at (Some p)) k ≡ Some q
  kept_cell k q is = elsewhere cells at (Some p) within k (old_cell k q is) ∙ is

  still_taken : (from to : ℕ) → AreTaken cells from to → AreTaken (set cells at (Some p)) from to
  still_taken from to taken m low high =
      elim (cases_eq m at) [
        | inl same ↦ taken_is_some _ p (ap (cell_at (set cells at (Some p))) same ∙ here cells at (Some p) within)
        | inr other ↦ subst (λ (o : Option Cell). IsSome o) (sym (elsewhere cells at (Some p) within m other)) (taken m low high)
      ]

  -- a block of the new table is the one added or one of the old
  new_cell : (k : ℕ) (q : Cell) → cell_at (set cells at (Some p)) k ≡ Some q → ((k ≡ at) × (q ≡ p)) ⊎ ((k ≢ at) × (cell_at cells k ≡ Some q))
  new_cell k q is =
      elim (cases_eq k at) [
        | inl same ↦ inl (same, same_some q p (sym is ∙ ap (cell_at (set cells at (Some p))) same ∙ here cells at (Some p) within))
        | inr other ↦ inr (other, sym (elsewhere cells at (Some p) within k other) ∙ is)
      ]

  not_old : (k : ℕ) (q : Cell) → cell_at cells k ≡ Some q → key_at q ≢ key_at p
  not_old k q is same = absent q (record { at = k; is = is; key = same })

  pub added_once : IsOnce (set cells at (Some p))
  added_once k m q r a b same =
      elim (new_cell k q a) [
        | inl first ↦
            elim (new_cell m r b) [
              | inl second ↦ first.0 ∙ sym second.0
              | inr second ↦ absurd (not_old m r second.1 (sym same ∙ ap key_at first.1))
            ]
        | inr first ↦
            elim (new_cell m r b) [
              | inl second ↦ absurd (not_old k q first.1 (same ∙ ap key_at second.1))
              | inr second ↦ table.once k m q r first.1 second.1 same
            ]
      ]

  pub added_table : IsTable home (set cells at (Some p))
  added_table = record {
    once = added_once;
    above = λ k q is. elim (new_cell k q is) [
      | inl first ↦ subst (λ (r : Cell). home (key_at r) ≤ k) (sym first.1) (subst (λ (n : ℕ). home (key_at p) ≤ n) (sym first.0) above)
      | inr first ↦ table.above k q first.1
    ];
    reach = λ k q is. elim (new_cell k q is) [
      | inl first ↦
          let start : home (key_at q) ≡ home (key_at p) = ap (λ (r : Cell). home (key_at r)) first.1 in
          still_taken (home (key_at q)) k (rw (start, first.0) path)
      | inr first ↦ still_taken (home (key_at q)) k (table.reach k q first.1)
    ];
  }

  pub added_frames : frames_in (set cells at (Some p)) ≡ fin.insert (frames_in cells) (key_at p) p.frame
  added_frames =
      frames_with cells (set cells at (Some p)) p table.once added_once
      (record { at = at; is = here cells at (Some p) within; key = refl })
      (λ q r s. record { at = s.at; is = kept_cell s.at r s.is; key = s.key })
      (λ q r s. elim (new_cell s.at r s.is) [
        | inl first ↦ inl (sym s.key ∙ ap key_at first.1)
        | inr first ↦ inr (record { at = s.at; is = first.1; key = s.key })
      ])

  pub added_count : count_by is_some (set cells at (Some p)) ≡ suc (count_by is_some cells)
  added_count =
      let change : count_by is_some (set cells at (Some p)) + cond (is_some (cell_at cells at)) 1 0 ≡ count_by is_some cells + 1 = sum_by-set (λ o. cond (is_some o) 1 0) cells at (Some p) None within in
      let was : ◌≡◌ {A = ℕ} (cond (is_some (cell_at cells at)) 1 0) 0 = ap (λ (o : Option Cell). cond (is_some o) 1 0) empty in
      omega (arith, change, was)

-- a block is taken out, and nothing else moved
module _ (home : Key → ℕ) (cells : Cells) (at : ℕ) (p : Cell) (table : IsTable home cells) (within : at < length cells) (is_here : cell_at cells at ≡ Some p) where
  left_cell : (k : ℕ) (q : Cell) → cell_at (set cells at None) k ≡ Some q → (k ≢ at) × (cell_at cells k ≡ Some q)
  left_cell k q is =
      elim (cases_eq k at) [
        | inl same ↦ absurd (not_none q (sym is ∙ ap (cell_at (set cells at None)) same ∙ here cells at None within))
        | inr other ↦ (other, sym (elsewhere cells at None within k other) ∙ is)
      ]

  pub left_once : IsOnce (set cells at None)
  left_once k m q r a b same = table.once k m q r (left_cell k q a).1 (left_cell m r b).1 same

  pub left_hole : HasHole home (set cells at None) at
  left_hole = record {
    within = omega (arith, within, length-set {A = Option Cell} cells at None);
    empty = here cells at None within;
    once = left_once;
    above = λ k q is. table.above k q (left_cell k q is).1;
    reach = λ k q is m low high other.
        subst (λ (o : Option Cell). IsSome o) (sym (elsewhere cells at None within m other)) (table.reach k q (left_cell k q is).1 m low high);
  }

  pub left_frames : frames_in (set cells at None) ≡ fin.remove (frames_in cells) (key_at p)
  left_frames =
      frames_without cells (set cells at None) p table.once left_once
      (λ q r s.
      let found = left_cell s.at r s.is in
      (λ same. found.0 (table.once s.at at r p found.1 is_here (s.key ∙ same)), record { at = s.at; is = found.1; key = s.key }))
      (λ q r other s.
      let apart : s.at ≢ at = λ same. other (sym s.key ∙ ap key_at (same_some r p (sym s.is ∙ ap (cell_at cells) same ∙ is_here))) in
      record { at = s.at; is = elsewhere cells at None within s.at apart ∙ s.is; key = s.key })
