-- What a table of cells has at a key.
use Rattle.std.proofs.Common.{◌≡◌, ◌≢◌, ◌⊎◌, ℕ, zero, suc, cond, [], ◌∷◌, length, Option, None, Some, is_some, count_by, refl, sym, ap, ◌∙◌, inl, inr, arith}
use Rattle.std.proofs.lemmas.List.Sums.{sum_by-cons}
use Rattle.std.specs.FinMap as fin
use Rattle.std.specs.FinMap.{find}
use Rattle.cxl_media.specs.declared.cell.Cell.{Cell}
use Rattle.cxl_media.specs.Blocks.{Key, key_cmp}
use Rattle.cxl_media.specs.MapInside.{AreKeysDistinct}
use Rattle.cxl_media.specs.Table.{key_at, Cells, cell_at, items_in, frames_in, IsOnce}
use Rattle.cxl_media.proofs.Keys.{key_total, keys_cases, not_none, same_some, find_here, find_later}
use Rattle.cxl_media.proofs.Items.{maps_alike, len_distinct}

-- a block stands at a cell
pub record Stands (cells : Cells) (q : Key) (p : Cell) : Type 0 where
  pub at : ℕ
  pub is : cell_at cells at ≡ Some p
  pub key : key_at p ≡ q

once_after : (o : Option Cell) (rest : Cells) → IsOnce (o ∷ rest) → IsOnce rest
once_after o rest once k m p q a b e = let same : suc k ≡ suc m = once (suc k) (suc m) p q a b e in omega arith

-- what stands at a cell is found under its key
pub find_item : (cells : Cells) (k : ℕ) (p : Cell) (q : Key) → IsOnce cells → cell_at cells k ≡ Some p → key_at p ≡ q → find key_cmp q (items_in cells) ≡ Some p.frame
find_item [] k p q once is key = absurd (not_none p (sym is))
find_item (None ∷ rest) zero p q once is key = absurd (not_none p (sym is))
find_item (None ∷ rest) (suc k) p q once is key = find_item rest k p q (once_after None rest once) is key
find_item (Some x ∷ rest) zero p q once is key =
    let same : x ≡ p = same_some x p is in
    find_here q (key_at x, x.frame) (items_in rest) (sym key ∙ ap key_at (sym same)) ∙ ap (λ (y : Cell). Some y.frame) same
find_item (Some x ∷ rest) (suc k) p q once is key =
    find_later q (key_at x, x.frame) (items_in rest) (λ same.
    let at : 0 ≡ suc k = once 0 (suc k) x p refl is (sym same ∙ sym key) in
    absurd (omega arith))
    ∙ find_item rest k p q (once_after (Some x) rest once) is key

-- a key that no cell has is not found
pub find_absent : (cells : Cells) (q : Key) → ((k : ℕ) (p : Cell) → cell_at cells k ≡ Some p → key_at p ≢ q) → find key_cmp q (items_in cells) ≡ None
find_absent [] q absent = refl
find_absent (None ∷ rest) q absent = find_absent rest q (λ k p is. absent (suc k) p is)
find_absent (Some x ∷ rest) q absent =
    find_later q (key_at x, x.frame) (items_in rest) (λ same. absent 0 x refl (sym same))
    ∙ find_absent rest q (λ k p is. absent (suc k) p is)

-- a key stands nowhere that is not the head's and stands nowhere after it
nowhere_by_cell : (o : Option Cell) (rest : Cells) (q : Key) (p : Cell) → ((p : Cell) → Stands rest q p → ⊥) → ((x : Cell) → o ≡ Some x → key_at x ≢ q) → (at : ℕ) → cell_at (o ∷ rest) at ≡ Some p → key_at p ≡ q → ⊥
nowhere_by_cell o rest q p nowhere head zero is key = head p is key
nowhere_by_cell o rest q p nowhere head (suc at) is key = nowhere p (record { at = at; is = is; key = key })

-- a key stands at a cell or at none
pub stands_cases : (cells : Cells) (q : Key) → ((p : Cell) × Stands cells q p) ⊎ ((p : Cell) → Stands cells q p → ⊥)
stands_cases [] q = inr (λ p s. not_none p (sym s.is))
stands_cases (None ∷ rest) q =
    elim (stands_cases rest q) [
      | inl there ↦ inl (there.0, record { at = suc there.1.at; is = there.1.is; key = there.1.key })
      | inr nowhere ↦ inr (λ p s. nowhere_by_cell None rest q p nowhere (λ x is same. not_none x (sym is)) s.at s.is s.key)
    ]
stands_cases (Some x ∷ rest) q =
    elim (keys_cases (key_at x) q) [
      | inl here ↦ inl (x, record { at = 0; is = refl; key = here })
      | inr other ↦
          elim (stands_cases rest q) [
            | inl there ↦ inl (there.0, record { at = suc there.1.at; is = there.1.is; key = there.1.key })
            | inr nowhere ↦ inr (λ p s. nowhere_by_cell (Some x) rest q p nowhere (λ y is same. other (ap key_at (same_some x y is) ∙ same)) s.at s.is s.key)
          ]
    ]

pub find_stands : (cells : Cells) (q : Key) (p : Cell) → IsOnce cells → Stands cells q p → find key_cmp q (items_in cells) ≡ Some p.frame
find_stands cells q p once s = find_item cells s.at p q once s.is s.key

pub find_nowhere_stands : (cells : Cells) (q : Key) → ((p : Cell) → Stands cells q p → ⊥) → find key_cmp q (items_in cells) ≡ None
find_nowhere_stands cells q nowhere = find_absent cells q (λ k p is key. nowhere p (record { at = k; is = is; key = key }))

-- where the same block stands in two tables, the same is found
pub same_find : (old new : Cells) (q : Key) → IsOnce old → IsOnce new → ((p : Cell) → Stands old q p → Stands new q p) → ((p : Cell) → Stands new q p → Stands old q p) → find key_cmp q (items_in new) ≡ find key_cmp q (items_in old)
same_find old new q once still kept back =
    elim (stands_cases old q) [
      | inl there ↦ find_stands new q there.0 still (kept there.0 there.1) ∙ sym (find_stands old q there.0 once there.1)
      | inr nowhere ↦ find_nowhere_stands new q (λ p s. nowhere p (back p s)) ∙ sym (find_nowhere_stands old q nowhere)
    ]

pub get_frames : (cells : Cells) (q : Key) → fin.get (frames_in cells) q ≡ find key_cmp q (items_in cells)
get_frames cells q = fin.get-from_entries key_total (items_in cells) q

-- tables in which the same blocks stand have the same frames
pub same_frames : (old new : Cells) → IsOnce old → IsOnce new → ((q : Key) (p : Cell) → Stands old q p → Stands new q p) → ((q : Key) (p : Cell) → Stands new q p → Stands old q p) → frames_in new ≡ frames_in old
same_frames old new once still kept back =
    maps_alike (items_in new) (frames_in old) (λ q. same_find old new q once still (kept q) (back q) ∙ sym (get_frames old q))

-- as many items as cells that are taken
length-items_in : (cells : Cells) → length (items_in cells) ≡ count_by is_some cells
length-items_in [] = refl
length-items_in (None ∷ rest) =
    let empty : Option Cell = None in
    omega (arith, length-items_in rest, sum_by-cons (λ o. cond (is_some o) 1 0) empty rest)
length-items_in (Some x ∷ rest) = omega (arith, length-items_in rest, sum_by-cons (λ o. cond (is_some o) 1 0) (Some x) rest)

distinct_items : (cells : Cells) → IsOnce cells → AreKeysDistinct (items_in cells)
distinct_items [] once = tt
distinct_items (None ∷ rest) once = distinct_items rest (once_after None rest once)
distinct_items (Some x ∷ rest) once = (
  find_absent rest (key_at x) (λ k p is same. let at : 0 ≡ suc k = once 0 (suc k) x p refl is (sym same) in omega arith),
  distinct_items rest (once_after (Some x) rest once),
)

pub len_frames : (cells : Cells) → IsOnce cells → fin.len (frames_in cells) ≡ count_by is_some cells
len_frames cells once = len_distinct (items_in cells) (distinct_items cells once) ∙ length-items_in cells
