-- The cells after a hole are gone through, and blocks that a probe would not meet any more are moved down into it.
use Rattle.std.proofs.Common.{◌≡◌, ◌≢◌, ◌⊎◌, ℕ, ◌+◌, ◌<◌, ◌≤◌, length, get_or, Option, None, Some, IsSome, refl, sym, ap, subst, ◌∙◌, inl, inr, arith}
use Rattle.std.specs.Prelude.{swap}
use Rattle.std.proofs.lemmas.Bool.{cases_eq, cases_order, cases_lt}
use Rattle.std.proofs.lemmas.List.{get_or_past}
use Rattle.std.proofs.lemmas.List.Edits.{Swapped, swapped_from_swap, length-swap}
use Rattle.cxl_media.specs.declared.cell.Cell.{Cell}
use Rattle.cxl_media.specs.Blocks.{Key}
use Rattle.cxl_media.specs.Table.{key_at, Cells, cell_at, IsOnce, IsTable, HasHole}
use Rattle.cxl_media.proofs.Keys.{not_none, same_some}
use Rattle.cxl_media.proofs.Tables.{Stands}
use Rattle.cxl_media.proofs.Changes.{taken_is_some, none_is_not}

-- the cells from the first hole up to `at` were gone through, and the hole is now here
pub record IsClosing (home : Key → ℕ) (first cells : Cells) (from hole at : ℕ) : Type 0 where
  pub total : length cells ≡ length first
  pub low : from ≤ hole
  pub high : hole < at
  pub within : at ≤ length cells
  pub empty : cell_at cells hole ≡ None
  pub once : IsOnce cells
  pub above : (k : ℕ) (p : Cell) → cell_at cells k ≡ Some p → home (key_at p) ≤ k
  -- only the path of a block further up may cross the hole
  pub reach : (k : ℕ) (p : Cell) → cell_at cells k ≡ Some p → (m : ℕ) → home (key_at p) ≤ m → m < k → (m ≢ hole) ⊎ (k < at) → IsSome (cell_at cells m)
  pub kept : (q : Key) (p : Cell) → Stands first q p → Stands cells q p
  pub back : (q : Key) (p : Cell) → Stands cells q p → Stands first q p

pub closing_first : (home : Key → ℕ) (cells : Cells) (hole : ℕ) → HasHole home cells hole → IsClosing home cells cells hole hole (hole + 1)
closing_first home cells hole has = record {
  total = refl;
  low = omega arith;
  high = omega arith;
  within = omega (arith, has.within);
  empty = has.empty;
  once = has.once;
  above = has.above;
  reach = λ k p is m low high free. elim free [
    | inl other ↦ has.reach k p is m low high other
    | inr below ↦
        let other : m ≢ hole = omega arith in
        has.reach k p is m low high other
  ];
  kept = λ q p s. s;
  back = λ q p s. s;
}

-- a block stands within the table
pub cell_within : (cells : Cells) (k : ℕ) (p : Cell) → cell_at cells k ≡ Some p → k < length cells
cell_within cells k p is =
    elim (cases_lt k (length cells)) [
      | inl within ↦ within
      | inr past ↦ absurd (not_none p (sym is ∙ get_or_past cells k None past))
    ]

module _ (home : Key → ℕ) (first cells : Cells) (from hole at : ℕ) (closing : IsClosing home first cells from hole at) where
  -- no block is left whose path crosses the hole: the cell is empty, or there is none
  pub closed : (cell_at cells at ≡ None) ⊎ (length cells ≤ at) → IsTable home cells
  closed end = record {
    once = closing.once;
    above = closing.above;
    reach = λ k p is m low high. closing.reach k p is m low high (free k p is m low high);
  }
    where
      -- a block above an empty cell comes from above it
      free : (k : ℕ) (p : Cell) → cell_at cells k ≡ Some p → (m : ℕ) → home (key_at p) ≤ m → m < k → (m ≢ hole) ⊎ (k < at)
      free k p is m low high =
          elim (cases_eq m hole) [
            | inr other ↦ inl other
            | inl crosses ↦ inr (below k p is m low high crosses end)
          ]
        where
          below : (k : ℕ) (p : Cell) → cell_at cells k ≡ Some p → (m : ℕ) → home (key_at p) ≤ m → m < k → m ≡ hole → (cell_at cells at ≡ None) ⊎ (length cells ≤ at) → k < at
          below k p is m low high crosses (inl empty) =
              elim (cases_order k at) [
                | inl same ↦ absurd (not_none p (sym is ∙ ap (cell_at cells) same ∙ empty))
                | inr (inl before) ↦ before
                | inr (inr after) ↦
                    let other : at ≢ hole = omega (arith, closing.high) in
                    absurd (none_is_not _ empty (closing.reach k p is at (omega (arith, low, crosses, closing.high)) after (inl other)))
              ]
          below k p is m low high crosses (inr past) = omega (arith, past, cell_within cells k p is)

  module _ (p : Cell) (is_here : cell_at cells at ≡ Some p) (inside : at < length cells) where
    -- the block at this cell is met without the hole
    pub skipped : hole < home (key_at p) → IsClosing home first cells from hole (at + 1)
    skipped beyond = record {
      total = closing.total;
      low = closing.low;
      high = omega (arith, closing.high);
      within = omega (arith, inside);
      empty = closing.empty;
      once = closing.once;
      above = closing.above;
      reach = λ k q is m low high free. elim free [
        | inl other ↦ closing.reach k q is m low high (inl other)
        | inr below ↦ elim (cases_eq k at) [
          | inr not_here ↦ closing.reach k q is m low high (inr (omega arith))
          | inl here ↦
              let same : q ≡ p = same_some q p (sym is ∙ ap (cell_at cells) here ∙ is_here) in
              let start : home (key_at q) ≡ home (key_at p) = ap (λ (r : Cell). home (key_at r)) same in
              closing.reach k q is m low high (inl (omega (arith, start, beyond, low)))
        ]
      ];
      kept = closing.kept;
      back = closing.back;
    }

    -- the block at this cell goes into the hole
    module _ (reaches : home (key_at p) ≤ hole) where
      swapped : Swapped (λ i. get_or cells i None) (λ i. get_or (swap cells hole at) i None) hole at
      swapped = swapped_from_swap cells (swap cells hole at) hole at None (omega (arith, closing.high, inside)) inside refl

      new_cell : (k : ℕ) (q : Cell) → cell_at (swap cells hole at) k ≡ Some q → ((k ≡ hole) × (q ≡ p)) ⊎ ((k ≢ hole) × (k ≢ at) × (cell_at cells k ≡ Some q))
      new_cell k q is =
          elim (cases_eq k hole) [
            | inl down ↦ inl (down, same_some q p (sym is ∙ ap (cell_at (swap cells hole at)) down ∙ swapped.0 ∙ is_here))
            | inr other ↦ elim (cases_eq k at) [
              | inl up ↦ absurd (not_none q (sym is ∙ ap (cell_at (swap cells hole at)) up ∙ swapped.1 ∙ closing.empty))
              | inr neither ↦ inr (other, neither, sym (swapped.2 k other neither) ∙ is)
            ]
          ]

      moved_once : IsOnce (swap cells hole at)
      moved_once k m q r a b same =
          elim (new_cell k q a) [
            | inl one ↦ elim (new_cell m r b) [
              | inl two ↦ one.0 ∙ sym two.0
              | inr two ↦ absurd (two.1 (sym (closing.once at m p r is_here two.2 (ap key_at (sym one.1) ∙ same))))
            ]
            | inr one ↦ elim (new_cell m r b) [
              | inl two ↦ absurd (one.1 (closing.once k at q p one.2 is_here (same ∙ ap key_at two.1)))
              | inr two ↦ closing.once k m q r one.2 two.2 same
            ]
          ]

      moved_reach : (k : ℕ) (q : Cell) → cell_at (swap cells hole at) k ≡ Some q → (m : ℕ) → home (key_at q) ≤ m → m < k → (m ≢ at) ⊎ (k < at + 1) → IsSome (cell_at (swap cells hole at) m)
      moved_reach k q is m low high free =
          elim (new_cell k q is) [
            | inl one ↦
                let start : home (key_at q) ≡ home (key_at p) = ap (λ (r : Cell). home (key_at r)) one.1 in
                let not_hole : m ≢ hole = omega (arith, one.0, high) in
                let not_at : m ≢ at = omega (arith, one.0, high, closing.high) in
                subst (λ (o : Option Cell). IsSome o) (sym (swapped.2 m not_hole not_at))
                (closing.reach at p is_here m (omega (arith, start, low)) (omega (arith, one.0, high, closing.high)) (inl not_hole))
            | inr one ↦ elim (cases_eq m hole) [
              | inl down ↦ taken_is_some _ p (ap (cell_at (swap cells hole at)) down ∙ swapped.0 ∙ is_here)
              | inr not_hole ↦ elim (cases_eq m at) [
                | inl up ↦ elim free [
                  | inl not_up ↦ absurd (not_up up)
                  | inr before ↦ absurd (omega (arith, up, high, before))
                ]
                | inr not_at ↦ subst (λ (o : Option Cell). IsSome o) (sym (swapped.2 m not_hole not_at)) (closing.reach k q one.2 m low high (inl not_hole))
              ]
            ]
          ]

      moved_stands : (q : Key) (r : Cell) → Stands cells q r → Stands (swap cells hole at) q r
      moved_stands q r s =
          elim (cases_eq s.at at) [
            | inl up ↦
                let same : r ≡ p = same_some r p (sym s.is ∙ ap (cell_at cells) up ∙ is_here) in
                record { at = hole; is = swapped.0 ∙ is_here ∙ ap (λ (x : Cell). Some x) (sym same); key = s.key }
            | inr not_at ↦
                let not_hole : s.at ≢ hole = λ down. not_none r (sym s.is ∙ ap (cell_at cells) down ∙ closing.empty) in
                record { at = s.at; is = swapped.2 s.at not_hole not_at ∙ s.is; key = s.key }
          ]

      stood : (q : Key) (r : Cell) → Stands (swap cells hole at) q r → Stands cells q r
      stood q r s =
          elim (new_cell s.at r s.is) [
            | inl one ↦ record { at = at; is = is_here ∙ ap (λ (x : Cell). Some x) (sym one.1); key = s.key }
            | inr one ↦ record { at = s.at; is = one.2; key = s.key }
          ]

      pub moved : IsClosing home first (swap cells hole at) from at (at + 1)
      moved = record {
        total = length-swap cells hole at ∙ closing.total;
        low = omega (arith, closing.low, closing.high);
        high = omega arith;
        within = omega (arith, inside, length-swap cells hole at);
        empty = swapped.1 ∙ closing.empty;
        once = moved_once;
        above = λ k q is. elim (new_cell k q is) [
          | inl one ↦
              let start : home (key_at q) ≡ home (key_at p) = ap (λ (r : Cell). home (key_at r)) one.1 in
              omega (arith, start, one.0, reaches)
          | inr one ↦ closing.above k q one.2
        ];
        reach = moved_reach;
        kept = λ q r s. moved_stands q r (closing.kept q r s);
        back = λ q r s. closing.back q r (stood q r s);
      }
