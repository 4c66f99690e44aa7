-- The blocks that are kept, each at its place: one is kept behind the others, or taken out, and the last one takes its place.
use Rattle.std.proofs.Common.{◌≡◌, ◌≢◌, ◌⊎◌, ℕ, zero, suc, ◌+◌, ◌-◌, ◌<◌, ◌≤◌, Bool, cond, [], ◌∷◌, ◌++◌, length, get_or, set, Option, None, Some, is_some, count_by, inl, inr, refl, sym, ap, ◌∙◌, arith}
use Rattle.std.specs.Prelude.{swap_remove}
use Rattle.std.proofs.Math.Seq.{get_or-append_seam}
use Rattle.std.proofs.lemmas.Bool.{cases_eq, cases_lt}
use Rattle.std.proofs.lemmas.List.{length-append, length-set, length-take, get_or-take, get_or_past, get_or_default, get_or_append_left, get_or-set_same, get_or-set_other}
use Rattle.std.proofs.lemmas.List.Sums.{count_by-le-length, sum_by-cons, sum_by-append, sum_by-swap_remove}
use Rattle.std.specs.FinMap as fin
use Rattle.cxl_media.specs.declared.cell.Cell.{Cell}
use Rattle.cxl_media.specs.Blocks.{Key}
use Rattle.cxl_media.specs.Table.{key_at, Cells, cell_at, frames_in, IsOnce, NonePass}
use Rattle.cxl_media.proofs.Keys.{not_none, same_some}
use Rattle.cxl_media.proofs.Tables.{Stands}
use Rattle.cxl_media.proofs.Changes.{frames_with, frames_without}
use Rattle.cxl_media.proofs.Gap.{cell_within}

-- a block stands at each place
pub whole_at : (kept : Cells) (k : ℕ) → count_by is_some kept ≡ length kept → k < length kept → (p : Cell) × (cell_at kept k ≡ Some p)
whole_at [] k whole within = absurd (omega arith)
whole_at (None ∷ rest) k whole within =
    let empty : Option Cell = None in
    absurd (omega (arith, whole, count_by-le-length is_some rest, sum_by-cons (λ (o : Option Cell). cond (is_some o) 1 0) empty rest))
whole_at (Some p ∷ rest) zero whole within = (p, refl)
whole_at (Some p ∷ rest) (suc k) whole within =
    let later : count_by is_some rest ≡ length rest = omega (arith, whole, sum_by-cons (λ (o : Option Cell). cond (is_some o) 1 0) (Some p) rest) in
    whole_at rest k later (omega arith)

-- a block more
module _ (kept : Cells) (p : Cell) where
  more_cell : (k : ℕ) (q : Cell) → cell_at (kept ++ Some p ∷ []) k ≡ Some q → ((k ≡ length kept) × (q ≡ p)) ⊎ ((k < length kept) × (cell_at kept k ≡ Some q))
  more_cell k q is =
      elim (cases_eq k (length kept)) [
        | inl last ↦ inl (last, same_some q p (sym is ∙ ap (cell_at (kept ++ Some p ∷ [])) last ∙ get_or-append_seam kept (Some p) [] None))
        | inr other ↦ elim (cases_lt k (length kept)) [
          | inl low ↦ inr (low, sym (get_or_append_left kept (Some p ∷ []) None k low) ∙ is)
          | inr past ↦ absurd (not_none q (sym is ∙ get_or_past (kept ++ Some p ∷ []) k None (omega (arith, other, past, length-append kept (Some p ∷ [])))))
        ]
      ]

  pub more_whole : count_by is_some kept ≡ length kept → count_by is_some (kept ++ Some p ∷ []) ≡ length (kept ++ Some p ∷ [])
  more_whole whole =
      let counts : count_by is_some (kept ++ Some p ∷ []) ≡ count_by is_some kept + 1 = sum_by-append (λ (o : Option Cell). cond (is_some o) 1 0) kept (Some p ∷ []) in
      omega (arith, whole, counts, length-append kept (Some p ∷ []))

  module _ (once : IsOnce kept) (absent : (q : Cell) → Stands kept (key_at p) q → ⊥) where
    new_key : (k : ℕ) (q : Cell) → cell_at kept k ≡ Some q → key_at q ≢ key_at p
    new_key k q is same = absent q (record { at = k; is = is; key = same })

    pub more_once : IsOnce (kept ++ Some p ∷ [])
    more_once k m q r a b same =
        elim (more_cell k q a) [
          | inl first ↦ elim (more_cell m r b) [
            | inl second ↦ first.0 ∙ sym second.0
            | inr second ↦ absurd (new_key m r second.1 (sym same ∙ ap key_at first.1))
          ]
          | inr first ↦ elim (more_cell m r b) [
            | inl second ↦ absurd (new_key k q first.1 (same ∙ ap key_at second.1))
            | inr second ↦ once k m q r first.1 second.1 same
          ]
        ]

    pub more_frames : frames_in (kept ++ Some p ∷ []) ≡ fin.insert (frames_in kept) (key_at p) p.frame
    more_frames =
        frames_with kept (kept ++ Some p ∷ []) p once more_once
        (record { at = length kept; is = get_or-append_seam kept (Some p) [] None; key = refl })
        (λ q r s. record { at = s.at; is = get_or_append_left kept (Some p ∷ []) None s.at (cell_within kept s.at r s.is) ∙ s.is; key = s.key })
        (λ q r s. elim (more_cell s.at r s.is) [
          | inl new ↦ inl (sym s.key ∙ ap key_at new.1)
          | inr old ↦ inr (record { at = s.at; is = old.1; key = s.key })
        ])

-- the block at a place is taken out
module _ (kept : Cells) (place : ℕ) (p : Cell) (is_here : cell_at kept place ≡ Some p) where
  abbrev last : ℕ
  last = length kept - 1

  abbrev moved : Cells
  moved = set kept place (get_or kept (length kept - 1) (Some p))

  within : place < length kept
  within = cell_within kept place p is_here

  length_left : length (swap_remove kept place (Some p)) + 1 ≡ length kept
  length_left = omega (arith, within, length-take last moved, length-set kept place (get_or kept last (Some p)))

  left_within : (k : ℕ) (q : Cell) → cell_at (swap_remove kept place (Some p)) k ≡ Some q → k + 1 < length kept
  left_within k q is = omega (arith, length_left, cell_within (swap_remove kept place (Some p)) k q is)

  -- what is left at the place was last, and elsewhere what was there
  left_here : place + 1 < length kept → cell_at (swap_remove kept place (Some p)) place ≡ cell_at kept last
  left_here low =
      get_or-take last moved place None (omega (arith, low))
      ∙ get_or-set_same kept place (get_or kept last (Some p)) None within
      ∙ get_or_default kept last (Some p) None (omega (arith, low))

  left_beside : (k : ℕ) → k ≢ place → k + 1 < length kept → cell_at (swap_remove kept place (Some p)) k ≡ cell_at kept k
  left_beside k other low =
      get_or-take last moved k None (omega (arith, low))
      ∙ get_or-set_other kept place k (get_or kept last (Some p)) None other

  left_cell : (k : ℕ) (q : Cell) → cell_at (swap_remove kept place (Some p)) k ≡ Some q → ((k ≡ place) × (cell_at kept last ≡ Some q)) ⊎ ((k ≢ place) × (cell_at kept k ≡ Some q))
  left_cell k q is =
      elim (cases_eq k place) [
        | inl here ↦
            let low : place + 1 < length kept = omega (arith, here, left_within k q is) in
            inl (here, sym (left_here low) ∙ ap (cell_at (swap_remove kept place (Some p))) (sym here) ∙ is)
        | inr other ↦ inr (other, sym (left_beside k other (left_within k q is)) ∙ is)
      ]

  -- so each stood at another place than the one that is taken out
  stood : (k : ℕ) (q : Cell) → cell_at (swap_remove kept place (Some p)) k ≡ Some q → (m : ℕ) × (m ≢ place) × (cell_at kept m ≡ Some q)
  stood k q is =
      elim (left_cell k q is) [
        | inl one ↦ (last, omega (arith, one.0, left_within k q is), one.1)
        | inr one ↦ (k, one.0, one.1)
      ]

  pub left_whole : count_by is_some kept ≡ length kept → count_by is_some (swap_remove kept place (Some p)) ≡ length (swap_remove kept place (Some p))
  left_whole whole =
      let was : ◌≡◌ {A = ℕ} (cond (is_some (get_or kept place (Some p))) 1 0) 1 = ap (λ (o : Option Cell). cond (is_some o) 1 0) (get_or_default kept place (Some p) None within ∙ is_here) in
      omega (arith, whole, was, length_left, sum_by-swap_remove (λ (o : Option Cell). cond (is_some o) 1 0) kept place (Some p) within)

  pub left_few : length (swap_remove kept place (Some p)) ≤ length kept
  left_few = omega (arith, length_left)

  pub left_later : (test : Key → Bool) → NonePass test kept (place + 1) → NonePass test (swap_remove kept place (Some p)) place
  left_later test later k q low is =
      elim (left_cell k q is) [
        | inl one ↦ later last q (omega (arith, one.0, left_within k q is)) one.1
        | inr one ↦ later k q (omega (arith, low, one.0)) one.1
      ]

  module _ (once : IsOnce kept) where
    pub left_once : IsOnce (swap_remove kept place (Some p))
    left_once k m q r a b same =
        elim (left_cell k q a) [
          | inl one ↦ elim (left_cell m r b) [
            | inl two ↦ one.0 ∙ sym two.0
            | inr two ↦
                let at : last ≡ m = once last m q r one.1 two.1 same in
                absurd (omega (arith, at, left_within m r b))
          ]
          | inr one ↦ elim (left_cell m r b) [
            | inl two ↦
                let at : k ≡ last = once k last q r one.1 two.1 same in
                absurd (omega (arith, at, left_within k q a))
            | inr two ↦ once k m q r one.1 two.1 same
          ]
        ]

    pub left_frames : frames_in (swap_remove kept place (Some p)) ≡ fin.remove (frames_in kept) (key_at p)
    left_frames =
        frames_without kept (swap_remove kept place (Some p)) p once left_once
        (λ q r s.
        let was = stood s.at r s.is in
        (λ same. was.1 (once was.0 place r p was.2 is_here (s.key ∙ same)), record { at = was.0; is = was.2; key = s.key }))
        (λ q r other s.
        let apart : s.at ≢ place = λ same. other (sym s.key ∙ ap key_at (same_some r p (sym s.is ∙ ap (cell_at kept) same ∙ is_here))) in
        elim (cases_eq s.at last) [
          | inl end ↦ record { at = place; is = left_here (omega (arith, end, apart, within)) ∙ ap (cell_at kept) (sym end) ∙ s.is; key = s.key }
          | inr low ↦ record { at = s.at; is = left_beside s.at apart (omega (arith, low, cell_within kept s.at r s.is)) ∙ s.is; key = s.key }
        ])
