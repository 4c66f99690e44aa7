-- The spans of a region begin and end at blocks.
use Rattle.std.proofs.Common.{◌≡◌, ℕ, ◌+◌, ◌-◌, ◌*◌, ◌%◌, ◌<◌, ◌≤◌, Some, sym, ap, subst, ◌∙◌, inl, inr, arith}
use Rattle.std.specs.Prelude.{slice_get}
use Rattle.std.proofs.lemmas.Bool.{cases_lt}
use Rattle.std.proofs.lemmas.Option.{same_Some}
use Rattle.cxl_enc.proofs.Numbers.{some_factor}
use Rattle.cxl_window.specs.Fields.{WindowFields}
use Rattle.cxl_model.specs.declared.found.Found.{Found}
use Rattle.cxl_model.specs.declared.found.Place.{Place}
use Rattle.cxl_model.specs.Regions.{Carries}
use Rattle.cxl_model.specs.Bytes.{slot_length, LiesInSpan}
use Rattle.cxl_move.proofs.PieceLaws.{CarryLaws}

module _ (found : Found) (w : WindowFields) (laws : CarryLaws found w) (apart : (a b : ℕ) (p q : Place) → slice_get found.spans a ≡ Some p → slice_get found.spans b ≡ Some q → p.endpoint ≡ q.endpoint → a ≡ b)
    (shares : slot_length found * found.ways ≡ found.size) (some : 0 < found.size) (slot : ℕ) (place : Place) (there : slice_get found.spans slot ≡ Some place) where
  some_bytes : 0 < slot_length found
  some_bytes = some_factor (slot_length found) found.ways found.size shares some

  -- what lies in a span on this endpoint lies in this one
  lies_here : (endpoint dpa : ℕ) → place.endpoint ≡ endpoint → LiesInSpan found endpoint dpa → (place.start ≤ dpa) × (dpa < place.start + slot_length found)
  lies_here endpoint dpa here lies =
      let one : lies.slot ≡ slot = apart lies.slot slot lies.place place lies.there there (lies.here ∙ sym here) in
      let same : lies.place ≡ place = same_Some lies.place place (sym lies.there ∙ ap (slice_get found.spans) one ∙ there) in
      let start = ap (λ (p : Place). p.start) same in
      (omega (arith, start, lies.from), omega (arith, start, lies.below))

  pub start_aligned : place.start % 256 ≡ 0
  start_aligned =
      let lies : LiesInSpan found place.endpoint place.start =
      record { slot = slot; place = place; there = there; here = λ i. place.endpoint; from = omega arith; below = let len = some_bytes in omega (arith, len) } in
      let at = laws.onto place.endpoint place.start lies in
      let h : ℕ = at.0 in
      let over : ℕ = (h - found.base) % 256 in
      let from = at.1.from in
      let below = at.1.below in
      let along = laws.aligned h place.endpoint place.start at.1 in
      let first : ℕ = h - over in
      let before = laws.each first (omega (arith, from)) (omega (arith, below)) in
      let even : (first - found.base) % 256 + over < 256 = omega (arith, from) in
      let again : Carries found w h before.0 (before.1 + over) = subst (λ (x : ℕ). Carries found w x before.0 (before.1 + over)) (omega (arith, from)) (laws.together first over before.0 before.1 before.2 even) in
      let same = laws.one h place.endpoint place.start before.0 (before.1 + over) at.1 again in
      let inside = lies_here before.0 before.1 same.0 (laws.inside first before.0 before.1 before.2) in
      omega (arith, same.1, inside.0, along)

  pub end_aligned : (place.start + slot_length found) % 256 ≡ 0
  end_aligned =
      let len = some_bytes in
      let last : ℕ = place.start + (slot_length found - 1) in
      let lies : LiesInSpan found place.endpoint last = record { slot = slot; place = place; there = there; here = λ i. place.endpoint; from = omega arith; below = omega (arith, len) } in
      let at = laws.onto place.endpoint last lies in
      let along = laws.aligned at.0 place.endpoint last at.1 in
      elim (cases_lt ((at.0 - found.base) % 256 + 1) 256) [
        | inl more ↦
            let inside = lies_here place.endpoint (last + 1) (λ i. place.endpoint) (laws.inside (at.0 + 1) place.endpoint (last + 1) (laws.together at.0 1 place.endpoint last at.1 more)) in
            absurd (omega (arith, inside.1, len))
        | inr full ↦ omega (arith, full, along, len)
      ]
