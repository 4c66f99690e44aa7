-- Whether a byte of a device lies in a span of a region.
use Rattle.std.proofs.Common.{◌≡◌, ℕ, zero, suc, ◌+◌, ◌<◌, ◌≤◌, ◌⊎◌, List, [], ◌∷◌, Some, refl, sym, subst, inl, inr, arith}
use Rattle.std.specs.Prelude.{slice_get}
use Rattle.std.proofs.lemmas.Bool.{cases_lt, cases_eq}
use Rattle.std.proofs.lemmas.Option.{none-some, same_Some}
use Rattle.cxl_model.specs.declared.found.Found.{Found}
use Rattle.cxl_model.specs.declared.found.Place.{Place}
use Rattle.cxl_model.specs.Bytes.{slot_length, LiesInSpan}

-- the byte lies in a span of this length
record LiesFrom (place : Place) (len endpoint dpa : ℕ) : Type 0 where
  here : place.endpoint ≡ endpoint
  from : place.start ≤ dpa
  below : dpa < place.start + len

from_cases : (place : Place) (len endpoint dpa : ℕ) → LiesFrom place len endpoint dpa ⊎ (LiesFrom place len endpoint dpa → ⊥)
from_cases place len endpoint dpa =
    elim (cases_eq place.endpoint endpoint) [
      | inr other ↦ inr (λ lies. other lies.here)
      | inl here ↦
          elim (cases_lt dpa place.start) [
            | inl before ↦ inr (λ lies. let from = lies.from in omega (arith, before, from))
            | inr from ↦
                elim (cases_lt dpa (place.start + len)) [
                  | inr past ↦ inr (λ lies. let below = lies.below in omega (arith, past, below))
                  | inl below ↦ inl (record { here = here; from = from; below = below })
                ]
          ]
    ]

-- it lies in one of these spans
record LiesAmong (places : List Place) (len endpoint dpa : ℕ) : Type 0 where
  slot : ℕ
  place : Place
  there : slice_get places slot ≡ Some place
  lies : LiesFrom place len endpoint dpa

among_cases : (places : List Place) (len endpoint dpa : ℕ) → LiesAmong places len endpoint dpa ⊎ (LiesAmong places len endpoint dpa → ⊥)
among_cases [] len endpoint dpa = inr (λ lies. none-some lies.place lies.there)
among_cases (p ∷ ps) len endpoint dpa =
    elim (from_cases p len endpoint dpa) [
      | inl lies ↦ inl (record { slot = 0; place = p; there = refl; lies = lies })
      | inr beside ↦
          elim (among_cases ps len endpoint dpa) [
            | inl later ↦ inl (record { slot = suc later.slot; place = later.place; there = later.there; lies = later.lies })
            | inr none ↦ inr (λ lies. by_slot lies.slot lies.place lies.there lies.lies beside none)
          ]
    ]
  where
    by_slot : (slot : ℕ) (place : Place) → slice_get (p ∷ ps) slot ≡ Some place → LiesFrom place len endpoint dpa → (LiesFrom p len endpoint dpa → ⊥) → (LiesAmong ps len endpoint dpa → ⊥) → ⊥
    by_slot zero place there lies beside none = beside (subst (λ (q : Place). LiesFrom q len endpoint dpa) (sym (same_Some p place there)) lies)
    by_slot (suc slot) place there lies beside none = none (record { slot = slot; place = place; there = there; lies = lies })

pub lies_cases : (found : Found) (endpoint dpa : ℕ) → LiesInSpan found endpoint dpa ⊎ (LiesInSpan found endpoint dpa → ⊥)
lies_cases found endpoint dpa =
    elim (among_cases found.spans (slot_length found) endpoint dpa) [
      | inl is ↦ inl (record { slot = is.slot; place = is.place; there = is.there; here = is.lies.here; from = is.lies.from; below = is.lies.below })
      | inr none ↦
          inr (λ lies.
          none (record { slot = lies.slot; place = lies.place; there = lies.there; lies = record { here = lies.here; from = lies.from; below = lies.below } }))
    ]
