-- The first slot of a region whose span lies on a device.
use Rattle.std.proofs.Common.{◌≡◌, ℕ, ◌<◌, Bool, List, length, get_or, Some, None, sym, ap, ◌∙◌, inl, inr, arith}
use Rattle.std.specs.Prelude.{◌==◌, slice_get}
use Rattle.std.specs.List.{position_or_len}
use Rattle.std.proofs.lemmas.Bool.{cases_lt, cond-true, lt-ltb, eqb-true, eq-eqb, false≢true}
use Rattle.std.proofs.lemmas.List.Quantifiers.{position-Some}
use Rattle.std.proofs.lemmas.List.Sums.{fails_before_first}
use Rattle.std.proofs.lemmas.Option.{none-some, slice_get_within, slice_get-get_or, get_or_from_slice_get}
use Rattle.cxl_model.specs.declared.found.Place.{Place}
use Rattle.cxl_model.specs.Bytes.{slot_on}

abbrev is_on : ℕ → Place → Bool
is_on endpoint place = place.endpoint == endpoint

pub slot_within : (endpoint : ℕ) (spans : List Place) (slot : ℕ) (d : Place) → slot_on endpoint spans ≡ Some slot → slot < length spans
slot_within endpoint spans slot d is = (position-Some (is_on endpoint) spans slot d is).0

-- where it stands
pub slot_there : (endpoint : ℕ) (spans : List Place) (slot : ℕ) (d : Place) → slot_on endpoint spans ≡ Some slot → slice_get spans slot ≡ Some (record { endpoint = endpoint; start = (get_or spans slot d).start })
slot_there endpoint spans slot d is =
    let at = position-Some (is_on endpoint) spans slot d is in
    let here : (get_or spans slot d).endpoint ≡ endpoint = eqb-true (get_or spans slot d).endpoint endpoint at.1 in
    slice_get-get_or spans slot d at.0 ∙ ap (λ (e : ℕ). let place : Place = record { endpoint = e; start = (get_or spans slot d).start } in Some place) here

-- where there is none, no slot's span lies there
pub no_slot : (endpoint : ℕ) (spans : List Place) (slot : ℕ) (place : Place) → slot_on endpoint spans ≡ None → slice_get spans slot ≡ Some place → place.endpoint ≡ endpoint → ⊥
no_slot endpoint spans slot place none there here =
    let p : Place → Bool = is_on endpoint in
    elim (cases_lt (position_or_len p spans) (length spans)) [
      | inl some ↦ none-some (position_or_len p spans) (sym none ∙ cond-true _ (Some (position_or_len p spans)) None (lt-ltb (position_or_len p spans) (length spans) some))
      | inr past ↦
          let within : slot < length spans = slice_get_within spans slot place there in
          let fails = fails_before_first p spans slot place (omega arith) in
          false≢true (sym fails ∙ ap p (get_or_from_slice_get spans slot place place there) ∙ eq-eqb place.endpoint endpoint here)
    ]
