-- Which of several places lies where, told by a test.
use Rattle.std.proofs.Common.{◌≡◌, ℕ, zero, suc, ◌+◌, Bool, true, ◌&&◌, ◌||◌, List, [], ◌∷◌, Some, ap, ◌∙◌}
use Rattle.std.specs.Prelude.{◌==◌, nat_lt, nat_le, slice_get, Contains}
use Rattle.std.specs.List.{list_any}
use Rattle.std.proofs.lemmas.Bool.{and_parts, and_from, eqb-true, eq-eqb, leb-true, le-leb, ltb-true, lt-ltb}
use Rattle.std.proofs.lemmas.Option.{none-some, same_Some, slice_get-get_or}
use Rattle.cxl_enc.proofs.Lists.{some_passes}
use Rattle.cxl_enc.proofs.Tests.{or_true}
use Rattle.cxl_model.specs.declared.found.Found.{Found}
use Rattle.cxl_model.specs.declared.found.Place.{Place}
use Rattle.cxl_model.specs.Bytes.{LiesInSpan, slot_length}

-- ---- lists

pub passes_some : {X : Type 0} (p : X → Bool) (xs : List X) (k : ℕ) (x : X) → slice_get xs k ≡ Some x → p x ≡ true → list_any p xs ≡ true
passes_some p [] k x there passes = absurd (none-some x there)
passes_some p (y ∷ xs) zero x there passes = ap (λ b. b || list_any p xs) (ap p (same_Some y x there) ∙ passes)
passes_some p (y ∷ xs) (suc k) x there passes = ap (λ (b : Bool). p y || b) (passes_some p xs k x there passes) ∙ or_true (p y)

-- ---- spans

abbrev pub lies_test : Found → ℕ → ℕ → Place → Bool
lies_test found endpoint dpa place = (place.endpoint == endpoint) && (nat_le place.start dpa && nat_lt dpa (place.start + slot_length found))

abbrev pub found_test : Found → ℕ → ℕ → Bool
found_test found endpoint dpa = list_any (lies_test found endpoint dpa) found.spans

pub lies_where : (found : Found) (endpoint dpa : ℕ) → found_test found endpoint dpa ≡ true → LiesInSpan found endpoint dpa
lies_where found endpoint dpa is =
    let (slot, place, there, passes) = some_passes (lies_test found endpoint dpa) found.spans is in
    let parts = and_parts (place.endpoint == endpoint) _ passes in
    let bounds = and_parts (nat_le place.start dpa) (nat_lt dpa (place.start + slot_length found)) parts.1 in
    record {
      slot = slot;
      place = place;
      there = there;
      here = eqb-true place.endpoint endpoint parts.0;
      from = leb-true place.start dpa bounds.0;
      below = ltb-true dpa (place.start + slot_length found) bounds.1;
    }

pub passes_where : (found : Found) (endpoint dpa : ℕ) → LiesInSpan found endpoint dpa → found_test found endpoint dpa ≡ true
passes_where found endpoint dpa lies =
    passes_some (lies_test found endpoint dpa) found.spans lies.slot lies.place lies.there
    (and_from (lies.place.endpoint == endpoint) _ (eq-eqb lies.place.endpoint endpoint lies.here)
    (and_from (nat_le lies.place.start dpa) (nat_lt dpa (lies.place.start + slot_length found)) (le-leb lies.place.start dpa lies.from)
    (lt-ltb dpa (lies.place.start + slot_length found) lies.below)))

pub at_contains : {X : Type 0} (xs : List X) (x : X) → Contains xs x → (k : ℕ) × (slice_get xs k ≡ Some x)
at_contains xs x (k, below, read) = (k, slice_get-get_or xs k x below ∙ ap Some read)
