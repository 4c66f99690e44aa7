use Rattle.std.proofs.Common.{◌≡◌, ℕ, zero, suc, ◌+◌, ◌<◌, [], ◌∷◌, Some, refl, sym, ap, subst, arith}
use Rattle.std.specs.Prelude.{Contains, slice_get}
use Rattle.std.proofs.lemmas.Option.{none-some, same_Some}
use Rattle.cxl_model.specs.declared.found.Place.{Place}
use Rattle.cxl_model.specs.Bytes.{LiesInSpan}
use Rattle.cxl_worked.specs.ExampleRegions.{region_of_two}
use Rattle.cxl_machine.specs.Machine.{Live}
use Rattle.std.specs.FinMap as map
use Rattle.cxl_machine.specs.Accesses.{no_endpoint, told, carried, unmapped}
use Rattle.cxl_worked_machines.specs.Examples.{region_r0}
use Rattle.cxl_worked_machines.proofs.access_examples.addresses_on_examples.Goals as goal

-- the first endpoint's span ends at 256 MiB
no_slot : (slot : ℕ) (place : Place) → slice_get region_of_two.spans slot ≡ Some place → place.endpoint ≡ 2 → 0x10000000 < place.start + 0x10000000 → ⊥
no_slot zero place there here below =
    let start : 0 ≡ place.start = ap (λ (p : Place). p.start) (same_Some record { endpoint = 2; start = 0 } place there) in
    omega arith
no_slot (suc zero) place there here below =
    let endpoint : 3 ≡ place.endpoint = ap (λ (p : Place). p.endpoint) (same_Some record { endpoint = 3; start = 0 } place there) in
    omega arith
no_slot (suc (suc slot)) place there here below = none-some place there

past_spans : (region : Live) → Contains (region_r0 map.empty ∷ []) region → ¬ (LiesInSpan region.found 2 0x10000000)
past_spans region (zero, low, read) lies =
    let own = subst (λ (r : Live). LiesInSpan r.found 2 0x10000000) (sym read) lies in
    no_slot own.slot own.place own.there own.here own.below
past_spans region (suc k, low, read) lies = absurd (omega (arith, low))

pub returns-clause-down : goal.returns-clause-down
returns-clause-down c = record { unfailing = refl; told = refl }

pub returns-clause-down_unmapped : goal.returns-clause-down_unmapped
returns-clause-down_unmapped c = record { unfailing = refl; told = refl }

pub returns-clause-range : goal.returns-clause-range
returns-clause-range c = record { unfailing = refl; told = refl }

pub returns-clause-spread : goal.returns-clause-spread
returns-clause-spread c = record { unfailing = refl; told = refl }

pub returns-clause-shown : goal.returns-clause-shown
returns-clause-shown c = refl

pub returns-clause-not_read : goal.returns-clause-not_read
returns-clause-not_read c = (refl, refl)

pub returns-clause-no_endpoint : goal.returns-clause-no_endpoint
returns-clause-no_endpoint c = (refl, no_endpoint refl refl)

pub returns-clause-up : goal.returns-clause-up
returns-clause-up c = (refl, told 3 _ refl (carried (region_r0 map.empty) 0x100000100 (0, omega arith, refl) record { from = omega arith; below = omega arith; place = (refl, refl) } refl) refl)

pub returns-clause-up_unmapped : goal.returns-clause-up_unmapped
returns-clause-up_unmapped c = (refl, told 2 _ refl (unmapped past_spans refl) refl)
