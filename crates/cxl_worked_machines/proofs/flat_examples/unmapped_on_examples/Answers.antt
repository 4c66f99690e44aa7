use Rattle.std.proofs.Common.{◌≡◌, ℕ, zero, suc, ◌+◌, ◌<◌, ◌≤◌, Bool, [], ◌∷◌, cond, Some, None, inr, refl, sym, ap, subst, arith}
use Rattle.std.specs.Prelude.{Contains, slice_get}
use Rattle.std.proofs.lemmas.Option.{none-some, same_Some}
use Rattle.cxl_model.specs.declared.found.Found.{Found}
use Rattle.cxl_model.specs.declared.found.Place.{Place}
use Rattle.cxl_model.specs.Bytes.{LiesInSpan}
use Rattle.cxl_worked.specs.ExampleRegions.{region_of_two}
use Rattle.cxl_flat.proofs.Addresses.{has_not}
use Rattle.cxl_worked_machines.specs.Examples.{region_r0, found_b, nothing}
use Rattle.cxl_worked_machines.proofs.flat_examples.unmapped_on_examples.Goals as goal

-- the spans of the first region start at 0, and those of the second where these end
start_first : (slot : ℕ) (place : Place) → slice_get region_of_two.spans slot ≡ Some place → 0 ≡ place.start
start_first zero place there = ap (λ (p : Place). p.start) (same_Some (record { endpoint = 2; start = 0 }) place there)
start_first (suc zero) place there = ap (λ (p : Place). p.start) (same_Some (record { endpoint = 3; start = 0 }) place there)
start_first (suc (suc slot)) place there = absurd (none-some place there)

start_second : (slot : ℕ) (place : Place) → slice_get found_b.spans slot ≡ Some place → 0x10000000 ≡ place.start
start_second zero place there = ap (λ (p : Place). p.start) (same_Some (record { endpoint = 2; start = 0x10000000 }) place there)
start_second (suc zero) place there = ap (λ (p : Place). p.start) (same_Some (record { endpoint = 3; start = 0x10000000 }) place there)
start_second (suc (suc slot)) place there = absurd (none-some place there)

apart : (found : Found) (endpoint dpa : ℕ) → Contains (region_of_two ∷ []) found → LiesInSpan found endpoint dpa → ¬ (LiesInSpan found_b endpoint dpa)
apart found endpoint dpa (zero, low, read) lies inside =
    let own : LiesInSpan region_of_two endpoint dpa = subst (λ (f : Found). LiesInSpan f endpoint dpa) (sym read) lies in
    let first = start_first own.slot own.place own.there in
    let second = start_second inside.slot inside.place inside.there in
    let below : dpa < own.place.start + 0x10000000 = own.below in
    omega (arith, first, second, below, inside.from)
apart found endpoint dpa (suc k, low, read) lies inside = absurd (omega (arith, low))

pub returns-clause-making : goal.returns-clause-making
returns-clause-making c = record {
  name = refl;
  host = λ h from below.
      let behind : 0x120000000 ≤ h = from in
      ap (λ (here : Bool). cond here (Some (region_r0 nothing)) None) (has_not region_of_two h (inr behind));
  device = apart;
}

pub returns-clause-not_named : goal.returns-clause-not_named
returns-clause-not_named c unmapped = none-some (region_r0 nothing) (sym unmapped.name)

pub returns-clause-not_host : goal.returns-clause-not_host
returns-clause-not_host c unmapped = none-some (region_r0 nothing) (sym (unmapped.host 0x11fffffff (omega arith) (omega arith)))

pub returns-clause-not_device : goal.returns-clause-not_device
returns-clause-not_device c unmapped =
    unmapped.device region_of_two 3 0xfffffff (0, omega arith, refl)
    (record { slot = 1; place = record { endpoint = 3; start = 0 }; there = refl; here = refl; from = omega arith; below = omega arith })
    (record { slot = 0; place = record { endpoint = 3; start = 0xfffffff }; there = refl; here = refl; from = omega arith; below = omega arith })
