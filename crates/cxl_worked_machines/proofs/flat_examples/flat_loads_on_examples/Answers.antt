use Rattle.std.proofs.Common.{◌≡◌, zero, suc, [], ◌∷◌, length, Some, refl, sym, ap, ◌∙◌, subst, arith}
use Rattle.std.proofs.lemmas.Option.{same_Some}
use Rattle.cxl_machine.specs.Machine.{Machine}
use Rattle.cxl_flat.specs.Memory.{byte_of, HasBytes}
use Rattle.cxl_flat.proofs.Accesses.{loaded_same, unmapped_loads, crossing_loads}
use Rattle.cxl_worked_machines.specs.Examples.{with_r0, region_r0, first_byte}
use Rattle.cxl_worked_machines.proofs.ExampleFlat.{eleven_first, zero_behind, first_differs, r0_there, none_there, lies_past}
use Rattle.cxl_worked_machines.proofs.flat_examples.flat_loads_on_examples.Goals as goal

stand : HasBytes (with_r0 first_byte) 0x100000000 (0x11 ∷ 0 ∷ [])
stand zero below = ap Some eleven_first
stand (suc zero) below = ap Some (zero_behind 1 (omega arith))
stand (suc (suc k)) below = absurd (omega (arith, below))

pub returns-clause-told : goal.returns-clause-told
returns-clause-told c = record {
  told = λ region there lies. (0x11 ∷ 0 ∷ [], refl);
  count = λ bytes is. ap length (sym (loaded_same (0x11 ∷ 0 ∷ []) bytes is));
  bytes = λ bytes is. subst (HasBytes (with_r0 first_byte) 0x100000000) (loaded_same (0x11 ∷ 0 ∷ []) bytes is) stand;
  machine = refl;
}

pub returns-clause-crosses_end : goal.returns-clause-crosses_end
returns-clause-crosses_end c = record {
  told = λ region there lies. absurd (lies_past first_byte region there lies);
  count = λ bytes is. absurd (crossing_loads bytes is);
  bytes = λ bytes is. absurd (crossing_loads bytes is);
  machine = refl;
}

pub returns-clause-unmapped : goal.returns-clause-unmapped
returns-clause-unmapped c = record {
  told = λ region there lies. absurd (none_there region there);
  count = λ bytes is. absurd (unmapped_loads bytes is);
  bytes = λ bytes is. absurd (unmapped_loads bytes is);
  machine = refl;
}

pub returns-clause-not_refused : goal.returns-clause-not_refused
returns-clause-not_refused c flat =
    let told = flat.told (region_r0 first_byte) (r0_there first_byte) (record { from = omega arith; below = omega arith; ends = omega arith }) in
    unmapped_loads told.0 told.1

pub returns-clause-not_another : goal.returns-clause-not_another
returns-clause-not_another c flat =
    let wrong : 0 ≡ 1 = sym (zero_behind 1 (omega arith)) ∙ same_Some _ _ (flat.bytes (0x11 ∷ 1 ∷ []) refl 1 (omega arith)) in
    omega (arith, wrong)

pub returns-clause-not_one : goal.returns-clause-not_one
returns-clause-not_one c flat = let wrong : 1 ≡ 2 = flat.count (0x11 ∷ []) refl in omega (arith, wrong)

pub returns-clause-not_changed : goal.returns-clause-not_changed
returns-clause-not_changed c flat = first_differs (same_Some _ _ (ap (λ (m : Machine). byte_of m 0x100000000) flat.machine))
