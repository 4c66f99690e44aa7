use Rattle.std.proofs.Common.{◌≡◌, [], refl, ap, arith}
use Rattle.cxl_model.specs.declared.found.Found.{Found}
use Rattle.cxl_worked.specs.ExampleRegions.{region_of_two}
use Rattle.cxl_worked_machines.specs.Examples.{opened}
use Rattle.cxl_worked_machines.proofs.flat_examples.carrying_on_examples.Goals as goal

pub returns-clause-carries : goal.returns-clause-carries
returns-clause-carries c = c.machines_carry_their_regions.ensures opened c.openings_on_examples.ensures.sound.machine

pub returns-clause-not_without_spans : goal.returns-clause-not_without_spans
returns-clause-not_without_spans c carries =
    let byte = carries.each (record region_of_two { spans = [] }) 0x100000000 (0, omega arith, refl) (omega arith) (omega arith) in
    let wrong : 0 ≡ 2 = byte.2.region.slots in
    omega (arith, wrong)

pub returns-clause-not_shared : goal.returns-clause-not_shared
returns-clause-not_shared c carries =
    let other : Found = record region_of_two { base = 0x120000000 } in
    let same =
    carries.shared region_of_two other 2 0 (0, omega arith, refl) (1, omega arith, refl)
    (record { slot = 0; place = record { endpoint = 2; start = 0 }; there = refl; here = refl; from = omega arith; below = omega arith })
    (record { slot = 0; place = record { endpoint = 2; start = 0 }; there = refl; here = refl; from = omega arith; below = omega arith }) in
    let wrong : 0x100000000 ≡ 0x120000000 = ap (λ (f : Found). f.base) same in
    omega (arith, wrong)
