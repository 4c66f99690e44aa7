use Rattle.std.proofs.Common.{◌≡◌, None}
use Rattle.cxl_model.specs.declared.found.Found.{Found}
use Rattle.cxl_model.specs.System.{System, IsSystem}
use Rattle.cxl_model.specs.Accepted.{KeepsBlocks}
use Rattle.cxl_model.specs.Regions.{region_range}
use Rattle.cxl_apply.specs.Releases.{first_locked, first_not_last, system_without}
use Rattle.cxl_apply.proofs.Again.{CanGo, old_range, other_range}
use Rattle.cxl_apply.proofs.Shapes.{released_system}
use Rattle.cxl_apply.proofs.After.{left_by_release}
use Rattle.cxl_apply.proofs.laws.regions_stay_after_a_release.Goals as goal

can : (s : System) (found : Found) → IsSystem s → KeepsBlocks s → first_locked s found ≡ None → first_not_last s found ≡ None → CanGo s found
can s found system keeps unlocked last = record { are = system.blocks; count = system.caps.count; keeps = keeps; unlocked = unlocked; last = last }

pub returns-clause-system : goal.returns-clause-system
returns-clause-system c = released_system

pub returns-clause-region : goal.returns-clause-region
returns-clause-region c = λ s found w other system keeps unlocked last apart region.
    let after = left_by_release c.words_stand_for_decoder.ensures s found (can s found system keeps unlocked last) in
    c.regions_stay.ensures.region s (system_without s found) w other (after.same (region_range other) apart) after.keeps region

pub returns-clause-ranges : goal.returns-clause-ranges
returns-clause-ranges c = λ s found r system keeps unlocked last committed.
    let goes = can s found system keeps unlocked last in
    let after = left_by_release c.words_stand_for_decoder.ensures s found goes in
    let apart = other_range s found goes r committed in
    (apart, old_range s (system_without s found) r (after.same r apart) committed)
