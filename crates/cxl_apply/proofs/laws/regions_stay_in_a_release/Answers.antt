use Rattle.std.proofs.Common.{◌≡◌, ◌≢◌, ℕ, List, None}
use Rattle.cxl_model.specs.declared.found.Found.{Found}
use Rattle.cxl_model.specs.System.{System, IsSystem}
use Rattle.cxl_regs.specs.declared.reading.Range.{Range}
use Rattle.cxl_model.specs.Accepted.{KeepsBlocks}
use Rattle.cxl_model.specs.Changes.{HaveSameDecoders}
use Rattle.cxl_model.specs.Regions.{region_range}
use Rattle.cxl_apply.specs.declared.write.Write.{Write}
use Rattle.cxl_apply.specs.Jobs.{AreReleaseWrites, blocks_done, system_done}
use Rattle.cxl_apply.specs.Releases.{rows_of, first_locked, first_not_last}
use Rattle.cxl_apply.proofs.Bounds.{length_done}
use Rattle.cxl_apply.proofs.BetweenWrites.{release_system, release_decodes}
use Rattle.cxl_apply.proofs.Staying.{release_good, stays_keep, stays_same}
use Rattle.cxl_apply.proofs.laws.regions_stay_in_a_release.Goals as goal

-- what is known after n writes
record OnWay (s : System) (found : Found) (writes : List Write) (n : ℕ) : Type 0 where
  keeps : KeepsBlocks (system_done s writes n)
  same : (r : Range) → r ≢ region_range found → HaveSameDecoders s (system_done s writes n) r

on_way : (c : goal.After-regions_stay) (s : System) (found : Found) (writes : List Write) (n : ℕ) → IsSystem s → KeepsBlocks s → first_locked s found ≡ None → first_not_last s found ≡ None
    → AreReleaseWrites (rows_of s found) writes → OnWay s found writes n
on_way c s found writes n system keeps unlocked last is =
    let good = release_good c.words_stand_for_decoder.ensures s found writes n system.blocks keeps unlocked last is in
    record {
      keeps = stays_keep s (region_range found) (blocks_done s.blocks writes n) keeps (length_done s.blocks writes n) good;
      same = λ r apart. stays_same s (region_range found) r (blocks_done s.blocks writes n) (length_done s.blocks writes n) good apart;
    }

pub returns-clause-keeps : goal.returns-clause-keeps
returns-clause-keeps c = λ s found writes n system keeps unlocked last is. (on_way c s found writes n system keeps unlocked last is).keeps

pub returns-clause-decoders : goal.returns-clause-decoders
returns-clause-decoders c = λ s found writes n r system keeps unlocked last is apart. (on_way c s found writes n system keeps unlocked last is).same r apart

pub returns-clause-region : goal.returns-clause-region
returns-clause-region c = λ s found writes n w other system keeps unlocked last is apart region.
    let way = on_way c s found writes n system keeps unlocked last is in
    c.regions_stay.ensures.region s (system_done s writes n) w other (way.same (region_range other) apart) way.keeps region

pub returns-clause-system : goal.returns-clause-system
returns-clause-system c = λ s found writes n system is. release_system c.write_laws.ensures.shape c.write_laws.ensures.block s found writes n system is

pub returns-clause-enabled : goal.returns-clause-enabled
returns-clause-enabled c = λ s found writes n system keeps unlocked last enabled is.
    release_decodes c.words_stand_for_decoder.ensures s found writes n system.blocks keeps unlocked last enabled is
