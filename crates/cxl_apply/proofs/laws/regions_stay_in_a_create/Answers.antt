use Rattle.std.proofs.Common.{◌≡◌, ◌≢◌, ℕ, true, List, All, get_or}
use Rattle.std.proofs.lemmas.List.Elements.{Contains-get_or}
use Rattle.cxl_regs.specs.Registers.{Registers}
use Rattle.cxl_model.specs.declared.plan.Plan.{Plan}
use Rattle.cxl_model.specs.declared.request.Request.{Request}
use Rattle.cxl_model.specs.System.{System, IsSystem}
use Rattle.cxl_regs.specs.declared.reading.Range.{Range}
use Rattle.cxl_model.specs.Accepted.{IsAccepted, KeepsBlocks}
use Rattle.cxl_model.specs.Changes.{HaveSameDecoders}
use Rattle.cxl_model.specs.Plans.{IsLegalPlan}
use Rattle.cxl_model.specs.Regions.{region_range}
use Rattle.cxl_apply.specs.declared.write.Write.{Write}
use Rattle.cxl_apply.specs.Jobs.{AreCreateWrites, blocks_done, system_done}
use Rattle.cxl_apply.proofs.Bounds.{length_done}
use Rattle.cxl_apply.proofs.Planned.{can_create, planned}
use Rattle.cxl_apply.proofs.BetweenWrites.{create_system, create_decodes}
use Rattle.cxl_apply.proofs.After.{planned_elsewhere}
use Rattle.cxl_apply.proofs.Staying.{create_good, stays_keep, stays_same}
use Rattle.cxl_apply.proofs.laws.regions_stay_in_a_create.Goals as goal

-- what is known after n writes
record OnWay (s : System) (plan : Plan) (writes : List Write) (n : ℕ) : Type 0 where
  keeps : KeepsBlocks (system_done s writes n)
  same : (r : Range) → r ≢ region_range plan.found → HaveSameDecoders s (system_done s writes n) r

on_way : (c : goal.After-regions_stay) (s : System) (request : Request) (plan : Plan) (writes : List Write) (n : ℕ) → IsSystem s → IsAccepted s → All (λ (block : Registers). block.enabled ≡ true) s.blocks
    → IsLegalPlan s request plan → AreCreateWrites s.blocks plan.rows writes → OnWay s plan writes n
on_way c s request plan writes n system accepted enabled is create =
    let known = planned s request plan system accepted enabled is in
    let good = create_good c.words_stand_for_decoder.ensures c.committed_stand_first.ensures.before s (region_range plan.found) plan.rows writes n known create in
    record {
      keeps = stays_keep s (region_range plan.found) (blocks_done s.blocks writes n) known.keeps (length_done s.blocks writes n) good;
      same = λ r apart. stays_same s (region_range plan.found) r (blocks_done s.blocks writes n) (length_done s.blocks writes n) good apart;
    }

pub returns-clause-keeps : goal.returns-clause-keeps
returns-clause-keeps c = λ s request plan writes n system accepted enabled is create. (on_way c s request plan writes n system accepted enabled is create).keeps

pub returns-clause-decoders : goal.returns-clause-decoders
returns-clause-decoders c = λ s request plan writes n w found system accepted enabled is create region.
    (on_way c s request plan writes n system accepted enabled is create).same (region_range found) (planned_elsewhere s request plan w found is region)

pub returns-clause-region : goal.returns-clause-region
returns-clause-region c = λ s request plan writes n w found system accepted enabled is create region.
    let way = on_way c s request plan writes n system accepted enabled is create in
    c.regions_stay.ensures.region s (system_done s writes n) w found (way.same (region_range found) (planned_elsewhere s request plan w found is region)) way.keeps region

pub returns-clause-system : goal.returns-clause-system
returns-clause-system c = λ s request plan writes n system accepted is create.
    create_system c.write_laws.ensures.shape c.write_laws.ensures.block s plan.rows writes n system
    (λ k d within. can_create c.committed_stand_first.ensures.before s (region_range plan.found) (get_or plan.rows k d) (λ rule n i low. accepted.each rule n i)
    (is.1.each_row (get_or plan.rows k d) (Contains-get_or plan.rows k d within))) create

pub returns-clause-enabled : goal.returns-clause-enabled
returns-clause-enabled c = λ s request plan writes n system accepted enabled is create.
    create_decodes c.words_stand_for_decoder.ensures c.committed_stand_first.ensures.before s (region_range plan.found) plan.rows writes n
    (planned s request plan system accepted enabled is) create
