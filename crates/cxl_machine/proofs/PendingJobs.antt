-- What the writes of a machine's job leave: each is taken back by its back value, and the last one ends the job.
use Rattle.std.proofs.Common.{◌≡◌, ℕ, List, Some, None, sym, ap, ◌∙◌, subst, arith}
use Rattle.std.specs.Prelude.{All}
use Rattle.std.proofs.lemmas.List.{take_all}
use Rattle.cxl_regs.specs.Registers.{Registers, IsBlock}
use Rattle.cxl_model.specs.declared.found.Found.{Found}
use Rattle.cxl_model.specs.declared.plan.Plan.{Plan}
use Rattle.cxl_model.specs.declared.plan.Row.{Row}
use Rattle.cxl_model.specs.declared.request.Request.{Request}
use Rattle.cxl_model.specs.Accepted.{KeepsBlocks, IsAccepted}
use Rattle.cxl_model.specs.Plans.{IsLegalPlan, with_rows}
use Rattle.cxl_model.specs.System.{System, IsSystem}
use Rattle.cxl_apply.specs.declared.write.Write.{Write}
use Rattle.cxl_apply.specs.Jobs.{AreCreateWrites, AreReleaseWrites, AreTakenBack, CanCreate, CanRelease, blocks_after_writes, blocks_done}
use Rattle.cxl_apply.specs.Releases.{rows_of, first_locked, first_not_last, blocks_without}
use Rattle.cxl_machine.specs.Machine.{Live, RegionJob, JobKind, Creates, Releases, Machine}
use Rattle.cxl_machine.specs.Jobs.{create_job, release_job, total_of, settled_by}
use Rattle.cxl_machine.specs.Sound.{IsMachine, IsJobOf}
use Rattle.cxl_machine.proofs.KeepingJobs.{Decode, job_of}
use Rattle.cxl_machine.proofs.Writes.{create_is, release_is}

-- what is known of the writes of creates and releases
pub record WriteLaws : Type 0 where
  pub create_rows : (s : System) (request : Request) (plan : Plan) → IsAccepted s → IsLegalPlan s request plan → All (CanCreate s.blocks) plan.rows
  pub create_ends : (s : System) (request : Request) (plan : Plan) (writes : List Write) → IsSystem s → IsAccepted s → Decode s.blocks → IsLegalPlan s request plan → AreCreateWrites s.blocks plan.rows writes → blocks_after_writes s.blocks writes ≡ (with_rows s plan.rows).blocks
  pub create_back : (blocks : List Registers) (rows : List Row) (writes : List Write) → All IsBlock blocks → All (CanCreate blocks) rows → AreCreateWrites blocks rows writes → AreTakenBack blocks writes
  pub release_rows : (s : System) (found : Found) → KeepsBlocks s → first_locked s found ≡ None → first_not_last s found ≡ None → All (CanRelease s.blocks) (rows_of s found)
  pub release_ends : (s : System) (found : Found) (writes : List Write) → IsSystem s → KeepsBlocks s → first_locked s found ≡ None → first_not_last s found ≡ None → AreReleaseWrites (rows_of s found) writes → blocks_after_writes s.blocks writes ≡ blocks_without s found
  pub release_back : (blocks : List Registers) (rows : List Row) (writes : List Write) → All IsBlock blocks → All (CanRelease blocks) rows → AreReleaseWrites rows writes → AreTakenBack blocks writes

-- what is known of the job of a machine
pub record JobLaws : Type 0 where
  pub back : (m : Machine) (job : RegionJob) → IsMachine m → m.job ≡ Some job → AreTakenBack m.settled.blocks job.writes
  pub ends : (m : Machine) (job : RegionJob) → IsMachine m → m.job ≡ Some job → blocks_done m.settled.blocks job.writes (total_of job) ≡ (settled_by job job.kind m.settled).blocks

-- what is known of a job over a settled image
pub record IsKnown (s : System) (job : RegionJob) : Type 0 where
  pub back : AreTakenBack s.blocks job.writes
  pub ends : blocks_after_writes s.blocks job.writes ≡ (settled_by job job.kind s).blocks

pub keeps_of : (s : System) → IsAccepted s → KeepsBlocks s
keeps_of s accepted = λ rule n i low. accepted.each rule n i

module _ (laws : WriteLaws) (m : Machine) (is : IsMachine m) where
  create_known : (request : Request) (plan : Plan) (done : ℕ) → IsLegalPlan m.settled request plan → IsKnown m.settled (record (create_job m.settled plan) { done = done })
  create_known request plan done legal =
      let are = create_is m.settled plan.rows legal.1.rows_of.rising in
      record {
        back = laws.create_back m.settled.blocks plan.rows _ is.settled.system.blocks (laws.create_rows m.settled request plan is.settled.accepted legal) are;
        ends = laws.create_ends m.settled request plan _ is.settled.system is.settled.accepted is.settled.enabled legal are;
      }

  release_known : (place : ℕ) (region : Live) (done : ℕ) → first_locked m.settled region.found ≡ None → first_not_last m.settled region.found ≡ None
      → IsKnown m.settled (record (release_job m.settled place region) { done = done })
  release_known place region done unlocked last =
      let are = release_is m.settled region in
      let keeps : KeepsBlocks m.settled = keeps_of m.settled is.settled.accepted in
      record {
        back = laws.release_back m.settled.blocks (rows_of m.settled region.found) _ is.settled.system.blocks (laws.release_rows m.settled region.found keeps unlocked last) are;
        ends = laws.release_ends m.settled region.found _ is.settled.system keeps unlocked last are;
      }

  known_by : (job : RegionJob) (kind : JobKind) → IsJobOf m job kind → IsKnown m.settled job
  known_by job (Creates rows) create = subst (IsKnown m.settled) (sym create.made) (create_known create.request create.plan job.done create.legal)
  known_by job (Releases place) release = subst (IsKnown m.settled) (sym release.made) (release_known place job.region job.done release.unlocked release.last)

  pub known : (job : RegionJob) → m.job ≡ Some job → IsKnown m.settled job
  known job pending = known_by job job.kind (job_of m job is pending).kind

  -- all writes leave the image that the job settles
  pub all_made : (job : RegionJob) → m.job ≡ Some job → blocks_done m.settled.blocks job.writes (total_of job) ≡ (settled_by job job.kind m.settled).blocks
  all_made job pending = ap (λ (ws : List Write). blocks_after_writes m.settled.blocks ws) (take_all (total_of job) job.writes (omega arith)) ∙ (known job pending).ends
