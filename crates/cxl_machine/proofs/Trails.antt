-- Behind each word of slices of a job's writes, registers hold the image of a machine with the job pending.
use Rattle.std.proofs.Common.{◌≡◌, ℕ, ◌+◌, ◌-◌, ◌<◌, ◌≤◌, List, ◌++◌, length, take, Some, sym, ap, ◌∙◌, subst, inl, inr, arith}
use Rattle.std.proofs.Math.Seq.{take-append-add}
use Rattle.std.proofs.lemmas.Bool.{cases_lt}
use Rattle.std.proofs.lemmas.List.{take-append-le, length-append}
use Rattle.cxl_bus.specs.declared.sent.Sent.{Sent}
use Rattle.cxl_bus.specs.Trail.{blocks_sent}
use Rattle.cxl_script.specs.declared.command.Command.{Command}
use Rattle.cxl_regs.specs.Registers.{Registers}
use Rattle.cxl_apply.specs.Jobs.{AreTakenBack, blocks_done}
use Rattle.cxl_machine.specs.Machine.{RegionJob, Machine, image_of}
use Rattle.cxl_machine.specs.Jobs.{total_of}
use Rattle.cxl_machine.specs.Sound.{IsMachine}
use Rattle.cxl_machine.specs.Trails.{forward, backward, WorksOn, IsOnTheWay}
use Rattle.cxl_machine.proofs.KeepingSteps.{at_done_keeps, part_of}
use Rattle.cxl_machine.proofs.PendingJobs.{JobLaws}
use Rattle.cxl_machine.proofs.WordsSent.{sent_append, made_part, made_count, made_all, back_part, back_count, back_all}

-- a command works on a job that is pending at a machine, whose registers hold what those of the first one do
pub record Works (m : Machine) (command : Command) (job : RegionJob) (at : Machine) : Type 0 where
  pub works : WorksOn m command job at
  pub machine : IsMachine at
  pub pending : at.job ≡ Some job
  pub holds : image_of m ≡ blocks_done at.settled.blocks job.writes job.done

module _ (laws : JobLaws) (m : Machine) (command : Command) (job : RegionJob) (at : Machine) (work : Works m command job at) where
  abbrev blocks : List Registers
  blocks = at.settled.blocks

  abbrev Sends : List Sent → ℕ → Type 0
  Sends words done = blocks_sent (image_of m) words ≡ blocks_done blocks job.writes done

  back : AreTakenBack at.settled.blocks job.writes
  back = laws.back at job work.machine work.pending

  part : job.done < total_of job
  part = part_of at job work.machine work.pending

  way : (done : ℕ) (words : List Sent) → done < total_of job → Sends words done → IsOnTheWay m command words
  way done words low holds = record {
    job = job;
    at = at;
    done = done;
    works = work.works;
    part = low;
    machine = at_done_keeps at job done work.machine work.pending low;
    holds = holds;
  }

  from : (words : List Sent) (done : ℕ) → blocks_sent (blocks_done blocks job.writes job.done) words ≡ blocks_done blocks job.writes done → Sends words done
  from words done is = ap (λ (now : List Registers). blocks_sent now words) work.holds ∙ is

  -- ---- writes are made

  pub forward_way : (upto k : ℕ) → upto ≤ total_of job → k < length (forward job job.done upto) → IsOnTheWay m command (take k (forward job job.done upto))
  forward_way upto k within low =
      let count = made_count blocks job.writes job.done upto within in
      way (job.done + k) (take k (forward job job.done upto)) (omega (arith, count))
      (from (take k (forward job job.done upto)) (job.done + k) (made_part blocks job.writes job.done upto k (omega (arith, count))))

  pub forward_all : (upto : ℕ) → job.done ≤ upto → upto ≤ total_of job → Sends (forward job job.done upto) upto
  forward_all upto some within = from (forward job job.done upto) upto (made_all blocks job.writes job.done upto some within)

  -- ---- writes are taken back

  pub backward_way : (kept k : ℕ) → k < length (backward job kept job.done) → IsOnTheWay m command (take k (backward job kept job.done))
  backward_way kept k low =
      let low_part = part in
      let count = back_count blocks job.writes kept job.done (omega arith) in
      way (job.done - k) (take k (backward job kept job.done)) (omega arith)
      (from (take k (backward job kept job.done)) (job.done - k) (back_part blocks job.writes back kept job.done (job.done - k) k (omega arith) (omega (arith, count)) (omega (arith, count))))

  pub backward_all : (kept : ℕ) → kept ≤ job.done → Sends (backward job kept job.done) kept
  backward_all kept some =
      let low_part = part in
      from (backward job kept job.done) kept (back_all blocks job.writes back kept job.done some (omega arith))

  -- ---- both

  module _ (fresh : job.done ≡ 0) (turn : ℕ) (below : turn < total_of job) where
    started : image_of m ≡ blocks_done blocks job.writes 0
    started = work.holds ∙ ap (blocks_done blocks job.writes) fresh

    turned : blocks_sent (image_of m) (forward job 0 turn) ≡ blocks_done blocks job.writes turn
    turned =
        ap (λ (now : List Registers). blocks_sent now (forward job 0 turn)) started
        ∙ made_all blocks job.writes 0 turn (omega arith) (omega arith)

    pub both_all : (kept : ℕ) → kept ≤ turn → Sends (forward job 0 turn ++ backward job kept turn) kept
    both_all kept some =
        sent_append (image_of m) (forward job 0 turn) (backward job kept turn)
        ∙ ap (λ (now : List Registers). blocks_sent now (backward job kept turn)) turned
        ∙ back_all blocks job.writes back kept turn some (omega arith)

    both_way : (kept k : ℕ) → kept ≤ turn → k < length (forward job 0 turn ++ backward job kept turn)
        → IsOnTheWay m command (take k (forward job 0 turn ++ backward job kept turn))
    both_way kept k some low =
        let there : List Sent = forward job 0 turn in
        let again : List Sent = backward job kept turn in
        let made = made_count blocks job.writes 0 turn (omega arith) in
        let taken = back_count blocks job.writes kept turn (omega arith) in
        elim (cases_lt k turn) [
          | inl early ↦
              way k (take k (there ++ again)) (omega arith)
              (ap (λ (words : List Sent). blocks_sent (image_of m) words) (take-append-le k there again (omega (arith, made)))
              ∙ ap (λ (now : List Registers). blocks_sent now (take k there)) started
              ∙ made_part blocks job.writes 0 turn k (omega arith)
              ∙ ap (blocks_done blocks job.writes) (let e : 0 + k ≡ k = omega arith in e))
          | inr late ↦
              let rest : ℕ = k - turn in
              let place : k ≡ length there + rest = omega (arith, made) in
              let few : rest < turn - kept = omega (arith, made, taken, length-append there again) in
              way (turn - rest) (take k (there ++ again)) (omega arith)
              (ap (λ (words : List Sent). blocks_sent (image_of m) words) (ap (λ (i : ℕ). take i (there ++ again)) place ∙ take-append-add there again rest)
              ∙ sent_append (image_of m) there (take rest again)
              ∙ ap (λ (now : List Registers). blocks_sent now (take rest again)) turned
              ∙ back_part blocks job.writes back kept turn (turn - rest) rest (omega arith) (omega arith) (omega arith))
        ]

    pub goes_back : (kept : ℕ) (trail : List Sent) (k : ℕ) → kept ≤ turn → trail ≡ forward job 0 turn ++ backward job kept turn → k < length trail → IsOnTheWay m command (take k trail)
    goes_back kept trail k some is low =
        subst (λ (words : List Sent). IsOnTheWay m command (take k words)) (sym is)
        (both_way kept k some (subst (λ (words : List Sent). k < length words) is low))
