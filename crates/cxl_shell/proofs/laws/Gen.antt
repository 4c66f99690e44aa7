-- What a run of a generated system comes to.
use Rattle.std.proofs.Common.{◌≡◌, ◌⊎◌, ℕ, true, List, [], ap, subst, inl, inr}
use Rattle.cxl_gen.specs.Made.{made_table, made_tree}
use Rattle.cxl_inputs.specs.Ends.{IsWritten, IsCutShort}
use Rattle.cxl_inputs.specs.ResetHost.{reset_host_of}
use Rattle.cxl_inputs.specs.declared.status.Status.{Status}
use Rattle.cxl_inputs.specs.declared.status.Status.TheVariants.{Done, WriteFault, BusFault, Memory}
use Rattle.cxl_io.specs.Sink.{Takes}
use Rattle.cxl_machine.specs.Machine.{Machine}
use Rattle.cxl_machine.specs.Scripts.{Asked, Turn}
use Rattle.cxl_machine.specs.Sound.{Opens}
use Rattle.cxl_machine.specs.Turns.{AreTurns, machine_after}
use Rattle.cxl_model.specs.System.{System}
use Rattle.cxl_shell.specs.Completeness.{HasMadeAll}
use Rattle.cxl_shell.specs.Devices.{Devices}
use Rattle.cxl_shell.specs.Endings.{HasCarriedOut, EndsGen, told, runs_out}
use Rattle.cxl_commands.specs.Form.{Gen}
use Rattle.cxl_commands.specs.Outside.{Outside}
use Rattle.cxl_commands.specs.RunByFiles.{before, behind, IsRunByFiles, writes, is_cut}
use Rattle.cxl_shell.specs.Run.{IsUnopened, by_files, unready, unopened, opened, IsRun}
use Rattle.cxl_commands.specs.RunByFiles as ways
use Rattle.cxl_shell.specs.RunOut.{HasMadeSome}
use Rattle.cxl_shell.specs.commands.Script.{FailsToOpen, bus, memory}
use Rattle.cxl_shell.proofs.laws.Early.{comes_early, unready_early}
use Rattle.cxl_shell.proofs.laws.Script.{gen_ended}

module _ (n : ℕ) (old new : Outside) (first_seen now : Devices) (status : Status) where
  -- ---- by files, and where the devices were not made ready

  -- no outcome answers it by files: only memory can run out
  out_by_files : IsRunByFiles (Gen n) old new status → (status ≡ Memory) × Takes old.out new.out []
  out_by_files (writes outcome answers written) = absurd answers.0
  out_by_files (is_cut outcome answers short) = absurd answers.0
  out_by_files (ways.runs_out takes is (before out none)) = (is, none.taken)
  out_by_files (ways.runs_out takes is (behind outcome answers unfailed lines)) = absurd answers.0

  fails_so : (s : System) (frames : ℕ) → FailsToOpen s frames first_seen now old.out new.out status → (status ≡ BusFault) ⊎ (status ≡ WriteFault) ⊎ ((status ≡ Memory) × Takes old.out new.out [])
  fails_so s frames (bus starts rose half empty (inl written)) = inl written.status_is
  fails_so s frames (bus starts rose half empty (inr short)) = inr (inl short.status_is)
  fails_so s frames (memory regs media unhidden is none) = inr (inr (is, none.taken))

  -- ---- in a session

  module _ (s : System) (frames : ℕ) (first : Machine) (asked : List Asked) (turns : List Turn) (host : s ≡ reset_host_of (made_table n) (made_tree n)) (has : frames ≡ (made_tree n).frames) (opens : Opens s frames first) (answered : AreTurns first asked turns) (carried : HasCarriedOut first turns first_seen now) where
    opens_so : Opens (reset_host_of (made_table n) (made_tree n)) (made_tree n).frames first
    opens_so = subst (λ t. Opens t (made_tree n).frames first) host (subst (λ k. Opens s k first) has opens)

    all_made : status ≡ Done → EndsGen n (machine_after first turns) asked turns old.out new.out status → HasMadeAll n (λ outcome. IsWritten outcome status old.out new.out) first_seen now
    all_made is (told checked e found (inl written)) =
        record { first = first; turns = turns; checked = checked; opens = opens_so; answered = subst (λ a. AreTurns first a turns) e answered; carried = carried; found = found; text = written }
    all_made is (told checked e found (inr short)) = let own = short.status_is in absurd (cc)
    all_made is (runs_out count e own none) = absurd (cc)

    cut_made : status ≡ WriteFault → EndsGen n (machine_after first turns) asked turns old.out new.out status → HasMadeAll n (λ outcome. IsCutShort outcome status old.out new.out) first_seen now
    cut_made is (told checked e found (inl written)) = let own = written.status_is in absurd (cc)
    cut_made is (told checked e found (inr short)) =
        record { first = first; turns = turns; checked = checked; opens = opens_so; answered = subst (λ a. AreTurns first a turns) e answered; carried = carried; found = found; text = short }
    cut_made is (runs_out count e own none) = absurd (cc)

    some_made : status ≡ Memory → EndsGen n (machine_after first turns) asked turns old.out new.out status → Takes old.out new.out [] × HasMadeSome n first_seen now
    some_made is (told checked e found (inl written)) = let own = written.status_is in absurd (cc)
    some_made is (told checked e found (inr short)) = let own = short.status_is in absurd (cc)
    some_made is (runs_out count e own none) =
        (none.taken, record { first = first; count = count; turns = turns; opens = opens_so; answered = subst (λ a. AreTurns first a turns) e answered; carried = carried })

  -- ---- from a run

  pub gen_unread : IsRun (Gen n) old new first_seen now status → now.script ≡ first_seen.script
  gen_unread (unopened (by_files left run)) = ap (λ (d : Devices). d.script) left
  gen_unread (unopened (unready s frames start asks unread fails)) = unread
  gen_unread (opened s frames first asked turns start asks opens sound answered carried ends) = ends.0

  not_done : (status ≡ Done) → comes_early status ≡ true → ⊥
  not_done is early = let own = ap comes_early is in absurd (cc)

  pub gen_done : status ≡ Done → IsRun (Gen n) old new first_seen now status → HasMadeAll n (λ outcome. IsWritten outcome status old.out new.out) first_seen now
  gen_done is (unopened (by_files left run)) = let own = (out_by_files run).0 in absurd (cc)
  gen_done is (unopened (unready s frames start asks unread fails)) = absurd (not_done is (unready_early s frames first_seen now old.out new.out status fails))
  gen_done is (opened s frames first asked turns start asks opens sound answered carried ends) = all_made s frames first asked turns start.0 start.1 opens answered carried is ends.1

  pub gen_cut : status ≡ WriteFault → IsRun (Gen n) old new first_seen now status → HasMadeAll n (λ outcome. IsCutShort outcome status old.out new.out) first_seen now ⊎ IsUnopened (Gen n) old new first_seen now status
  gen_cut is (unopened run) = inr run
  gen_cut is (opened s frames first asked turns start asks opens sound answered carried ends) = inl (cut_made s frames first asked turns start.0 start.1 opens answered carried is ends.1)

  nothing_so : status ≡ Memory → (status ≡ BusFault) ⊎ (status ≡ WriteFault) ⊎ ((status ≡ Memory) × Takes old.out new.out []) → Takes old.out new.out []
  nothing_so is (inl own) = absurd (cc)
  nothing_so is (inr (inl own)) = absurd (cc)
  nothing_so is (inr (inr out)) = out.1

  pub gen_memory : status ≡ Memory → IsRun (Gen n) old new first_seen now status → Takes old.out new.out [] × (IsUnopened (Gen n) old new first_seen now status ⊎ HasMadeSome n first_seen now)
  gen_memory is (unopened (by_files left run)) = ((out_by_files run).1, inl (by_files left run))
  gen_memory is (unopened (unready s frames start asks unread fails)) = (nothing_so is (fails_so s frames fails), inl (unready s frames start asks unread fails))
  gen_memory is (opened s frames first asked turns start asks opens sound answered carried ends) =
      let made = some_made s frames first asked turns start.0 start.1 opens answered carried is ends.1 in
      (made.0, inr made.1)

  -- one of four statuses
  abbrev pub EndsAsGen : Type 0
  EndsAsGen = (status ≡ Done) ⊎ (status ≡ WriteFault) ⊎ (status ≡ Memory) ⊎ (status ≡ BusFault)

  of_three : (status ≡ Done) ⊎ (status ≡ WriteFault) ⊎ (status ≡ Memory) → EndsAsGen
  of_three (inl is) = inl is
  of_three (inr (inl is)) = inr (inl is)
  of_three (inr (inr is)) = inr (inr (inl is))

  of_fails : (status ≡ BusFault) ⊎ (status ≡ WriteFault) ⊎ ((status ≡ Memory) × Takes old.out new.out []) → EndsAsGen
  of_fails (inl is) = inr (inr (inr is))
  of_fails (inr (inl is)) = inr (inl is)
  of_fails (inr (inr out)) = inr (inr (inl out.0))

  pub gen_others : IsRun (Gen n) old new first_seen now status → EndsAsGen
  gen_others (unopened (by_files left run)) = inr (inr (inl (out_by_files run).0))
  gen_others (unopened (unready s frames start asks unread fails)) = of_fails (fails_so s frames fails)
  gen_others (opened s frames first asked turns start asks opens sound answered carried ends) = of_three (gen_ended n (machine_after first turns) asked turns old.out new.out status ends.1)
