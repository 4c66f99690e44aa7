-- A run over bytes of the caller, from what `run` ensures.
use Rattle.std.proofs.Common.{◌≡◌, ℕ, List, [], ◌∷◌, take, true, Some, None, Option, ap, subst, refl, arith, ◌⊎◌, inl, inr}
use Rattle.std.specs.FinMap as map
use Rattle.cxl_enc.specs.Faults.{Rose}
use Rattle.cxl_commands.specs.Form.{Form}
use Rattle.cxl_commands.specs.Outside.{outside}
use Rattle.cxl_inputs.specs.declared.status.Status.{Status}
use Rattle.cxl_inputs.specs.declared.status.Status.TheVariants as statuses
use Rattle.cxl_io.specs.Fetch.{FetchState}
use Rattle.cxl_io.specs.Sink.{SinkState}
use Rattle.cxl_media.specs.MediaState.{MediaState}
use Rattle.cxl_regs.specs.Registers.{Registers}
use Rattle.cxl_shell.specs.Completeness.{IsReady, IsAnsweredWhole}
use Rattle.cxl_shell.specs.Devices.{Devices, devices}
use Rattle.cxl_shell.specs.Headline.{BehavesAsFlatMemory}
use Rattle.cxl_shell.specs.Run.{IsRun}
use Rattle.cxl_library.specs.Answered.{IsRunFrom, IsRunOver, devices_of, off_regs}
use Rattle.cxl_library.specs.Rooms.{sink_of, room_state}
use Rattle.cxl_library.specs.Slices.{Slices, files_of, source_of}
use Rattle.cxl_library.specs.declared.room.TextRoom.{TextRoom}
use Rattle.cxl_library.proofs.Growing.{HasGrown, run_grows}

abbrev pub first_of : Option (List ℕ) → ℕ
first_of None = 0
first_of (Some []) = 0
first_of (Some (mark ∷ bytes)) = mark

-- the devices of a run before they are powered on
pub same_devices : (script bytes : List ℕ) (blocks : List Registers) (media : MediaState) → bytes ≡ script → blocks ≡ [] → media.blocks ≡ map.empty → media.free ≡ 0
    → devices (source_of bytes) (record off_regs { blocks = blocks }) media ≡ devices_of script
same_devices script bytes blocks media s b m f =
    λ i. devices (source_of (s i)) (record off_regs { blocks = b i }) (record { blocks = m i; free = f i })

-- what `run` ensures, over a sink that was never failing so far, is a run from sink to sink
pub run_from : (form : Form) (files : Slices) (before after : Devices) (status : Status) (old new : SinkState) (files_after : FetchState)
    → IsRun form (outside (files_of files) old) (outside files_after new) before after status
    → BehavesAsFlatMemory form (outside (files_of files) old) (outside files_after new) before after status
    → (IsReady form (files_of files) before.script → ¬ (Rose 0 files_after.faults) → ¬ (Rose before.script.faults after.script.faults) → ¬ (Rose old.faults new.faults)
    → (status ≡ statuses.Memory) ⊎ ((status ≡ statuses.BusFault) × Rose before.regs.faults after.regs.faults)
    ⊎ IsAnsweredWhole form (outside (files_of files) old) (outside files_after new) before after status)
    → files_after.faults ≡ 0 → before.script.faults ≡ 0 → after.script.faults ≡ 0 → before.regs.faults ≡ 0 → after.regs.faults ≡ 0
    → old.counts_failures_alone ≡ true → old.faults ≡ 0 → IsRunFrom form files before status old new
run_from form files before after status old new files_after run flat complete f s s' r r' alone none =
    record {
      outside_after = outside files_after new;
      after = after;
      run = run;
      flat = flat;
      calm = (f, s', r');
      out_is = refl;
      whole = λ ready other.
          let same : new.faults ≡ old.faults = (run_grows form _ _ before after status run).quiet other alone in
          elim (complete ready (λ rose. omega (arith, rose, f)) (λ rose. omega (arith, rose, s, s')) (λ rose. omega (arith, rose, same, none))) [
            | inl is ↦ inl is
            | inr (inl bus) ↦ absurd (let rose = bus.1 in omega (arith, rose, r, r'))
            | inr (inr done) ↦ inr done
          ];
    }

pub room_grows : (form : Form) (files : Slices) (before : Devices) (status : Status) (old new : SinkState) → IsRunFrom form files before status old new
    → HasGrown status old new
room_grows form files before status old new run = subst (HasGrown status old) run.out_is (run_grows form _ _ before run.after status run.run)

module _ (form : Form) (files : Slices) (script : List ℕ) (status : Status) (mark : ℕ) (room : TextRoom) where
  -- a run into a room that had taken nothing is one into the same room
  pub same_room : HasGrown status (sink_of (mark ∷ [])) (room_state room) → room.bytes.ghost_name ≡ mark
  same_room grown = ap first_of grown.taken

  pub run_over : IsRunFrom form files (devices_of script) status (sink_of (mark ∷ [])) (room_state room)
      → IsRunOver form files script status (take room.taken room.bytes.now)
  run_over run =
      record {
        before = mark ∷ [];
        new = room_state room;
        run = run;
        written = ap (λ m. Some (m ∷ take room.taken room.bytes.now)) (same_room (room_grows form files _ status _ _ run));
      }
