-- The turn of one command, by what the part of the session that carries it out says.
use Rattle.std.proofs.Common.{◌≡◌, ℕ, [], Result, Ok, Err, refl, sym, ap, ◌∙◌, subst}
use Rattle.std.specs.Prelude.{true, false, IsOk, IfOk, IfErr, OnOk, OnErr}
use Rattle.cxl_enc.specs.declared.faults.Memory.{Memory}
use Rattle.cxl_bus.proofs.Failed.{fails_nowhere}
use Rattle.cxl_bus.specs.RegsState.{RegsState, IsUntouched}
use Rattle.cxl_bus.proofs.Trails.{trail_nothing}
use Rattle.cxl_media.specs.MediaState.{MediaState}
use Rattle.cxl_script.specs.declared.command.Command.{Command}
use Rattle.cxl_script.specs.declared.command.Command.TheVariants as commands
use Rattle.cxl_script.specs.declared.command.Load.{Load}
use Rattle.cxl_script.specs.declared.command.Store.{Store}
use Rattle.cxl_script.specs.declared.command.Up.{Up}
use Rattle.cxl_reply.specs.declared.reply.Reply.{Reply}
use Rattle.cxl_machine.specs.Machine.{Machine}
use Rattle.cxl_machine.specs.Answers.{Answers}
use Rattle.cxl_machine.specs.Outcomes.{NoFault}
use Rattle.cxl_machine.specs.Memory.{takes_memory}
use Rattle.cxl_machine.specs.Replies.{Answer, is_refusal, stays}
use Rattle.cxl_machine.specs.Sound.{IsMachine}
use Rattle.cxl_machine.specs.Trails.{TrailOf}
use Rattle.cxl_machine.proofs.Fails.{no_call_fails}
use Rattle.cxl_session.specs.State.{SessionState}
use Rattle.cxl_session.specs.Standing.{StandsFor, IsAt, HoldsMemory, Stands}
use Rattle.cxl_session.specs.Outright.{OwesRefusal}
use Rattle.cxl_session.specs.inner.Answering.{is_access, StandsSomehow, HoldsMachine, HoldsSome, IsWrittenFor, IsTurnFor}
use Rattle.cxl_session.proofs.Turns.{still}

-- ---- where they stand for a machine

pub holds_at : (session : SessionState) (regs : RegsState) (media : MediaState) (m : Machine) → IsAt session regs media m → HoldsMachine session media m
holds_at session regs media m at = record { stands = at.stands; machine = at.sound.machine; memory = at.sound.memory; frames = at.sound.frames }

module _ (session : SessionState) (regs : RegsState) (media : MediaState) (stands : Stands session regs media) where
  pub image_held : session.image ≡ regs.blocks
  image_held = stands.1.stands.image ∙ sym stands.1.sound.registers

  pub some_machine : (m : Machine) × StandsFor session m × IsMachine m
  some_machine = (stands.0, stands.1.stands, stands.1.sound.machine)

  pub somehow : StandsSomehow session media
  somehow = (stands.0, stands.1.stands, stands.1.sound.machine, stands.1.sound.memory)

  pub holds_some : HoldsSome session media
  holds_some = (stands.0, holds_at session regs media stands.0 stands.1)

-- ---- by the command

module _ (session next : SessionState) (old new : RegsState) (media left : MediaState) (command other : Command) where
  pub of_command : (reply : Reply) → command ≡ other → IsTurnFor session next old new media left other reply → IsTurnFor session next old new media left command reply
  of_command reply is turn = subst (λ (one : Command). IsTurnFor session next old new media left one reply) (sym is) turn

  pub of_result : (result : Result Reply Memory) → command ≡ other → IfOk result (IsTurnFor session next old new media left other) → IfOk result (IsTurnFor session next old new media left command)
  of_result result is turn = subst (λ (one : Command). IfOk result (IsTurnFor session next old new media left one)) (sym is) turn

  -- the reply is put in the place of an earlier one
  pub of_reply : (reply told : Reply) → IsTurnFor session next old new media left other told → reply ≡ told → IsTurnFor session next old new media left other reply
  of_reply reply told turn same = subst (λ (one : Reply). IsTurnFor session next old new media left other one) (sym same) turn

-- a refusal that is put there is one
pub refusal_told : (reply told : Reply) → is_refusal reply ≡ true → reply ≡ told → is_refusal told ≡ true
refusal_told reply told is same = subst (λ (one : Reply). is_refusal one ≡ true) same is

-- ---- turns without a call of the bus

module _ (session : SessionState) (regs : RegsState) (command : Command) (silent : (m : Machine) → TrailOf m command NoFault []) where
  -- a command that reads
  pub read_turn : (media : MediaState) (reply : Reply) → ((m : Machine) → StandsFor session m → IsMachine m → HoldsMemory m media → Answers m command NoFault (stays m reply))
      → IsTurnFor session session regs regs media media command reply
  read_turn media reply given = still session regs media command reply (λ m at. (given m at.stands at.sound.machine at.sound.memory, silent m))

  -- a command that writes media; the registers stay, and hold the next machine too
  pub write_turn : (old new : MediaState) (reply : Reply) (answer : Machine → Answer) → ((m : Machine) → Answers m command NoFault (answer m)) → IsWrittenFor session old new answer reply
      → IsTurnFor session session regs regs old new command reply
  write_turn old new reply answer given written m at =
      let own = written m (holds_at session regs old m at) in
      let left = own.holds in (
        record { reply = (answer m).reply; machine = (answer m).machine; trail = []; failed = [] },
        (NoFault, given m, silent m, no_call_fails m command [] (silent m)),
        record {
          told = sym own.told;
          at = record {
            stands = left.stands;
            sound = record {
              machine = left.machine;
              registers = at.sound.registers ∙ sym at.stands.image ∙ left.stands.image;
              memory = left.memory;
              frames = left.frames;
            };
          };
          words = trail_nothing regs.trail;
          fails = fails_nowhere regs;
        },
      )

-- ---- what else is known after a turn

module _ (session next : SessionState) (old new : RegsState) (media left : MediaState) (command : Command) where
  pub image_after : (reply : Reply) → Stands session old media → IsTurnFor session next old new media left command reply → next.image ≡ new.blocks
  image_after reply stands turn = let taken = turn stands.0 stands.1 in image_held next new left (taken.0.machine, taken.2.at)

  -- want of memory leaves the registers as they are
  pub image_after_result : (result : Result Reply Memory) → Stands session old media → IfOk result (IsTurnFor session next old new media left command)
      → OnErr result ((next ≡ session) × (new ≡ old)) → next.image ≡ new.blocks
  image_after_result (Ok reply) stands turn same = image_after reply stands turn
  image_after_result (Err memory) stands turn same =
      ap (λ (s : SessionState). s.image) same.0 ∙ image_held session old media stands ∙ ap (λ (regs : RegsState). regs.blocks) (sym same.1)

pub untouched_by : (old new : RegsState) → new ≡ old → IsUntouched old new
untouched_by old new same = record {
  blocks = ap (λ (regs : RegsState). regs.blocks) same;
  trail = ap (λ (regs : RegsState). regs.trail) same;
  alone = ap (λ (regs : RegsState). regs.counts_failures_alone) same;
}

-- what takes memory owes no answer
pub owes_none : {T : Type 0} (command other : Command) (result : Result T Memory) → command ≡ other → takes_memory other ≡ true → takes_memory command ≡ false → IsOk result
owes_none command other result is takes none = let same = ap takes_memory is in absurd (cc)

-- what is refused outright is answered, whatever the command is called
pub owes_same : {T : Type 0} (session : SessionState) (command other : Command) (result : Result T Memory) → command ≡ other → OwesRefusal session other result → OwesRefusal session command result
owes_same session command other result is owes = subst (λ (one : Command). OwesRefusal session one result) (sym is) owes

-- ---- what holds of each reply, or of each error

module _ {T E : Type 0} where
  pub ok_always : (result : Result T E) (P : T → Type 0) → ((x : T) → P x) → IfOk result P
  ok_always (Ok x) P all = all x
  ok_always (Err e) P all = tt

  pub on_ok_always : (result : Result T E) {P : Type 0} → P → OnOk result P
  on_ok_always (Ok x) all = all
  on_ok_always (Err e) all = tt

  pub err_always : (result : Result T E) (P : E → Type 0) → ((e : E) → P e) → IfErr result P
  err_always (Ok x) P all = tt
  err_always (Err e) P all = all e

-- a command that is none of the four accesses
pub no_access : (command : Command) → ((load : Load) → command ≡ commands.Load load → ⊥) → ((store : Store) → command ≡ commands.Store store → ⊥) → ((h : ℕ) → command ≡ commands.Down h → ⊥) → ((up : Up) → command ≡ commands.Up up → ⊥) → is_access command ≡ false
no_access (commands.Load load) not_load not_store not_down not_up = absurd (not_load load refl)
no_access (commands.Store store) not_load not_store not_down not_up = absurd (not_store store refl)
no_access (commands.Down h) not_load not_store not_down not_up = absurd (not_down h refl)
no_access (commands.Up up) not_load not_store not_down not_up = absurd (not_up up refl)
no_access command not_load not_store not_down not_up = refl
