-- What lines come to over registers that never fail, and that are told of by no trail.
use Rattle.std.proofs.Common.{◌≡◌, ℕ, true, List, [], length, None, Some, refl, sym, ap, subst, arith}
use Rattle.std.proofs.lemmas.List.{nil_from_length}
use Rattle.cxl_bus.specs.RegsState.{RegsState}
use Rattle.cxl_enc.specs.Faults.{CountsExactly}
use Rattle.cxl_machine.specs.Machine.{Machine}
use Rattle.cxl_machine.specs.Scripts.{Asked, Turn}
use Rattle.cxl_machine.specs.Sound.{IsSound}
use Rattle.cxl_machine.specs.Turns.{machine_after, failed_in}
use Rattle.cxl_media.specs.MediaState.{MediaState}
use Rattle.cxl_media.specs.Sim.{shipped_state}
use Rattle.cxl_regs.specs.Registers.{Registers}
use Rattle.cxl_session.specs.State.{SessionState}
use Rattle.cxl_session.specs.Standing.{IsAt, Stands}
use Rattle.cxl_turns.specs.Going.{HasGoneOn}
use Rattle.cxl_held.specs.Sessions.{HasPassedOver}
use Rattle.cxl_held.specs.Trails.{Trailed, trailed_state, untrailed}
use Rattle.cxl_held.specs.declared.held.Held.{Held}

-- the simulator's registers with these blocks
abbrev pub sim : List Registers → RegsState
sim blocks = record { blocks = blocks; trail = None; failed_at = Some []; faults = 0; counts_failures_alone = true }

-- ---- no call failed

counted_none : (n : ℕ) → CountsExactly n true 0 0 → n ≡ 0
counted_none n counted = let is = counted refl in omega (arith, is)

none_failed : (places : List ℕ) → CountsExactly (length places) true 0 0 → places ≡ []
none_failed places counted = nil_from_length places (counted_none (length places) counted)

-- ---- the trail is not among what a session stands for

module _ (session : SessionState) (bus : Trailed) (blocks : List Registers) (media : MediaState) (same : blocks ≡ bus.blocks) where
  pub at_sim : (m : Machine) → IsAt session (trailed_state bus) media m → IsAt session (sim blocks) media m
  at_sim m at = record { stands = at.stands; sound = subst (λ (b : List Registers). IsSound m b media) (sym same) at.sound }

  pub stands_sim : Stands session (trailed_state bus) media → Stands session (sim blocks) media
  stands_sim kept = (kept.0, at_sim kept.0 kept.1)

-- ---- behind all lines

module _ (held : Held) (session : SessionState) (blocks : List Registers) where
  pub at_held : (m : Machine) → held.session ≡ session → held.regs ≡ untrailed blocks
      → IsAt session (sim blocks) (shipped_state held.media) m → IsAt held.session (trailed_state held.regs) (shipped_state held.media) m
  at_held m same regs at =
      subst (λ (s : SessionState). IsAt s (trailed_state held.regs) (shipped_state held.media) m) (sym same)
      (subst (λ (bus : Trailed). IsAt session (trailed_state bus) (shipped_state held.media) m) (sym regs) (record { stands = at.stands; sound = at.sound }))

  pub passed_over : (m : Machine) (asked : List Asked) (turns : List Turn) (old : List Registers) → held.session ≡ session → held.regs ≡ untrailed blocks
      → HasGoneOn m asked turns session (sim old) (sim blocks) (shipped_state held.media) → HasPassedOver m asked turns held
  passed_over m asked turns old same regs gone = record {
    answered = gone.answered;
    at = at_held (machine_after m turns) same regs gone.at;
    unfailed = none_failed (failed_in turns) gone.fails.counted;
    words = ap (λ (bus : Trailed). bus.trail) regs;
  }
