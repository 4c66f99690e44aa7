-- A session behind one command stands for a machine: that of its turn, or the one that it was at.
use Rattle.std.proofs.Common.{◌≡◌, Result, Ok, Err, sym, subst}
use Rattle.std.specs.Prelude.{IfOk, OnErr}
use Rattle.cxl_bus.specs.RegsState.{RegsState, IsUntouched}
use Rattle.cxl_machine.specs.Machine.{Machine}
use Rattle.cxl_machine.specs.Scripts.{Asked, Turn, TakesTurn}
use Rattle.cxl_machine.specs.Sound.{IsSound}
use Rattle.cxl_media.specs.MediaState.{MediaState}
use Rattle.cxl_reply.specs.declared.reply.Reply.{Reply}
use Rattle.cxl_session.specs.State.{SessionState}
use Rattle.cxl_session.specs.Standing.{IsAt, Stands, StandsFor, ForEachMachine, HasTaken}

module _ {E : Type 0} (old new : SessionState) (before after : RegsState) (media held : MediaState) (asked : Asked) (m : Machine) (at : IsAt old before media m) where
  pub stands_behind : (answer : Result Reply E)
      → IfOk answer (λ reply. ForEachMachine old before media (λ m. (turn : Turn) × TakesTurn m asked turn × HasTaken turn reply new before after held))
      → OnErr answer ((new ≡ old) × IsUntouched before after × (held ≡ media)) → Stands new after held
  stands_behind (Ok reply) answered other = let turn = answered m at in (turn.0.machine, turn.2.at)
  stands_behind (Err fault) answered other = (
    m,
    record {
      stands = subst (λ (session : SessionState). StandsFor session m) (sym other.0) at.stands;
      sound = subst (λ blocks. IsSound m blocks held) (sym other.1.blocks) (subst (λ (bytes : MediaState). IsSound m before.blocks bytes) (sym other.2) at.sound);
    },
  )
