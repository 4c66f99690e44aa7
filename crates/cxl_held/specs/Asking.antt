-- What one command on a session that is kept comes to.
use Rattle.std.specs.Prelude.{◌≡◌}
use Rattle.cxl_machine.specs.Scripts.{Turn}
use Rattle.cxl_media.specs.Sim.{shipped_state}
use Rattle.cxl_reply.specs.declared.reply.Reply.{Reply}
use Rattle.cxl_session.specs.Standing.{HasTaken}
use Rattle.cxl_held.specs.Trails.{trailed_state, emptied}
use Rattle.cxl_held.specs.declared.held.Held.{Held}

-- it took this turn, with this reply, and its trail has the words of that turn and no other
abbrev pub HasTakenTurn : Turn → Reply → Held → Held → Type 0
HasTakenTurn turn reply old new =
    HasTaken turn reply new.session (trailed_state (emptied old.regs)) (trailed_state new.regs) (shipped_state new.media)

-- session, registers and device memory are as they were
pub record HasStayed (old new : Held) : Type 0 where
  pub session : new.session ≡ old.session
  pub blocks : new.regs.blocks ≡ old.regs.blocks
  pub media : shipped_state new.media ≡ shipped_state old.media
