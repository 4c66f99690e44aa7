-- Turns that leave session, registers and media as they are.
use Rattle.std.proofs.Common.{◌≡◌, true, false, [], Result, Ok, Err, refl, sym, subst}
use Rattle.std.specs.Prelude.{OnOk, OnErr}
use Rattle.std.specs.Result.{is_ok, is_err}
use Rattle.std.proofs.lemmas.Bool.{false≢true}
use Rattle.cxl_bus.proofs.Failed.{fails_nowhere}
use Rattle.cxl_bus.specs.RegsState.{RegsState}
use Rattle.cxl_bus.proofs.Trails.{trail_nothing}
use Rattle.cxl_media.specs.MediaState.{MediaState}
use Rattle.cxl_script.specs.declared.command.Command.{Command}
use Rattle.cxl_reply.specs.declared.reply.Reply.{Reply}
use Rattle.cxl_machine.specs.Machine.{Machine}
use Rattle.cxl_machine.specs.Answers.{Answers}
use Rattle.cxl_machine.specs.Outcomes.{NoFault}
use Rattle.cxl_machine.specs.Replies.{stays}
use Rattle.cxl_machine.specs.Trails.{TrailOf}
use Rattle.cxl_machine.proofs.Fails.{no_call_fails}
use Rattle.cxl_session.specs.State.{SessionState}
use Rattle.cxl_session.specs.Standing.{IsAt}
use Rattle.cxl_session.specs.inner.Answering.{IsTurnFor}

-- a turn at which nothing changes
pub still : (session : SessionState) (regs : RegsState) (media : MediaState) (command : Command) (reply : Reply)
    → ((m : Machine) → IsAt session regs media m → Answers m command NoFault (stays m reply) × TrailOf m command NoFault []) → IsTurnFor session session regs regs media media command reply
still session regs media command reply given m at = (
  record { reply = reply; machine = m; trail = []; failed = [] },
  (NoFault, (given m at).0, (given m at).1, no_call_fails m command [] (given m at).1),
  record { told = refl; at = at; words = trail_nothing regs.trail; fails = fails_nowhere regs },
)

-- ---- by the answer of the bus

pub on_err : {T E P : Type 0} (r : Result T E) → is_err r ≡ true → OnErr r P → P
on_err (Ok x) is holds = absurd (false≢true is)
on_err (Err e) is holds = holds

pub on_ok : {T E P : Type 0} (r : Result T E) → is_err r ≡ false → OnOk r P → P
on_ok (Ok x) is holds = holds
on_ok (Err e) is holds = absurd (false≢true (sym is))

-- what `is_ok` tells is what `is_err` does not
pub on_pass : {T E : Type 0} (r : Result T E) → is_ok r ≡ true → is_err r ≡ false
on_pass (Ok x) is = refl
on_pass (Err e) is = absurd (false≢true is)

pub on_fail : {T E : Type 0} (r : Result T E) → is_ok r ≡ false → is_err r ≡ true
on_fail (Ok x) is = absurd (false≢true (sym is))
on_fail (Err e) is = refl

-- ---- the same session and the same reply

module _ (session next : SessionState) (old new : RegsState) (media left : MediaState) (command : Command) (reply other : Reply) where
  pub same_turn : (after : SessionState) → next ≡ after → reply ≡ other → IsTurnFor session after old new media left command other → IsTurnFor session next old new media left command reply
  same_turn after is told turn =
      subst (λ (s : SessionState). IsTurnFor session s old new media left command reply) (sym is)
      (subst (λ (r : Reply). IsTurnFor session after old new media left command r) (sym told) turn)
