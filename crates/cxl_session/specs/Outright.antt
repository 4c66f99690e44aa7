-- Which commands are refused outright: by names, addresses, the decoders of a region or the job that is pending, which are read where
-- they stand, so that no memory is needed to refuse them (this project's rule).
use Rattle.std.specs.Prelude.{◌≡◌, Bool, true, false, is_some, is_none, Result, IsOk}
use Rattle.cxl_enc.specs.declared.faults.Memory.{Memory}
use Rattle.cxl_script.specs.declared.command.Command.{Command}
use Rattle.cxl_script.specs.declared.command.Command.TheVariants as commands
use Rattle.cxl_machine.specs.Machine.{Machine}
use Rattle.cxl_machine.specs.Accesses.{load_answer, range_answer, spread_answer}
use Rattle.cxl_machine.specs.Copies.{move_answer}
use Rattle.cxl_machine.specs.Regions.{begin_answer}
use Rattle.cxl_machine.specs.Replies.{is_refusal, endpoint_named}
use Rattle.cxl_machine.specs.Reports.{show_answer}
use Rattle.cxl_machine.specs.Requests.{refusal_of_create, asked_release}
use Rattle.cxl_machine.specs.Sound.{IsMachine}
use Rattle.cxl_session.specs.State.{SessionState}
use Rattle.cxl_session.specs.Standing.{StandsFor}

-- All refusals but those of a plan that is sought, of a poison list's bytes, and of a copy that lacks frames, whose pieces are counted; a
-- copy is refused outright where a move is.
abbrev pub is_refused_outright : Machine → Command → Bool
is_refused_outright m (commands.Create create) = is_some (refusal_of_create m create)
is_refused_outright m (commands.BeginCreate create) = is_some (refusal_of_create m create)
is_refused_outright m (commands.Destroy name) = is_refusal (begin_answer m (asked_release m name)).reply
is_refused_outright m (commands.BeginDestroy name) = is_refusal (begin_answer m (asked_release m name)).reply
is_refused_outright m (commands.Show name) = is_refusal (show_answer m name).reply
is_refused_outright m (commands.Load load) = is_refusal (load_answer m load).reply
is_refused_outright m (commands.Range reach) = is_refusal (range_answer m reach).reply
is_refused_outright m (commands.Spread reach) = is_refusal (spread_answer m reach).reply
is_refused_outright m (commands.Poison poison) = is_none (endpoint_named m.settled.nodes poison.endpoint)
is_refused_outright m (commands.Copy pair) = is_refusal (move_answer m pair).reply
is_refused_outright m (commands.Move pair) = is_refusal (move_answer m pair).reply
is_refused_outright m command = false

-- a command that is refused outright is answered, and never want of memory
abbrev pub OwesRefusal : {T : Type 0} → SessionState → Command → Result T Memory → Type 0
OwesRefusal session command result =
    (m : Machine) → StandsFor session m → IsMachine m → is_refused_outright m command ≡ true → IsOk result
