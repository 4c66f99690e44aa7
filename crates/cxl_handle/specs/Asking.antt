-- What a session by handle comes to that is asked one command as numbers and bytes (this project's rules).
use Rattle.std.specs.Prelude.{◌≡◌, ℕ, ◌≤◌, ◌⊎◌, true, Option, List, length, Ok}
use Rattle.std.specs.Option.{MatchOption}
use Rattle.cxl_held.specs.Asking.{HasTakenTurn, HasStayed}
use Rattle.cxl_held.specs.Sessions.{IsHeldAt}
use Rattle.cxl_held.specs.declared.held.Held.{Held}
use Rattle.cxl_machine.specs.Machine.{Machine}
use Rattle.cxl_machine.specs.Replies.{is_refusal}
use Rattle.cxl_machine.specs.Scripts.{Turn, TakesTurn}
use Rattle.cxl_reply.specs.declared.reply.Reply.{Reply}
use Rattle.cxl_script.specs.Grammar.{access_limit}
use Rattle.cxl_script.specs.declared.command.Command.{Command}
use Rattle.cxl_script.specs.declared.command.Command.TheVariants as commands
use Rattle.cxl_handle.specs.Owned.{HoldsSuch}
use Rattle.cxl_handle.specs.Replies.{refusal_of, TellsPlace, TellsHostByte, TellsBytes, TellsStored}
use Rattle.cxl_handle.specs.Told.{misused}
use Rattle.cxl_handle.specs.declared.facts.HostByteFact.{HostByteFact}
use Rattle.cxl_handle.specs.declared.facts.PlaceFact.{PlaceFact}
use Rattle.cxl_handle.specs.declared.facts.RefusalFact.{RefusalFact}

-- ---- one command

-- whatever machine it was at, a session answered a command by a turn from there on; a refusal left it as it was
pub record HasReplied (command : Command) (reply : Reply) (before after : Held) : Type 0 where
  pub turn : (m : Machine) → IsHeldAt before m → (turn : Turn) × TakesTurn m (Ok command) turn × HasTakenTurn turn reply before after
  pub refused : is_refusal reply ≡ true → HasStayed before after

-- a session answered a command, and its reply is told: so, and as a refusal
pub record IsReplyTold (command : Command) (Tells : Reply → Type 0) (told : RefusalFact) (before after : Held) : Type 0 where
  pub reply : Reply
  pub answered : HasReplied command reply before after
  pub tells : Tells reply
  pub refusal : told ≡ refusal_of reply

-- Nothing is asked, since there is no session, or nothing that it could be asked: status 1, and all stays, the refusal and the room of the
-- answer among it.
pub record IsUnasked (held next : Option Held) (code : ℕ) (refusal told : RefusalFact) (Stays : Type 0) : Type 0 where
  pub code_is : code ≡ misused
  pub session : next ≡ held
  pub refusal_is : told ≡ refusal
  pub room : Stays

-- memory ran out: status 9, and all stays but the words of the command before
pub record HasRunOut (code : ℕ) (refusal told : RefusalFact) (Stays : Type 0) (before after : Held) : Type 0 where
  pub code_is : code ≡ 9
  pub session : HasStayed before after
  pub refusal_is : told ≡ refusal
  pub room : Stays

-- ---- each command

-- a session, if there is one, is asked where a host address goes, and tells it
abbrev pub IsDownTold : ℕ → Option Held → Option Held → ℕ → PlaceFact → PlaceFact → RefusalFact → RefusalFact → Type 0
IsDownTold h held next code old new refusal told =
    MatchOption held (IsUnasked held next code refusal told (new ≡ old))
    (λ before. HoldsSuch next (IsReplyTold (commands.Down h) (λ reply. TellsPlace reply code old new) told before))

-- which host address goes to a byte of an endpoint's device
abbrev pub IsUpTold : List ℕ → ℕ → Option Held → Option Held → ℕ → HostByteFact → HostByteFact → RefusalFact → RefusalFact → Type 0
IsUpTold endpoint dpa held next code old new refusal told =
    MatchOption held (IsUnasked held next code refusal told (new ≡ old))
    (λ before. HoldsSuch next
    (IsReplyTold (commands.Up record { endpoint = endpoint; dpa = dpa }) (λ reply. TellsHostByte reply code old new) told before))

-- a load or a store has so many bytes
abbrev pub IsAccess : ℕ → Type 0
IsAccess len = (1 ≤ len) × (len ≤ access_limit)

-- the bytes from a host address on, as many as the room has
abbrev pub IsLoadTold : ℕ → Option Held → Option Held → ℕ → List ℕ → List ℕ → RefusalFact → RefusalFact → Type 0
IsLoadTold h held next code old new refusal told =
    MatchOption held (IsUnasked held next code refusal told (new ≡ old))
    (λ before. HoldsSuch next (λ after.
    IsReplyTold (commands.Load record { h = h; len = length old }) (λ reply. TellsBytes reply code old new) told before after
    ⊎ HasRunOut code refusal told (new ≡ old) before after))

-- to put bytes from a host address on
abbrev pub IsStoreTold : ℕ → List ℕ → Option Held → Option Held → ℕ → RefusalFact → RefusalFact → Type 0
IsStoreTold h bytes held next code refusal told =
    MatchOption held (IsUnasked held next code refusal told (Unit {0}))
    (λ before. HoldsSuch next (λ after.
    IsReplyTold (commands.Store record { h = h; bytes = bytes }) (λ reply. TellsStored reply code) told before after
    ⊎ HasRunOut code refusal told (Unit {0}) before after))
