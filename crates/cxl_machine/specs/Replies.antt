-- An answer: a reply and the machine after it; and the refusals that several commands share (this project's rules).
use Rattle.std.specs.Prelude.{◌≡◌, ℕ, ◌+◌, nat_le, Bool, true, false, if◌then◌else◌, List}
use Rattle.std.specs.Option.{option_map_or}
use Rattle.cxl_model.specs.declared.found.Found.{Found}
use Rattle.cxl_reply.specs.declared.reply.Reply.{Reply}
use Rattle.cxl_reply.specs.declared.reply.Reply.TheVariants as replies
pub use Rattle.cxl_topo.specs.Tree.{endpoint_named}
use Rattle.cxl_machine.specs.Machine.{Live, Machine, live_named, live_at}
use Rattle.cxl_machine.specs.Outcomes.{BusOutcome, NoFault}

-- a reply, and the next machine
pub record Answer : Type 0 where
  pub reply : Reply
  pub machine : Machine

-- the machine after it is this one
abbrev pub becomes : Machine → Reply → Answer
becomes m reply = record { reply = reply; machine = m }

-- it is the one before it
abbrev pub stays : Machine → Reply → Answer
stays m reply = becomes m reply

-- no call of the bus failed, and the command is answered so
pub record Gives (outcome : BusOutcome) (answer given : Answer) : Type 0 where
  pub unfailing : outcome ≡ NoFault
  pub told : answer ≡ given

-- ---- regions by name

-- the answer for the live region of a name, where there is one
abbrev pub at_name : Machine → List ℕ → (Live → Answer) → Answer
at_name m name answer = option_map_or answer (live_named m name) (stays m (replies.NoRegion name))

-- ---- host addresses

-- the answer for the live region that holds a host address, where there is one
abbrev pub at_host : Machine → ℕ → (Live → Answer) → Answer
at_host m h answer = option_map_or answer (live_at m h) (stays m replies.Unmapped)

-- so many bytes from a host address on end in the region
abbrev pub ends_within : Found → ℕ → ℕ → Bool
ends_within found h len = nat_le (h + len) (found.base + found.size)

-- the answer for so many bytes from a host address on, where they lie in one live region
abbrev pub within_region : Machine → ℕ → ℕ → (Live → Answer) → Answer
within_region m h len answer =
    at_host m h (λ region. if ends_within region.found h len then answer region else stays m replies.CrossesEnd)

-- ---- refusals

-- A refused command changes nothing. A job that is left pending is no refusal.
abbrev pub is_refusal : Reply → Bool
is_refusal (replies.BadLine fault) = true
is_refusal (replies.Busy name) = true
is_refusal (replies.NameTaken name) = true
is_refusal (replies.NoRegion name) = true
is_refusal (replies.NoEndpoint name) = true
is_refusal replies.RegionsFull = true
is_refusal (replies.Full lack) = true
is_refusal (replies.Locked spot) = true
is_refusal (replies.NotLast spot) = true
is_refusal replies.Unmapped = true
is_refusal replies.CrossesEnd = true
is_refusal (replies.Refused fault) = true
is_refusal replies.NoSet = true
is_refusal (replies.SameRegion name) = true
is_refusal (replies.SizesDiffer sizes) = true
is_refusal replies.PoisonShort = true
is_refusal (replies.PoisonCount counted) = true
is_refusal replies.BusUndone = true
is_refusal replies.BusRead = true
is_refusal replies.NothingPending = true
is_refusal other = false
