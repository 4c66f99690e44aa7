-- What a region's registers are shown as, and what a poison list touches (this project's rules).
use Rattle.std.specs.Prelude.{◌≡◌, ℕ, List, map, take, Some, None, IsSome}
use Rattle.std.specs.List.{AllZip}
use Rattle.cxl_regs.specs.Words.{words_of}
use Rattle.cxl_script.specs.declared.command.Poison.{Poison}
use Rattle.cxl_model.specs.declared.plan.Row.{Row}
use Rattle.cxl_model.specs.declared.found.Found.{Found}
use Rattle.cxl_model.specs.declared.poison.Entry.{Entry}
use Rattle.cxl_model.specs.declared.poison.Poisoned.{Poisoned}
use Rattle.cxl_model.specs.declared.poison.PoisonList.{PoisonList}
use Rattle.cxl_poison.specs.declared.fault.PoisonFault.TheVariants.{Short, Count}
use Rattle.cxl_poison.specs.declared.fault.Said.{Said}
use Rattle.cxl_apply.specs.Releases.{rows_of}
use Rattle.cxl_reply.specs.declared.reply.Reply.{Reply}
use Rattle.cxl_reply.specs.declared.reply.Reply.TheVariants as replies
use Rattle.cxl_reply.specs.declared.details.Shown.{Shown}
use Rattle.cxl_reply.specs.declared.details.ShownRow.{ShownRow}
use Rattle.cxl_machine.specs.Machine.{Live, Machine, live_named}
use Rattle.cxl_machine.specs.Outcomes.{BusOutcome, NoFault, Undone, LeftPending, ReadFailed}
use Rattle.cxl_machine.specs.Elsewhere.{IsPoisonPayload, IsPoisonFault, ArePoisonedPieces}
use Rattle.cxl_machine.specs.Replies.{Answer, stays, at_name, endpoint_named}

-- ---- registers

-- the seven words of a decoder from base low to tail high
abbrev pub shown_row : Row → ShownRow
shown_row row = record { node = row.node; decoder = row.index; words = take 7 (words_of row.decoder) }

-- of each node of the region in rising order
abbrev pub shown : Machine → Live → Shown
shown m region =
    record { name = region.name; found = region.found; rows = map shown_row (rows_of m.settled region.found) }

-- a live region with the words of its decoders
abbrev pub show_answer : Machine → List ℕ → Answer
show_answer m name = at_name m name (λ region. stays m (replies.Shown (shown m region)))

-- the words are told, or a read failed where there is a region to show
abbrev pub AnswersShow : Machine → List ℕ → BusOutcome → Answer → Type 0
AnswersShow m name NoFault answer = answer ≡ show_answer m name
AnswersShow m name Undone answer = ⊥
AnswersShow m name (LeftPending done) answer = ⊥
AnswersShow m name ReadFailed answer = IsSome (live_named m name) × (answer ≡ stays m replies.BusRead)

-- ---- poison

-- the live regions in the order in which they were made, and their names
abbrev pub live_regions : Machine → List Found
live_regions m = map (λ (region : Live). region.found) m.live

-- the names of the live regions
abbrev pub live_names : Machine → List (List ℕ)
live_names m = map (λ (region : Live). region.name) m.live

-- a record of an endpoint's poison list touches these pieces of the live regions
abbrev pub TouchesLive : Machine → ℕ → Entry → Poisoned → Type 0
TouchesLive m endpoint entry poisoned = ArePoisonedPieces entry endpoint (live_regions m) m.settled.windows poisoned

-- a list, with what its records touch one by one
abbrev pub poison_reply : Machine → ℕ → PoisonList → List Poisoned → Reply
poison_reply m endpoint list pieces =
    replies.Poison record { endpoint = endpoint; list = list; pieces = pieces; names = live_names m }

-- The bytes of a poison list are told with what each of its records touches; or they are too short for one, or have room for
-- fewer records than they say.
pub data TellsPoison (m : Machine) (endpoint : ℕ) (bytes : List ℕ) (reply : Reply) : Type 0 where
  listed : (list : PoisonList) (pieces : List Poisoned) → IsPoisonPayload bytes list → AllZip (TouchesLive m endpoint) list.records pieces → reply ≡ poison_reply m endpoint list pieces → TellsPoison m endpoint bytes reply
  short : IsPoisonFault bytes Short → reply ≡ replies.PoisonShort → TellsPoison m endpoint bytes reply
  few : (said : Said) → IsPoisonFault bytes (Count said) → reply ≡ replies.PoisonCount record { said = said.said; room = said.room } → TellsPoison m endpoint bytes reply

-- what a poison list of an endpoint is answered
pub data AnswersPoison (m : Machine) (poison : Poison) (answer : Answer) : Type 0 where
  no_endpoint : endpoint_named m.settled.nodes poison.endpoint ≡ None → answer ≡ stays m (replies.NoEndpoint poison.endpoint) → AnswersPoison m poison answer
  told : (endpoint : ℕ) (reply : Reply) → endpoint_named m.settled.nodes poison.endpoint ≡ Some endpoint → TellsPoison m endpoint poison.bytes reply → answer ≡ stays m reply → AnswersPoison m poison answer
