-- Loads and stores, and where host bytes lie: answers from the flat bytes of regions and from their dealing (this project's
-- rules).
use Rattle.std.specs.Prelude.{◌≡◌, ℕ, ◌+◌, ◌-◌, nat_lt, if◌then◌else◌, List, ◌++◌, map, length, replicate, slice_get, Contains, Some, None}
use Rattle.std.specs.Option.{option_map_or}
use Rattle.cxl_script.specs.declared.command.Load.{Load}
use Rattle.cxl_script.specs.declared.command.Store.{Store}
use Rattle.cxl_script.specs.declared.command.Reach.{Reach}
use Rattle.cxl_script.specs.declared.command.Up.{Up}
use Rattle.cxl_deal.specs.Weaves.{dealt_slot, dealt_offset}
use Rattle.cxl_window.specs.Position.{position_of}
use Rattle.cxl_model.specs.declared.chain.Step.{Step}
use Rattle.cxl_model.specs.declared.found.Found.{Found}
use Rattle.cxl_model.specs.declared.found.Place.{Place}
use Rattle.cxl_model.specs.Bytes.{LiesInSpan}
use Rattle.cxl_model.specs.Dealing.{slot_steps}
use Rattle.cxl_model.specs.Regions.{region_range, Carries}
use Rattle.cxl_reply.specs.declared.reply.Reply.{Reply}
use Rattle.cxl_reply.specs.declared.reply.Reply.TheVariants as replies
use Rattle.cxl_reply.specs.declared.details.Downed.{Downed}
use Rattle.cxl_reply.specs.declared.details.Via.{Via}
use Rattle.cxl_machine.specs.Machine.{Live, Machine, region_window, weave_of, free_frames, with_contents}
use Rattle.cxl_move.specs.Bytes.{bytes_at, new_pieces, written}
use Rattle.cxl_machine.specs.Elsewhere.{extents_of, spread_of}
use Rattle.cxl_machine.specs.Replies.{Answer, stays, becomes, endpoint_named, at_host, within_region}

-- ---- bytes

-- the offset of a host address in a region
abbrev pub offset_in : Live → ℕ → ℕ
offset_in region h = h - region.found.base

-- a load tells the bytes, where all of its addresses are in one live region
abbrev pub load_answer : Machine → Load → Answer
load_answer m load =
    within_region m load.h load.len
    (λ region. stays m (replies.Loaded (bytes_at region.contents (offset_in region load.h) load.len)))

-- how many frames a store takes: one for each touched piece that is not in the map
abbrev pub frames_wanted : Live → Store → ℕ
frames_wanted region store = length (new_pieces region.contents (offset_in region store.h) (length store.bytes))

-- a store into a region, where the frames that it needs are free
abbrev pub store_into : Machine → Store → Live → Answer
store_into m store region =
    if nat_lt (free_frames m) (frames_wanted region store)
    then stays m (replies.Full record { need = frames_wanted region store; free = free_frames m })
    else becomes (with_contents region.name (written region.contents (offset_in region store.h) store.bytes) m)
    (replies.Stored (length store.bytes))

-- a store puts its bytes, where all of its addresses are in one live region
abbrev pub store_answer : Machine → Store → Answer
store_answer m store = within_region m store.h (length store.bytes) (store_into m store)

-- ---- the way down

-- the slot to which a host byte of a region is dealt
abbrev pub slot_of_host : Machine → Live → ℕ → ℕ
slot_of_host m region h = dealt_slot (weave_of m.settled region.found) h

-- the place of a slot; each slot has one
abbrev pub slot_place : Found → ℕ → Place
slot_place found slot = option_map_or (λ place. place) (slice_get found.spans slot) record { endpoint = 0; start = 0 }

-- the ports on the way of a host byte, from the bridge down, each with its decoder of the region and the entry
abbrev pub steps_to : Machine → Live → ℕ → List Step
steps_to m region h =
    slot_steps m.settled (region_window m.settled region.found) (region_range region.found) (slot_of_host m region h)
    (slot_place region.found (slot_of_host m region h)).endpoint

-- a step as a reply tells it
abbrev pub via_of : Step → Via
via_of step = record { node = step.node; decoder = step.decoder; entry = step.entry }

-- five places, zero past the ports
abbrev pub five_vias : List Step → List Via
five_vias steps = map via_of steps ++ replicate (5 - length steps) record { node = 0; decoder = 0; entry = 0 }

-- what is told of the way of a host byte down
abbrev pub downed : Machine → ℕ → Live → Downed
downed m h region =
    let slot = slot_of_host m region h in
    record {
      h = h;
      name = region.name;
      slot = slot;
      position = position_of (region_window m.settled region.found) h;
      len = length (steps_to m region h);
      via = five_vias (steps_to m region h);
      endpoint = (slot_place region.found slot).endpoint;
      dpa = (slot_place region.found slot).start + dealt_offset (weave_of m.settled region.found) h;
    }

-- the way of a host byte of a live region down to a byte of a device
abbrev pub down_answer : Machine → ℕ → Answer
down_answer m h = at_host m h (λ region. stays m (replies.Down (downed m h region)))

-- ---- the way up

-- what a byte of an endpoint's device is answered: the host address that a live region carries to it, or that it lies in no
-- live region's span
pub data TellsHost (m : Machine) (endpoint dpa : ℕ) (reply : Reply) : Type 0 where
  carried : (region : Live) (h : ℕ) → Contains m.live region → Carries region.found (region_window m.settled region.found) h endpoint dpa → reply ≡ replies.Up record { h = h; name = region.name } → TellsHost m endpoint dpa reply
  unmapped : ((region : Live) → Contains m.live region → ¬ (LiesInSpan region.found endpoint dpa)) → reply ≡ replies.Unmapped → TellsHost m endpoint dpa reply

-- the host byte that a live region carries to a device byte, or that none does
pub data AnswersUp (m : Machine) (up : Up) (answer : Answer) : Type 0 where
  no_endpoint : endpoint_named m.settled.nodes up.endpoint ≡ None → answer ≡ stays m (replies.NoEndpoint up.endpoint) → AnswersUp m up answer
  told : (endpoint : ℕ) (reply : Reply) → endpoint_named m.settled.nodes up.endpoint ≡ Some endpoint → TellsHost m endpoint up.dpa reply → answer ≡ stays m reply → AnswersUp m up answer

-- ---- ranges

-- the endpoint of each slot
abbrev pub endpoints_by_slot : Found → List ℕ
endpoints_by_slot found = map (λ place. place.endpoint) found.spans

-- on which device bytes a range of one live region lies
abbrev pub range_answer : Machine → Reach → Answer
range_answer m reach =
    within_region m reach.h reach.len (λ region. stays m (replies.Extents record {
      extents = extents_of region.found (region_window m.settled region.found) reach.h reach.len;
      endpoints = endpoints_by_slot region.found;
    }))

-- how many bytes of a range of one live region each slot has
abbrev pub spread_answer : Machine → Reach → Answer
spread_answer m reach =
    within_region m reach.h reach.len (λ region. stays m (replies.Spread record {
      bytes = spread_of region.found (region_window m.settled region.found) reach.h reach.len;
      endpoints = endpoints_by_slot region.found;
    }))
