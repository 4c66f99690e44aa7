-- Worked machines over two bridges with one endpoint each: laws say what commands are answered by them.
use Rattle.std.specs.Prelude.{ℕ, true, false, List, [], ◌∷◌, ◌++◌, codes, replicate, Some, None}
use Rattle.std.specs.FinMap as map
use Rattle.cxl_enc.specs.declared.caps.MemKind.TheVariants.{Ram}
use Rattle.cxl_regs.specs.declared.decoder.Decoder.{Decoder}
use Rattle.cxl_regs.specs.Registers.{Registers, reset_decoder, reset_block}
use Rattle.cxl_script.specs.declared.command.Command.{Command}
use Rattle.cxl_script.specs.declared.command.Command.TheVariants as commands
use Rattle.cxl_script.specs.declared.command.Create.{Create}
use Rattle.cxl_script.specs.declared.fault.Why.TheVariants as whys
use Rattle.cxl_model.specs.declared.found.Found.{Found}
use Rattle.cxl_model.specs.declared.plan.Plan.{Plan}
use Rattle.cxl_model.specs.System.{System}
use Rattle.cxl_plan.specs.Planned.{stated_plan}
use Rattle.cxl_model.specs.Contents.{Contents}
use Rattle.cxl_worked.specs.Examples.{two_bridges, two_bridges_with, window_of_both, of_both, decoder, port_block, endpoint_block, endpoint_block_of_two, port_cap, endpoint_cap}
use Rattle.cxl_worked.specs.ExampleRegions.{region_of_two}
use Rattle.cxl_reply.specs.declared.reply.Reply.{Reply}
use Rattle.cxl_reply.specs.declared.reply.Reply.TheVariants as replies
use Rattle.cxl_reply.specs.declared.details.Named.{Named}
use Rattle.cxl_reply.specs.declared.details.ShownRow.{ShownRow}
use Rattle.cxl_media.specs.MediaState.{MediaState}
use Rattle.cxl_move.specs.Bytes.{piece_after, written}
use Rattle.cxl_machine.specs.Machine.{Live, RegionJob, Machine}
use Rattle.cxl_machine.specs.Jobs.{create_job, release_job, at_done}
use Rattle.cxl_request.specs.Requests.{request_for}
use Rattle.cxl_machine.specs.Scripts.{Turn}
use Rattle.cxl_machine.specs.Sound.{auto_name}

-- ---- names

-- the name of a region
abbrev pub r0 : List ℕ
r0 = codes "r0"

-- the name of another
abbrev pub b : List ℕ
b = codes "b"

-- the name of an endpoint
abbrev pub e0 : List ℕ
e0 = codes "e0"

-- the name of another
abbrev pub e1 : List ℕ
e1 = codes "e1"

-- the name of the first region of an image
abbrev pub auto : List ℕ
auto = auto_name 0

-- the name of a bridge
abbrev pub hb0 : List ℕ
hb0 = codes "hb0"

-- ---- the reset host

-- an endpoint's reset block that decodes
abbrev pub enabled_endpoint : Registers
enabled_endpoint = record (reset_block endpoint_cap true) { enabled = true }

-- two bridges with an endpoint each, and no region
abbrev pub reset_system : System
reset_system = two_bridges_with (reset_block port_cap false) (reset_block port_cap false) enabled_endpoint enabled_endpoint

-- no region, two frames and no job
abbrev pub fresh : Machine
fresh = record { settled = reset_system; live = []; frames = 2; job = None }

-- ---- one region

-- `create NAME ram 0x20000000 e0 e1`
abbrev pub create_named : List ℕ → Create
create_named name =
    record { name = name; kind = Ram; size = 0x20000000; gran = None; endpoints = e0 ∷ e1 ∷ []; ways = None }

-- the live region of two ways with these contents
abbrev pub region_r0 : Contents → Live
region_r0 contents = record { name = r0; found = region_of_two; contents = contents }

-- the machine with it, and with these bytes in it
abbrev pub with_r0 : Contents → Machine
with_r0 contents = record fresh { settled = two_bridges; live = region_r0 contents ∷ [] }

-- of the two regions of 512 MiB over both endpoints, by their bases
abbrev pub named_at : List ℕ → ℕ → Named
named_at name base = record { name = name; window = 0; base = base; size = 0x20000000; gran = 0; ways = 2 }

-- the plan of the region over the reset host, and of a second one behind it
abbrev pub plan_r0 : Plan
plan_r0 = stated_plan reset_system (request_for (create_named r0) (2 ∷ 3 ∷ [])) window_of_both 0x100000000

-- the plan of a second region behind it
abbrev pub plan_b : Plan
plan_b = stated_plan two_bridges (request_for (create_named b) (2 ∷ 3 ∷ [])) window_of_both 0x120000000

-- ---- two regions

-- 256 MiB of each endpoint behind those of the first region
abbrev pub second : ℕ → Decoder
second control = decoder 0x120000000 0x20000000 control 0

-- a port's block with two decoders in use
abbrev pub port_block_of_two : Decoder → Decoder → Registers
port_block_of_two d e = record { cap = port_cap; endpoint = false; enabled = true; decoders = d ∷ e ∷ replicate 2 reset_decoder }

-- two bridges with an endpoint each, and two regions over them
abbrev pub two_regions : System
two_regions =
    two_bridges_with (port_block_of_two (of_both 0x1600) (second 0x1600)) (port_block_of_two (of_both 0x1600) (second 0x1600))
    (endpoint_block_of_two (of_both 0x1610) (second 0x1610)) (endpoint_block_of_two (of_both 0x1610) (second 0x1610))

-- the second region as the image has it
abbrev pub found_b : Found
found_b = record region_of_two {
  base = 0x120000000;
  spans = record { endpoint = 2; start = 0x10000000 } ∷ record { endpoint = 3; start = 0x10000000 } ∷ [];
}

-- the second live region with these contents
abbrev pub region_b : Contents → Live
region_b contents = record { name = b; found = found_b; contents = contents }

-- the machine with both, with these bytes in them and so many frames
abbrev pub with_both : ℕ → Contents → Contents → Machine
with_both frames first second =
    record { settled = two_regions; live = region_r0 first ∷ region_b second ∷ []; frames = frames; job = None }

-- ---- a region that firmware locked

-- one region whose decoders are locked
abbrev pub locked_bridges : System
locked_bridges =
    two_bridges_with (port_block (of_both 0x1700)) (port_block (of_both 0x1700)) (endpoint_block (of_both 0x1710)) (endpoint_block (of_both 0x1710))

-- a machine with that region
abbrev pub with_locked : Machine
with_locked = record (with_r0 map.empty) { settled = locked_bridges }

-- ---- jobs

-- the second region is being made, with so many writes made
abbrev pub job_b : RegionJob
job_b = create_job two_bridges plan_b

-- the second region is being made, with so many writes done
abbrev pub making_b : ℕ → Machine
making_b done = at_done job_b done (with_r0 map.empty)

-- a job that makes a region of this name at this place
abbrev pub job_with : List ℕ → Found → RegionJob
job_with name found = record job_b { region = record { name = name; found = found; contents = map.empty } }

-- the first region is being made
abbrev pub making_r0 : ℕ → Machine
making_r0 done = at_done (create_job reset_system plan_r0) done fresh

-- the region with these bytes is being released, with so many writes made
abbrev pub job_of_release : Contents → RegionJob
job_of_release contents = release_job two_bridges 0 (region_r0 contents)

-- the first region is being released, with so many writes done
abbrev pub releasing : Contents → ℕ → Machine
releasing contents done = at_done (job_of_release contents) done (record (with_r0 contents) { live = [] })

-- as many regions as may live
abbrev pub many_regions : Machine
many_regions = record fresh { live = replicate 256 (region_r0 map.empty) }

-- the region is gone, and its decoders keep their other registers
abbrev pub without_r0 : Machine
without_r0 = record fresh {
  settled =
      two_bridges_with (port_block (of_both 0x1000)) (port_block (of_both 0x1000)) (endpoint_block (of_both 0x1010)) (endpoint_block (of_both 0x1010));
}

-- the second region has another size
abbrev pub with_unequal : Machine
with_unequal = record fresh {
  live = region_r0 map.empty ∷ record { name = b; found = record found_b { size = 0x40000000 }; contents = map.empty } ∷ [];
}

-- the words of the first region's decoder in a node
abbrev pub row_shown : ℕ → ℕ → ShownRow
row_shown node control =
    record { node = node; decoder = 0; words = 0 ∷ 1 ∷ 0x20000000 ∷ 0 ∷ control ∷ 0 ∷ 0 ∷ [] }

-- a poison list that says so many records and has one: two units from device address 0xfffffc0 on
abbrev pub poison_bytes : ℕ → List ℕ
poison_bytes said =
    replicate 10 0 ++ said ∷ replicate 21 0
    ++ 0xc2 ∷ 0xff ∷ 0xff ∷ 0x0f ∷ 0 ∷ 0 ∷ 0 ∷ 0 ∷ 2 ∷ 0 ∷ 0 ∷ 0 ∷ 0 ∷ 0 ∷ 0 ∷ 0 ∷ []

-- the host with one region as it opens from its image, with these bytes in it
abbrev pub opened_region_with : Contents → Live
opened_region_with contents = record { name = auto_name 0; found = region_of_two; contents = contents }

-- a machine that opened on an image with one region, which holds these contents
abbrev pub opened_with : Contents → Machine
opened_with contents = record fresh { settled = two_bridges; live = opened_region_with contents ∷ [] }

-- the same with none stored
abbrev pub opened : Machine
opened = opened_with map.empty

-- ---- bytes and commands

-- no byte was stored
abbrev pub nothing : Contents
nothing = map.empty

-- 0x11 at the first address
abbrev pub first_byte : Contents
first_byte = written nothing 0 (0x11 ∷ [])

-- the piece that has it, and media with the block to which that is carried
abbrev pub stored_piece : List ℕ
stored_piece = piece_after nothing 0 (0x11 ∷ []) 0

-- media with one block, and one frame free
abbrev pub one_block : MediaState
one_block = record { blocks = map.insert map.empty (2, 0) stored_piece; free = 1 }

-- beside the region with that byte a second one is being made; and the region is being released
abbrev pub making_beside : ℕ → Machine
making_beside done = at_done job_b done (opened_with first_byte)

-- the region that was there at the opening is being released, with so many writes done
abbrev pub opened_releasing : ℕ → Machine
opened_releasing done = at_done (release_job two_bridges 0 (opened_region_with first_byte)) done (record (opened_with first_byte) { live = [] })

-- so many bytes are asked for
abbrev pub load : ℕ → ℕ → Command
load h len = commands.Load record { h = h; len = len }

-- bytes are to be stored
abbrev pub store : ℕ → List ℕ → Command
store h bytes = commands.Store record { h = h; bytes = bytes }

-- the host address of a device byte is asked for
abbrev pub up : List ℕ → ℕ → Command
up endpoint dpa = commands.Up record { endpoint = endpoint; dpa = dpa }

-- the host bytes of a poison list are asked for
abbrev pub poison : List ℕ → List ℕ → Command
poison endpoint bytes = commands.Poison record { endpoint = endpoint; bytes = bytes }

-- a region is to be given the bytes of another
abbrev pub copy : List ℕ → List ℕ → Command
copy from to = commands.Copy record { from = from; to = to }

-- the same, and the other is to be left zero
abbrev pub move : List ℕ → List ℕ → Command
move from to = commands.Move record { from = from; to = to }

-- over two endpoints, or over so many that are picked, with so many bytes
abbrev pub create_of : ℕ → Command
create_of size = commands.Create record (create_named r0) { size = size }

-- a region of so many endpoints is asked for, which are to be picked
abbrev pub create_picked : ℕ → ℕ → Command
create_picked size ways = commands.Create record (create_named r0) { size = size; endpoints = []; ways = Some ways }

-- ---- turns

-- the bus let all go, and no word was sent
abbrev pub quiet_turn : Machine → Reply → Turn
quiet_turn m reply = record { reply = reply; machine = m; trail = []; failed = [] }

-- a region that is not there, and a line without a known verb
abbrev pub two_refusals : List Turn
two_refusals =
    record { reply = replies.NoRegion r0; machine = fresh; trail = []; failed = [] }
    ∷ record { reply = replies.BadLine record { at = 0; why = whys.Verb }; machine = fresh; trail = []; failed = [] } ∷ []
