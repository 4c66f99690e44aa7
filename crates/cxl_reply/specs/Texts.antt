-- The texts of replies that are no refusals (this project's rule).
use Rattle.std.specs.Prelude.{ℕ, ◌*◌, ◌==◌, Bool, if◌then◌else◌, Option, Some, None, List, [], ◌∷◌, ◌++◌, length, map, take, codes, decimal, slice_get, unwrap_or}
use Rattle.std.specs.Option.{option_map_or}
use Rattle.std.specs.List.{flat_map, zip, enumerate_from}
use Rattle.cxl_io.specs.Printed.{padded_hex}
use Rattle.cxl_topo.specs.declared.node.Node.{Node}
use Rattle.cxl_model.specs.declared.extent.Extent.{Extent}
use Rattle.cxl_model.specs.declared.found.Place.{Place}
use Rattle.cxl_model.specs.declared.poison.Entry.{Entry}
use Rattle.cxl_model.specs.declared.poison.Part.{Part}
use Rattle.cxl_model.specs.declared.poison.Part.TheVariants as parts
use Rattle.cxl_model.specs.declared.poison.PoisonList.{PoisonList}
use Rattle.cxl_model.specs.declared.poison.Poisoned.{Poisoned}
use Rattle.cxl_reply.specs.declared.details.Named.{Named}
use Rattle.cxl_reply.specs.declared.details.Shown.{Shown}
use Rattle.cxl_reply.specs.declared.details.ShownRow.{ShownRow}
use Rattle.cxl_reply.specs.declared.details.Downed.{Downed}
use Rattle.cxl_reply.specs.declared.details.Via.{Via}
use Rattle.cxl_reply.specs.declared.details.Upped.{Upped}
use Rattle.cxl_reply.specs.declared.details.Report.{Report}
use Rattle.cxl_reply.specs.declared.details.Begun.{Begun}
use Rattle.cxl_reply.specs.declared.details.Progress.{Progress}
use Rattle.cxl_reply.specs.declared.details.Extents.{Extents}
use Rattle.cxl_reply.specs.declared.details.Spread.{Spread}
use Rattle.cxl_reply.specs.declared.details.Carried.{Carried}
use Rattle.cxl_reply.specs.Words.{line, hex_text, gran_text, kind_text, node_text, bytes_text, spaced}

-- ---- regions

-- where a region lies, and how it interleaves
abbrev pub layout_text : ℕ → ℕ → ℕ → ℕ → ℕ → List ℕ
layout_text window base size gran ways =
    codes "window " ++ decimal window ++ codes " base " ++ hex_text base ++ codes " size " ++ hex_text size
    ++ codes " gran " ++ gran_text gran ++ codes " ways " ++ decimal ways

-- a region is made, with its layout
abbrev pub created_text : Named → List ℕ
created_text named =
    line (codes "created " ++ named.name ++ codes " " ++ layout_text named.window named.base named.size named.gran named.ways)

-- a region is gone
abbrev pub destroyed_text : List ℕ → List ℕ
destroyed_text name = line (codes "destroyed " ++ name)

-- a register word in eight digits
abbrev pub word_text : ℕ → List ℕ
word_text word = padded_hex word 8

-- a decoder's seven words, eight digits each
abbrev pub shown_words_text : List ℕ → List ℕ
shown_words_text words = spaced (map word_text words)

-- the decoder of a node, with its words
abbrev pub row_text : List Node → ShownRow → List ℕ
row_text nodes row =
    line (codes "node " ++ node_text nodes row.node ++ codes " " ++ decimal row.decoder ++ codes " " ++ shown_words_text row.words)

-- a slot with its endpoint and the start of its span
abbrev pub slot_text : List Node → ℕ × Place → List ℕ
slot_text nodes (slot, place) =
    line (codes "slot " ++ decimal slot ++ codes " " ++ node_text nodes place.endpoint ++ codes " " ++ hex_text place.start)

-- a line for each slot
abbrev pub slots_text : List Node → List Place → List ℕ
slots_text nodes places = flat_map (slot_text nodes) (enumerate_from 0 places)

-- a region with its range and its layout
abbrev pub shown_head_text : Shown → List ℕ
shown_head_text shown =
    line (codes "region " ++ shown.name ++ codes " " ++ kind_text shown.found.kind ++ codes " "
    ++ layout_text shown.found.window shown.found.base shown.found.size shown.found.gran shown.found.ways)

-- a region, its decoders and its slots
abbrev pub shown_text : List Node → Shown → List ℕ
shown_text nodes shown =
    shown_head_text shown ++ flat_map (row_text nodes) shown.rows ++ slots_text nodes shown.found.spans

-- ---- addresses

-- a port on the way, by node, decoder and entry
abbrev pub via_text : List Node → Via → List ℕ
via_text nodes via = node_text nodes via.node ++ codes ":" ++ decimal via.decoder ++ codes ":" ++ decimal via.entry

-- the ports on the way, or a dash where there is none
abbrev pub vias_text : List Node → List Via → List ℕ
vias_text nodes [] = codes "-"
vias_text nodes (via ∷ vias) = spaced (map (via_text nodes) (via ∷ vias))

-- a host address, its region and its slot
abbrev pub down_head_text : Downed → List ℕ
down_head_text downed =
    codes "down " ++ hex_text downed.h ++ codes " region " ++ downed.name ++ codes " slot " ++ decimal downed.slot
    ++ codes " position " ++ decimal downed.position ++ codes " via "

-- the endpoint at the end of the way, and the device address there
abbrev pub down_end_text : List Node → Downed → List ℕ
down_end_text nodes downed =
    line (codes " endpoint " ++ node_text nodes downed.endpoint ++ codes " dpa " ++ hex_text downed.dpa)

-- the way of a host address down to a device
abbrev pub down_text : List Node → Downed → List ℕ
down_text nodes downed =
    down_head_text downed ++ vias_text nodes (take downed.len downed.via) ++ down_end_text nodes downed

-- the host address that goes to a device byte, and its region
abbrev pub up_text : Upped → List ℕ
up_text upped = line (codes "host " ++ hex_text upped.h ++ codes " region " ++ upped.name)

-- ---- bytes

-- the bytes that were loaded
abbrev pub loaded_text : List ℕ → List ℕ
loaded_text bytes = line (codes "bytes " ++ bytes_text bytes)

-- how many bytes were stored
abbrev pub stored_text : ℕ → List ℕ
stored_text len = line (codes "stored " ++ decimal len)

-- ---- poison

-- the text where the flag is set
abbrev pub flag_text : Bool → List ℕ → List ℕ
flag_text flag text = if flag then text else []

-- when the list overflowed, where it did
abbrev pub overflow_text : Option ℕ → List ℕ
overflow_text None = []
overflow_text (Some timestamp) = codes " overflow " ++ decimal timestamp

-- what a poison list says of itself
abbrev pub flags_text : PoisonList → List ℕ
flags_text list = flag_text list.more (codes " more") ++ overflow_text list.overflow ++ flag_text list.scanning (codes " scanning")

-- the poison list of an endpoint: how many records it has, and its flags
abbrev pub list_text : List Node → ℕ → PoisonList → List ℕ
list_text nodes endpoint list =
    line (codes "poison " ++ node_text nodes endpoint ++ codes " records " ++ decimal (length list.records) ++ flags_text list)

-- what found the poison (CXL media error record)
abbrev pub source_text : ℕ → List ℕ
source_text source =
    if source == 0 then codes "unknown"
    else (if source == 1 then codes "external"
    else (if source == 2 then codes "internal"
    else (if source == 3 then codes "injected"
    else (if source == 7 then codes "vendor"
    else decimal source))))

-- a record: its device address, its bytes and its source
abbrev pub entry_text : Entry → List ℕ
entry_text entry =
    line (codes "record " ++ hex_text entry.dpa ++ codes " length " ++ decimal (64 * entry.units) ++ codes " source " ++ source_text entry.source)

-- a region by its place among the names
abbrev pub region_text : List (List ℕ) → ℕ → List ℕ
region_text names region = unwrap_or (slice_get names region) []

-- host bytes of a record in a region, in one run or wide apart
abbrev pub part_text : List (List ℕ) → Part → List ℕ
part_text names (parts.Run run) =
    codes "run " ++ hex_text run.h ++ codes " " ++ decimal run.len ++ line (codes " region " ++ region_text names run.region)
part_text names (parts.Wide wide) =
    codes "wide " ++ hex_text wide.first ++ codes " " ++ hex_text wide.last ++ codes " " ++ decimal wide.count
    ++ line (codes " region " ++ region_text names wide.region)

-- how many bytes of a record no host address goes to, where there are such
abbrev pub unmapped_text : ℕ → List ℕ
unmapped_text bytes = if bytes == 0 then [] else line (codes "unmapped " ++ decimal bytes)

-- a record, its host bytes and those that have none
abbrev pub record_text : List (List ℕ) → Entry × Poisoned → List ℕ
record_text names (entry, poisoned) =
    entry_text entry ++ flat_map (part_text names) poisoned.parts ++ unmapped_text poisoned.unmapped

-- a poison list and its records
abbrev pub report_text : List Node → Report → List ℕ
report_text nodes report =
    list_text nodes report.endpoint report.list ++ flat_map (record_text report.names) (zip report.list.records report.pieces)

-- ---- jobs

-- a job is begun, with so many writes
abbrev pub begun_text : Begun → List ℕ
begun_text begun = line (codes "begun " ++ begun.name ++ codes " writes " ++ decimal begun.writes)

-- so many writes of so many
abbrev pub progress_text : ℕ → ℕ → List ℕ
progress_text done total = decimal done ++ codes " of " ++ decimal total

-- a job went on to so many of its writes
abbrev pub stepped_text : Progress → List ℕ
stepped_text progress = line (codes "stepped " ++ progress_text progress.done progress.total)

-- a job is taken back
abbrev pub aborted_text : List ℕ → List ℕ
aborted_text name = line (codes "aborted " ++ name)

-- ---- extents and spreads

-- the endpoint of a slot
abbrev pub slot_endpoint_text : List Node → List ℕ → ℕ → List ℕ
slot_endpoint_text nodes endpoints slot = option_map_or (node_text nodes) (slice_get endpoints slot) []

-- the host bytes of an extent
unfoldable pub extent_bytes_text : Extent → List ℕ
extent_bytes_text extent = codes "extent " ++ hex_text extent.h ++ codes " " ++ decimal extent.len

-- an extent, the endpoint of its slot, and its device address
abbrev pub extent_text : List Node → List ℕ → Extent → List ℕ
extent_text nodes endpoints extent =
    line (extent_bytes_text extent ++ codes " " ++ slot_endpoint_text nodes endpoints extent.slot ++ codes " " ++ hex_text extent.dpa)

-- a line for each extent
abbrev pub extents_text : List Node → Extents → List ℕ
extents_text nodes extents = flat_map (extent_text nodes extents.endpoints) extents.extents

-- a slot, its endpoint, and how many bytes are dealt to it
abbrev pub share_text : List Node → ℕ × (ℕ × ℕ) → List ℕ
share_text nodes (slot, (endpoint, bytes)) =
    line (codes "slot " ++ decimal slot ++ codes " " ++ node_text nodes endpoint ++ codes " " ++ decimal bytes)

-- one line for each slot
abbrev pub shares_text : List Node → List ℕ → List ℕ → List ℕ
shares_text nodes endpoints bytes = flat_map (share_text nodes) (enumerate_from 0 (zip endpoints bytes))

-- a line for each slot
abbrev pub spread_text : List Node → Spread → List ℕ
spread_text nodes spread = shares_text nodes spread.endpoints spread.bytes

-- ---- copies

-- a region was given the bytes of another, so many pieces, with the verb for how
abbrev pub carried_text : List ℕ → Carried → List ℕ
carried_text verb carried =
    line (verb ++ codes " " ++ carried.from ++ codes " " ++ carried.to ++ codes " pieces " ++ decimal carried.pieces)
