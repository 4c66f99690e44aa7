-- The texts of refusals (this project's rule).
use Rattle.std.specs.Prelude.{ℕ, List, [], ◌++◌, codes, decimal}
use Rattle.std.specs.List.{flat_map, enumerate_from}
use Rattle.cxl_topo.specs.declared.node.Node.{Node}
use Rattle.cxl_span.specs.declared.allotting.SpanFault.{SpanFault}
use Rattle.cxl_span.specs.declared.allotting.SpanFault.TheVariants as span_faults
use Rattle.cxl_model.specs.declared.plan.PlanFault.{PlanFault}
use Rattle.cxl_model.specs.declared.plan.PlanFault.TheVariants as plan_faults
use Rattle.cxl_model.specs.declared.plan.Reason.{Reason}
use Rattle.cxl_model.specs.declared.plan.Reason.TheVariants as reasons
use Rattle.cxl_script.specs.declared.fault.BadLine.{BadLine}
use Rattle.cxl_script.specs.declared.fault.Why.{Why}
use Rattle.cxl_script.specs.declared.fault.Why.TheVariants as whys
use Rattle.cxl_reply.specs.declared.details.Lack.{Lack}
use Rattle.cxl_reply.specs.declared.details.Spot.{Spot}
use Rattle.cxl_reply.specs.declared.details.Counted.{Counted}
use Rattle.cxl_reply.specs.declared.details.Pending.{Pending}
use Rattle.cxl_reply.specs.declared.details.Sizes.{Sizes}
use Rattle.cxl_reply.specs.Words.{line, hex_text, node_text}
use Rattle.cxl_reply.specs.Texts.{progress_text}

-- ---- lines

-- the word for why a line is bad
abbrev pub why_text : Why → List ℕ
why_text whys.Verb = codes "verb"
why_text whys.Missing = codes "missing"
why_text whys.Extra = codes "extra"
why_text whys.Name = codes "name"
why_text whys.Kind = codes "kind"
why_text whys.Number = codes "number"
why_text whys.Range = codes "range"
why_text whys.Hex = codes "hex"
why_text whys.Long = codes "long"

-- a bad line: at which byte, and why
abbrev pub bad_line_text : BadLine → List ℕ
bad_line_text fault = line (codes "bad line " ++ decimal fault.at ++ codes " " ++ why_text fault.why)

-- ---- words and a name

-- words, and the name that they are about
abbrev pub named_text : List ℕ → List ℕ → List ℕ
named_text words name = line (words ++ codes " " ++ name)

-- ---- limits and order

-- device memory has too few frames
abbrev pub full_text : Lack → List ℕ
full_text lack = line (codes "full need " ++ decimal lack.need ++ codes " free " ++ decimal lack.free)

-- words, and the decoder that they are about
abbrev pub spot_text : List ℕ → List Node → Spot → List ℕ
spot_text words nodes spot = line (words ++ codes " " ++ node_text nodes spot.node ++ codes " " ++ decimal spot.decoder)

-- two regions of different size
abbrev pub sizes_text : Sizes → List ℕ
sizes_text sizes = line (codes "sizes differ " ++ hex_text sizes.from ++ codes " " ++ hex_text sizes.to)

-- ---- plan faults

-- a plan is never refused for a span's want of a decoder, which is met before
abbrev pub span_text : SpanFault → List ℕ
span_text span_faults.NoDecoder = codes "no-decoder"
span_text (span_faults.PastRam cursor) = codes "past-ram " ++ hex_text cursor
span_text (span_faults.NoRoom room) = codes "no-room " ++ hex_text room.start ++ codes " " ++ hex_text room.limit

-- why a window cannot take a request
abbrev pub reason_text : List Node → Reason → List ℕ
reason_text nodes reasons.Unusable = codes "unusable"
reason_text nodes reasons.Kind = codes "kind"
reason_text nodes reasons.Fixed = codes "fixed"
reason_text nodes reasons.Bridges = codes "bridges"
reason_text nodes reasons.Gran = codes "gran"
reason_text nodes (reasons.Select node) = codes "select " ++ node_text nodes node
reason_text nodes (reasons.WaysCap node) = codes "ways-cap " ++ node_text nodes node
reason_text nodes (reasons.NoBase room) = codes "no-base " ++ hex_text room.start ++ codes " " ++ hex_text room.limit

-- one line for each window, in table order
abbrev pub window_text : List Node → ℕ × Reason → List ℕ
window_text nodes (index, reason) = line (codes "window " ++ decimal index ++ codes " " ++ reason_text nodes reason)

-- want of memory is no refusal
abbrev pub plan_fault_text : List Node → PlanFault → List ℕ
plan_fault_text nodes (plan_faults.Repeat endpoint) = line (codes "refused repeat " ++ node_text nodes endpoint)
plan_fault_text nodes (plan_faults.Ways ways) = line (codes "refused ways " ++ decimal ways)
plan_fault_text nodes plan_faults.Size = line (codes "refused size")
plan_fault_text nodes (plan_faults.Uneven node) = line (codes "refused uneven " ++ node_text nodes node)
plan_fault_text nodes (plan_faults.NoDecoder node) = line (codes "refused no-decoder " ++ node_text nodes node)
plan_fault_text nodes (plan_faults.Span endpoint fault) = line (codes "refused span " ++ node_text nodes endpoint ++ codes " " ++ span_text fault)
plan_fault_text nodes (plan_faults.NoWindow reasons) =
    line (codes "refused no-window") ++ flat_map (window_text nodes) (enumerate_from 0 reasons)
plan_fault_text nodes plan_faults.Memory = []

-- ---- poison and the bus

-- a poison list says that it has so many records, and has room for so many
abbrev pub count_text : Counted → List ℕ
count_text counted = line (codes "poison count " ++ decimal counted.said ++ codes " " ++ decimal counted.room)

-- a job stays pending behind a fault of the bus
abbrev pub pending_text : Pending → List ℕ
pending_text pending = line (codes "bus fault pending " ++ pending.name ++ codes " " ++ progress_text pending.done pending.total)
