-- The texts of a plan, and of the regions and the breach of an image (this project's rule).
use Rattle.std.specs.Prelude.{ℕ, ◌<◌, ◌≤◌, Bool, if◌then◌else◌, List, [], ◌∷◌, ◌++◌, All, codes, decimal}
use Rattle.std.specs.List.{flat_map}
use Rattle.cxl_model.specs.declared.found.Found.{Found}
use Rattle.cxl_model.specs.declared.plan.Plan.{Plan}
use Rattle.cxl_model.specs.declared.plan.Row.{Row}
use Rattle.cxl_regs.specs.declared.decoder.Decoder.{Decoder}
use Rattle.cxl_regs.specs.Reading.{decoder_ways, decoder_granularity, entries_of}
use Rattle.cxl_topo.specs.declared.node.Node.{Node}
use Rattle.cxl_topo.specs.Tree.{is_endpoint_at}
use Rattle.cxl_reply.specs.Words.{line, hex_text, gran_text, kind_text, node_text}
use Rattle.cxl_reply.specs.Texts.{layout_text, slots_text}
use Rattle.cxl_reply.specs.Conditions.{IsNode}

-- ---- plans

-- the region of a plan, with its range and its layout
abbrev pub plan_head_text : Plan → List ℕ
plan_head_text plan =
    line (codes "plan " ++ plan.name ++ codes " " ++ kind_text plan.found.kind ++ codes " "
    ++ layout_text plan.found.window plan.found.base plan.found.size plan.found.gran plan.found.ways)

-- ports, each behind a comma
abbrev pub more_ports_text : List ℕ → List ℕ
more_ports_text ports = flat_map (λ port. codes "," ++ decimal port) ports

-- ports, with a comma between
abbrev pub ports_text : List ℕ → List ℕ
ports_text [] = []
ports_text (port ∷ ports) = decimal port ++ more_ports_text ports

-- a port's decoder has a target list, an endpoint's a skip
abbrev pub tail_text : Bool → Decoder → List ℕ
tail_text endpoint d = if endpoint then codes " skip " ++ hex_text d.tail else codes " targets " ++ ports_text (entries_of d)

-- the ways of a decoder, and its granularity
abbrev pub decoder_text : Decoder → List ℕ
decoder_text d = codes " ways " ++ decimal (decoder_ways d) ++ codes " gran " ++ decimal (decoder_granularity d)

-- the decoder of a node, as planned
abbrev pub planned_text : List Node → Row → List ℕ
planned_text nodes row =
    line (codes "row " ++ node_text nodes row.node ++ codes " " ++ decimal row.index ++ decoder_text row.decoder
    ++ tail_text (is_endpoint_at nodes row.node) row.decoder)

-- the region of a plan, and a line for each of its decoders
abbrev pub plan_text : List Node → Plan → List ℕ
plan_text nodes plan = plan_head_text plan ++ flat_map (planned_text nodes) plan.rows

-- a plan over nodes of the topology, by registers
pub record IsToldRow (nodes : List Node) (row : Row) : Type 0 where
  pub node : IsNode nodes row.node
  pub gran : row.decoder.gran < 16

-- a plan can be told: its granularity has a code, and its decoders stand in nodes
pub record IsToldPlan (nodes : List Node) (plan : Plan) : Type 0 where
  pub gran : plan.found.gran ≤ 6
  pub rows : All (IsToldRow nodes) plan.rows

-- ---- the regions of an image

-- where it lies
unfoldable pub found_range_text : Found → List ℕ
found_range_text found =
    codes "region " ++ hex_text found.base ++ codes " size " ++ hex_text found.size ++ codes " window " ++ decimal found.window

-- how it interleaves
unfoldable pub found_ways_text : Found → List ℕ
found_ways_text found = codes " gran " ++ gran_text found.gran ++ codes " ways " ++ decimal found.ways

-- a region of an image, with its range and its layout
abbrev pub found_head_text : Found → List ℕ
found_head_text found = line (found_range_text found ++ found_ways_text found ++ codes " " ++ kind_text found.kind)

-- a region and its slots
abbrev pub found_text : List Node → Found → List ℕ
found_text nodes found = found_head_text found ++ slots_text nodes found.spans

-- the rule that an image breaks first, with node and decoder
abbrev pub breach_text : List Node → ℕ → ℕ → ℕ → List ℕ
breach_text nodes rule node decoder =
    line (codes "breach K" ++ decimal rule ++ codes " " ++ node_text nodes node ++ codes " " ++ decimal decoder)
