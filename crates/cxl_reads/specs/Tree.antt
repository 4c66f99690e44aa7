-- A topology as lines: one for the frames of its devices, and one for each node (this project's rule).
use Rattle.std.specs.Prelude.{◌≡◌, ℕ, Option, Some, None, List, [], ◌++◌, codes, decimal}
use Rattle.std.specs.List.{flat_map, enumerate_from}
use Rattle.cxl_enc.specs.Bits.{cap_low, cap_high, cap_ways3, cap_ways16}
use Rattle.cxl_enc.specs.Caps.{decoders_of, decoders_code, targets_of, has_bit}
use Rattle.cxl_topo.specs.declared.node.Capacity.{Capacity}
use Rattle.cxl_topo.specs.declared.node.Node.{Node}
use Rattle.cxl_topo.specs.declared.node.NodeKind.{NodeKind}
use Rattle.cxl_topo.specs.declared.node.NodeKind.TheVariants.{Bridge, Switch, Endpoint}
use Rattle.cxl_topo.specs.declared.node.Parent.{Parent}
use Rattle.cxl_topo.specs.Tree.{Tree}
use Rattle.cxl_reply.specs.Words.{line, hex_text, node_text}
use Rattle.cxl_inputs.specs.Given.{StandForNoTree}
use Rattle.cxl_inputs.specs.Outcome.{Outcome}
use Rattle.cxl_inputs.specs.Topology.{IsTreeReading}
use Rattle.cxl_reads.specs.Answers.{told, topology_name}
use Rattle.cxl_reads.specs.Decoders.{bit_text}

-- ---- parts of lines

-- which node it is, by number and name
unfoldable pub name_text : ℕ → Node → List ℕ
name_text n node = codes "node " ++ decimal n ++ codes " " ++ node.name

-- the bytes of volatile and of persistent memory
unfoldable pub memory_text : Capacity → List ℕ
memory_text memory = codes " ram " ++ hex_text memory.ram ++ codes " pmem " ++ hex_text memory.pmem

-- what it is: a bridge with its UID, a switch, or an endpoint with the bytes of its memory
abbrev pub kind_text : NodeKind → List ℕ
kind_text (Bridge uid) = codes " bridge uid " ++ decimal uid
kind_text Switch = codes " switch"
kind_text (Endpoint memory) = codes " endpoint" ++ memory_text memory

-- the node above by its name, and the port there; a bridge has none
abbrev pub parent_text : List Node → Option Parent → List ℕ
parent_text nodes None = []
parent_text nodes (Some parent) = codes " parent " ++ node_text nodes parent.node ++ codes " port " ++ decimal parent.port

-- its capability word, and the decoders and targets that this states
unfoldable pub counts_text : ℕ → List ℕ
counts_text cap =
    codes " cap " ++ hex_text cap ++ codes " decoders " ++ decimal (decoders_of (decoders_code cap)) ++ codes " targets " ++ decimal (targets_of cap)

-- on which address bits it selects, and which further ways it has
unfoldable pub bits_text : ℕ → List ℕ
bits_text cap =
    bit_text (codes " low") (has_bit cap cap_low) ++ bit_text (codes " high") (has_bit cap cap_high) ++ bit_text (codes " ways3") (has_bit cap cap_ways3)
    ++ bit_text (codes " ways16") (has_bit cap cap_ways16)

-- ---- lines

-- which node it is, what, and below which other
abbrev pub who_text : List Node → ℕ → Node → List ℕ
who_text nodes n node = name_text n node ++ kind_text node.kind ++ parent_text nodes node.parent

-- what its block can do, or that it passes addresses on
abbrev pub block_text : Node → List ℕ
block_text node = counts_text node.cap ++ bits_text node.cap ++ bit_text (codes " passthrough") node.forwards

-- the line of node n
abbrev pub node_line : List Node → ℕ × Node → List ℕ
node_line nodes (n, node) = line (who_text nodes n node ++ block_text node)

-- the frames of 256 bytes that all devices share, and each node
abbrev pub tree_text : Tree → List ℕ
tree_text tree = line (codes "frames " ++ decimal tree.frames) ++ flat_map (node_line tree.nodes) (enumerate_from 0 tree.nodes)

-- ---- what telling it comes to

-- the file's bytes stand for no tree, or the lines of the tree
pub data IsTreeTold (topo : List ℕ) (outcome : Outcome) : Type 0 where
  no_tree : StandForNoTree topology_name topo outcome → IsTreeTold topo outcome
  nodes : (tree : Tree) → IsTreeReading topo tree → outcome ≡ told (tree_text tree) → IsTreeTold topo outcome
