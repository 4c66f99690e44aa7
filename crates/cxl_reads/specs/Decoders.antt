-- The decoder blocks of an image as lines: one for each block, and one for each decoder behind that of its block (this project's rule).
use Rattle.std.specs.Prelude.{◌≡◌, ℕ, Bool, if◌then◌else◌, List, ◌++◌, codes, decimal, slice_index}
use Rattle.std.specs.List.{flat_map, enumerate_from}
use Rattle.cxl_topo.specs.declared.node.Node.{Node}
use Rattle.cxl_topo.specs.Tree.{Tree}
use Rattle.cxl_regs.specs.declared.decoder.Decoder.{Decoder}
use Rattle.cxl_regs.specs.Registers.{Registers}
use Rattle.cxl_regs.specs.Words.{head_words, words_of}
use Rattle.cxl_reply.specs.Words.{line, hex_text, node_text}
use Rattle.cxl_reply.specs.Texts.{shown_words_text}
use Rattle.cxl_reply.specs.Plans.{decoder_text, tail_text}
use Rattle.cxl_inputs.specs.Given.{StandForNoTree, HoldNoImage}
use Rattle.cxl_inputs.specs.Image.{IsImageReading}
use Rattle.cxl_inputs.specs.Outcome.{Outcome}
use Rattle.cxl_inputs.specs.Topology.{IsTreeReading}
use Rattle.cxl_reads.specs.Answers.{told, topology_name, image_name}

-- ---- parts of lines

-- which node's block it is, by number and name
unfoldable pub block_text : List Node → ℕ → List ℕ
block_text nodes n = codes "block " ++ decimal n ++ codes " " ++ node_text nodes n

-- its capability word and its global control
unfoldable pub head_text : Registers → List ℕ
head_text block =
    codes " cap " ++ hex_text (slice_index (head_words block) 0) ++ codes " control " ++ hex_text (slice_index (head_words block) 1)

-- which decoder it is, by its node and its place in the block
unfoldable pub place_text : List Node → ℕ → ℕ → List ℕ
place_text nodes n i = codes "decoder " ++ node_text nodes n ++ codes " " ++ decimal i

-- its range
unfoldable pub range_text : Decoder → List ℕ
range_text d = codes " base " ++ hex_text d.base ++ codes " size " ++ hex_text d.size

-- the codes of its ways and of its granularity
unfoldable pub codes_text : Decoder → List ℕ
codes_text d = codes " codes " ++ decimal d.ways ++ codes " " ++ decimal d.gran

-- a bit behind its word
abbrev pub bit_text : List ℕ → Bool → List ℕ
bit_text word bit = word ++ (if bit then codes " 1" else codes " 0")

-- what its control word says of its commit
unfoldable pub commit_text : Decoder → List ℕ
commit_text d = bit_text (codes " lock") d.lock ++ bit_text (codes " commit") d.commit ++ bit_text (codes " committed") d.committed

-- whether its last commit failed, and its target type
unfoldable pub state_text : Decoder → List ℕ
state_text d = bit_text (codes " error") d.error ++ bit_text (codes " host-only") d.host_only

-- its eight words, from base low to the one that is reserved
unfoldable pub words_text : Decoder → List ℕ
words_text d = codes " words " ++ shown_words_text (words_of d)

-- ---- lines

-- the line of node n's block
abbrev pub block_line : List Node → ℕ → Registers → List ℕ
block_line nodes n block = line (block_text nodes n ++ head_text block)

-- the line of decoder i of node n: what stands in its words, and the words
abbrev pub decoder_line : List Node → ℕ → Bool → ℕ × Decoder → List ℕ
decoder_line nodes n endpoint (i, d) =
    line (place_text nodes n i ++ range_text d ++ decoder_text d ++ codes_text d ++ commit_text d ++ state_text d ++ tail_text endpoint d ++ words_text d)

-- the block of node n, and its decoders
abbrev pub block_lines : List Node → ℕ × Registers → List ℕ
block_lines nodes (n, block) =
    block_line nodes n block ++ flat_map (decoder_line nodes n block.endpoint) (enumerate_from 0 block.decoders)

-- all blocks, by node
abbrev pub blocks_text : List Node → List Registers → List ℕ
blocks_text nodes blocks = flat_map (block_lines nodes) (enumerate_from 0 blocks)

-- ---- what telling them comes to

-- the first of the files that has no reading, or the lines of all blocks of the image over the tree
pub data AreDecoders (topo image : List ℕ) (outcome : Outcome) : Type 0 where
  no_tree : StandForNoTree topology_name topo outcome → AreDecoders topo image outcome
  no_image : (tree : Tree) → IsTreeReading topo tree → HoldNoImage image_name image tree.nodes outcome → AreDecoders topo image outcome
  blocks : (tree : Tree) (blocks : List Registers) → IsTreeReading topo tree → IsImageReading image tree.nodes blocks → outcome ≡ told (blocks_text tree.nodes blocks) → AreDecoders topo image outcome
