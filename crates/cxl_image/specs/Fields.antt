-- The fields of an image file (this project's rule): eight bytes of magic, the number of nodes in four, and then for
-- each node in order all words of its decoder block.
use Rattle.std.specs.Prelude.{ℕ, ◌+◌, ◌*◌, ◌/◌, ◌%◌, ◌^◌, Bool, not, ◌||◌, nat_eq, List, length, map, take, drop, sum_by, codes}
use Rattle.std.specs.List.{starts_with, range_with_len}
use Rattle.byteorder.specs.Endian.{little_number}
use Rattle.cxl_enc.specs.Bits.{global_enable}
use Rattle.cxl_enc.specs.Caps.{decoders_code, decoders_of}
use Rattle.cxl_enc.specs.Limits.{node_limit}
use Rattle.cxl_regs.specs.declared.decoder.Decoder.{Decoder}
use Rattle.cxl_regs.specs.Registers.{Registers}
use Rattle.cxl_regs.specs.Words.{has_bit, decoder_of}
use Rattle.cxl_topo.specs.declared.node.Node.{Node}
use Rattle.cxl_topo.specs.Kinds.{is_endpoint}

-- ---- places

-- how many decoders the block of a node has
abbrev pub decoder_count : Node → ℕ
decoder_count node = decoders_of (decoders_code node.cap)

-- how many bytes its words take
abbrev pub block_size : Node → ℕ
block_size node = 16 + 32 * decoder_count node

-- the byte place at which the block of node i begins
abbrev pub start_of : List Node → ℕ → ℕ
start_of nodes i = 12 + sum_by block_size (take i nodes)

-- the byte place at which the last block ends
abbrev pub end_of : List Node → ℕ
end_of nodes = start_of nodes (length nodes)

-- no image file is longer: twelve bytes, and the sixteen and ten decoders of 1,024 blocks
abbrev pub image_limit : ℕ
image_limit = 12 + node_limit * (16 + 32 * 10)

-- ---- what stands there

-- it begins with the eight letters
abbrev pub has_magic : List ℕ → Bool
has_magic bytes = starts_with nat_eq bytes (codes "CXLHDM01")

-- the word at a byte place, lowest byte first
unfoldable pub word_from : List ℕ → ℕ → ℕ
word_from bytes at = little_number 4 (drop at bytes)

-- so many words, one after the other
unfoldable pub words_from : List ℕ → ℕ → ℕ → List ℕ
words_from bytes at n = map (λ k. word_from bytes (at + 4 * k)) (range_with_len 0 n)

-- the number of nodes that the file states
abbrev pub count_said : List ℕ → ℕ
count_said bytes = word_from bytes 8

-- the bits of a capability word that stand for something: 9 to 0, 11 and 12
unfoldable pub named_bits : ℕ → ℕ
named_bits cap = cap % 2 ^ 10 + 2 ^ 11 * (cap / 2 ^ 11 % 4)

-- the decoder of the eight words at a byte place, in an endpoint's or a port's block
abbrev pub decoder_from : List ℕ → Bool → ℕ → Decoder
decoder_from bytes endpoint at = decoder_of (words_from bytes at 8) endpoint

-- the block of a node from a byte place on: bits that do not count are dropped, and all of a port's word 0x4
abbrev pub block_from : List ℕ → ℕ → Node → Registers
block_from bytes at node = record {
  cap = node.cap;
  endpoint = is_endpoint node.kind;
  enabled = not (is_endpoint node.kind) || has_bit (word_from bytes (at + 4)) global_enable;
  decoders = map (λ i. decoder_from bytes (is_endpoint node.kind) (at + 16 + 32 * i)) (range_with_len 0 (decoder_count node));
}
