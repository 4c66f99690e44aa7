-- The one file of an image in which all that does not count is zero.
use Rattle.std.specs.Prelude.{ℕ, List, ◌++◌, length, codes}
use Rattle.std.specs.List.{flat_map}
use Rattle.byteorder.specs.Endian.{little_bytes}
use Rattle.cxl_regs.specs.Registers.{Registers}
use Rattle.cxl_regs.specs.Words.{head_words, words_of}

-- a word in four bytes, lowest first
unfoldable pub word_bytes : ℕ → List ℕ
word_bytes n = little_bytes 4 n

-- words, one after the other
unfoldable pub words_text : List ℕ → List ℕ
words_text words = flat_map word_bytes words

-- all words of a block, from offset 0 on
abbrev pub block_words : Registers → List ℕ
block_words block = head_words block ++ flat_map words_of block.decoders

-- the bytes of a block's words
abbrev pub block_text : Registers → List ℕ
block_text block = words_text (block_words block)

-- the magic, the number of nodes, and their blocks, with zero where nothing counts
abbrev pub image_text : List Registers → List ℕ
image_text blocks = codes "CXLHDM01" ++ word_bytes (length blocks) ++ flat_map block_text blocks
