-- The blocks of several nodes, in node order.
use Rattle.std.specs.Prelude.{ℕ, List, slice_get, slice_set, Option, option_and_then, IsSomeAnd}
use Rattle.std.specs.Option.{option_map_or}
use Rattle.cxl_regs.specs.Registers.{Registers}
use Rattle.cxl_regs.specs.Words.{word_at, HasWord}
use Rattle.cxl_regs.specs.Writes.{after_word}

-- the node is one of them, and its block has a word at the offset
abbrev pub IsPlace : List Registers → ℕ → ℕ → Type 0
IsPlace blocks node off = IsSomeAnd (slice_get blocks node) (λ block. HasWord block off)

-- what reads in the old blocks reads in the new ones
abbrev pub HasPlacesOf : List Registers → List Registers → Type 0
HasPlacesOf blocks new = (node off : ℕ) → IsPlace blocks node off → IsPlace new node off

-- the word at an offset of a node's block
abbrev pub word_in : List Registers → ℕ → ℕ → Option ℕ
word_in blocks node off = option_and_then (λ block. word_at block off) (slice_get blocks node)

-- a write changes the block of its node and no other
abbrev pub blocks_after : List Registers → ℕ → ℕ → ℕ → List Registers
blocks_after blocks node off v =
    option_map_or (λ block. slice_set blocks node (after_word block off v).block) (slice_get blocks node) blocks
