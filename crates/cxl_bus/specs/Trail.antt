-- The writes that a bus has sent.
use Rattle.std.specs.Prelude.{ℕ, List, [], ◌∷◌, ◌++◌, fold, Option, option_map}
use Rattle.cxl_regs.specs.Registers.{Registers}
use Rattle.cxl_regs.specs.Blocks.{blocks_after}
use Rattle.cxl_bus.specs.declared.sent.Sent.{Sent}

-- the trail after one more write, where the trail is told, also of one that the block drops
abbrev pub trail_after : Option (List Sent) → ℕ → ℕ → ℕ → Option (List Sent)
trail_after trail node off value =
    option_map (λ sent. sent ++ record { node = node; off = off; value = value } ∷ []) trail

-- the trail after these words, where the trail is told
abbrev pub trail_with : Option (List Sent) → List Sent → Option (List Sent)
trail_with trail words = option_map (λ sent. sent ++ words) trail

-- the blocks after these words, in order
abbrev pub blocks_sent : List Registers → List Sent → List Registers
blocks_sent blocks words = fold (λ now (word : Sent). blocks_after now word.node word.off word.value) blocks words
