use Rattle.std.proofs.Common.{◌≡◌, ℕ, ◌<◌, List, get_or}
use Rattle.cxl_media.specs.Blocks.{Key}
use Rattle.cxl_media.specs.MapInside.{items_of}
use Rattle.cxl_media.proofs.map_media.index_of_block.Given as goal

-- none of the blocks so far has the key
abbrev pub invariant-loop-at : goal.invariant-loop-at
invariant-loop-at l = (k : ℕ) → k < l.at → (d : Key × List ℕ) → (get_or (items_of l.blocks) k d).0 ≡ (l.ep, l.number) → ⊥
