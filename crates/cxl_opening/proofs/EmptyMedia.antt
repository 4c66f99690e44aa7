-- Media that holds no block.
use Rattle.std.proofs.Common.{◌≡◌, ℕ, ap, ◌∙◌}
use Rattle.std.specs.FinMap as finmap
use Rattle.cxl_media.specs.Blocks.{Blocks}
use Rattle.cxl_media.specs.MediaState.{MediaState}
use Rattle.cxl_opening.specs.Opening.{empty_media}

pub media_is : (media : MediaState) (frames : ℕ) → media.blocks ≡ finmap.empty → media.free ≡ frames → media ≡ empty_media frames
media_is media frames blocks free = ap (λ (b : Blocks). state b media.free) blocks ∙ ap (λ (n : ℕ). state finmap.empty n) free
  where
    state : Blocks → ℕ → MediaState
    state b n = record { blocks = b; free = n }
