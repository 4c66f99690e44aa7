-- The cells of the index by number: 0 where a cell is empty, and else one more than the place of its block.
use Rattle.std.specs.Prelude.{◌≡◌, ℕ, ◌*◌, ◌≤◌, List, map, length, slice_index, slice_index_or, Option, None, Some, refl}
use Rattle.std.proofs.Common.{zero, suc}
use Rattle.std.specs.Coded.{Coded, code_by, coded×}
use Rattle.cxl_enc.specs.Limits.{frame_limit}
use Rattle.cxl_media.specs.declared.cell.Cell.{Cell}
use Rattle.cxl_media.specs.declared.cell_list.KeptBlock.{KeptBlock}
use Rattle.cxl_media.specs.Table.{Cells, cell_at}
use Rattle.cxl_media.specs.Index.{coded_cells}

-- what stands at each cell, and the blocks that are kept, each at its place
pub record Listed : Type 0 where
  pub cells : Cells
  pub kept : Cells

-- as a pair
abbrev pub coded_listed : Coded Listed
coded_listed =
    code_by (Cells × Cells) (coded× coded_cells coded_cells) (λ l. (l.cells, l.kept))
    (λ p. record { cells = p.0; kept = p.1 }) (λ _. refl)

-- the block at each place
abbrev pub kept_of : List KeptBlock → Cells
kept_of places = map (λ place. Some place.cell) places

-- the block that a number names, of those that are kept
abbrev pub block_named : Cells → ℕ → Option Cell
block_named kept zero = None
block_named kept (suc n) = cell_at kept n

-- what stands at each cell, by its number
abbrev pub cells_of : List ℕ → Cells → Cells
cells_of numbers kept = map (block_named kept) numbers

-- a block at its place, with its cell; None past the last one
abbrev pub place_at : List KeptBlock → ℕ → Option KeptBlock
place_at places n = slice_index_or (map (λ place. Some place) places) n None

-- each number names a place that names its cell, each place's cell names it, and there is room for all blocks
pub record ArePlaced (numbers : List ℕ) (places : List KeptBlock) (room : ℕ) : Type 0 where
  pub own : (i n : ℕ) → slice_index numbers i ≡ suc n → (p : KeptBlock) × (place_at places n ≡ Some p) × (p.at ≡ i)
  pub named : (n : ℕ) (p : KeptBlock) → place_at places n ≡ Some p → slice_index numbers p.at ≡ suc n
  pub fits : length numbers ≤ 3 * room
  pub small : length numbers ≤ 3 * frame_limit
  pub few : length places ≤ frame_limit
