-- The index of the shipped media: a table with room for so many blocks.
use Rattle.std.specs.Prelude.{◌≡◌, ℕ, ◌*◌, ◌≤◌, length, count_by, is_some, refl}
use Rattle.std.specs.Coded.{Coded, code_by, coded×, coded_ℕ, coded_list, coded_option}
use Rattle.cxl_enc.specs.Limits.{frame_limit}
use Rattle.cxl_media.specs.declared.cell.Cell.{Cell}
use Rattle.cxl_media.specs.Table.{Cells, frames_in, IsOnce, IsTable}
use Rattle.cxl_media.specs.Hash.{home_of}

-- the index: cells, and its room
pub record Table : Type 0 where
  -- the blocks, each at its place
  pub cells : Cells
  -- how many blocks there is room for
  pub room : ℕ

-- a cell as a triple
abbrev pub coded_cell : Coded Cell
coded_cell =
    code_by (ℕ × (ℕ × ℕ)) (coded× coded_ℕ (coded× coded_ℕ coded_ℕ)) (λ p. (p.ep, (p.number, p.frame)))
    (λ t. record { ep = t.0; number = t.1.0; frame = t.1.1 }) (λ _. refl)

-- cells as a list of triples
abbrev pub coded_cells : Coded Cells
coded_cells = coded_list (coded_option coded_cell)

-- as a pair
abbrev pub coded_table : Coded Table
coded_table =
    code_by (Cells × ℕ) (coded× coded_cells coded_ℕ) (λ t. (t.cells, t.room))
    (λ p. record { cells = p.0; room = p.1 }) (λ _. refl)

-- two homes for each block that there is room for, and one cell more for each, so that a probe from any home meets
-- an empty cell; and the cells have the blocks that are kept, each of which stands at one place
pub record IsIndex (cells kept : Cells) (room : ℕ) : Type 0 where
  pub table : IsTable (home_of (2 * room)) cells
  pub size : length cells ≡ 3 * room
  pub small : room ≤ frame_limit
  pub once : IsOnce kept
  pub same : frames_in kept ≡ frames_in cells
  pub whole : count_by is_some kept ≡ length kept
  pub few : length kept ≤ room
