-- The index of the shipped media: a table of cells that is probed upwards from a block's home.
use Rattle.std.specs.Prelude.{◌≡◌, ◌≢◌, ℕ, ◌<◌, ◌≤◌, Bool, false, List, [], ◌∷◌, length, slice_index_or, Option, None, Some, IsSome}
use Rattle.std.specs.FinMap.{FinMap, from_entries}
use Rattle.cxl_media.specs.Blocks.{Key, key_cmp}
use Rattle.cxl_media.specs.declared.cell.Cell.{Cell}

-- the endpoint and the number of the block in a cell
abbrev pub key_at : Cell → Key
key_at cell = (cell.ep, cell.number)

-- cells, each of which holds a block or none
abbrev pub Cells : Type 0
Cells = List (Option Cell)

-- what the cell at a place holds
abbrev pub cell_at : Cells → ℕ → Option Cell
cell_at cells at = slice_index_or cells at None

-- the blocks in the order of the cells, each with the number of its frame
abbrev pub items_in : Cells → List (Key × ℕ)
items_in [] = []
items_in (None ∷ rest) = items_in rest
items_in (Some cell ∷ rest) = (key_at cell, cell.frame) ∷ items_in rest

-- the frame of each block
abbrev pub frames_in : Cells → FinMap key_cmp ℕ
frames_in cells = from_entries (items_in cells)

-- a block stands at the cell and passes the test
abbrev pub passes : (Key → Bool) → Option Cell → Bool
passes test None = false
passes test (Some cell) = test (key_at cell)

-- no block stands twice
abbrev pub IsOnce : Cells → Type 0
IsOnce cells = (k m : ℕ) (p q : Cell) → cell_at cells k ≡ Some p → cell_at cells m ≡ Some q → key_at p ≡ key_at q → k ≡ m

-- each cell from one up to another is taken
abbrev pub AreTaken : Cells → ℕ → ℕ → Type 0
AreTaken cells from to = (m : ℕ) → from ≤ m → m < to → IsSome (cell_at cells m)

-- a probe from a block's home meets the block before an empty cell
pub record IsTable (home : Key → ℕ) (cells : Cells) : Type 0 where
  pub once : IsOnce cells
  pub above : (k : ℕ) (p : Cell) → cell_at cells k ≡ Some p → home (key_at p) ≤ k
  pub reach : (k : ℕ) (p : Cell) → cell_at cells k ≡ Some p → AreTaken cells (home (key_at p)) k

-- a probe for a block stops at the block and at an empty cell
abbrev pub StopsProbe : Key → Option Cell → Type 0
StopsProbe key None = Unit {0}
StopsProbe key (Some cell) = key_at cell ≡ key

-- the first cell from the home on at which a probe stops, or past the last cell
pub record IsStop (cells : Cells) (home : ℕ) (key : Key) (at : ℕ) : Type 0 where
  pub within : at ≤ length cells
  pub passed : (m : ℕ) → home ≤ m → m < at → ¬ (StopsProbe key (cell_at cells m))
  pub stops : at < length cells → (home ≤ at) × StopsProbe key (cell_at cells at)

-- each cell from one up to another is taken but for a hole
abbrev pub AreTakenBut : Cells → ℕ → ℕ → ℕ → Type 0
AreTakenBut cells hole from to = (m : ℕ) → from ≤ m → m < to → m ≢ hole → IsSome (cell_at cells m)

-- a table from which a block was taken out, and nothing was moved yet
pub record HasHole (home : Key → ℕ) (cells : Cells) (hole : ℕ) : Type 0 where
  pub within : hole < length cells
  pub empty : cell_at cells hole ≡ None
  pub once : IsOnce cells
  pub above : (k : ℕ) (p : Cell) → cell_at cells k ≡ Some p → home (key_at p) ≤ k
  pub reach : (k : ℕ) (p : Cell) → cell_at cells k ≡ Some p → AreTakenBut cells hole (home (key_at p)) k

-- no block from a cell on passes the test
abbrev pub NonePass : (Key → Bool) → Cells → ℕ → Type 0
NonePass test cells from = (k : ℕ) (p : Cell) → from ≤ k → cell_at cells k ≡ Some p → test (key_at p) ≡ false
