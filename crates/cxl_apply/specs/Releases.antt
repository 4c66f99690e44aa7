-- The decoders of a region, and the blocks with them released (this project's rules).
use Rattle.std.specs.Prelude.{ℕ, ◌+◌, false, List, length, fold, find, drop, slice_get, slice_set, Option, option_map, option_and_then}
use Rattle.std.specs.Option.{option_map_or}
use Rattle.std.specs.List.{filter_map, range_with_len}
use Rattle.cxl_regs.specs.declared.decoder.Decoder.{Decoder}
use Rattle.cxl_regs.specs.Registers.{Registers}
use Rattle.cxl_regs.specs.Writes.{any_committed}
use Rattle.cxl_model.specs.declared.found.Found.{Found}
use Rattle.cxl_model.specs.declared.plan.Row.{Row}
use Rattle.cxl_model.specs.System.{System, decoders_at, decoder_at}
use Rattle.cxl_regs.specs.declared.reading.Range.{Range}
use Rattle.cxl_model.specs.Ranges.{index_for}
use Rattle.cxl_model.specs.Regions.{region_range}

-- ---- a region's decoders

-- the decoder of a range in node n
abbrev pub row_for : System → Range → ℕ → Option Row
row_for s r n =
    option_and_then (λ i. option_map (λ d. record { node = n; index = i; decoder = d }) (decoder_at s n i)) (index_for s r n)

-- those of a region, in rising node order
abbrev pub rows_of : System → Found → List Row
rows_of s found = filter_map (row_for s (region_range found)) (range_with_len 0 (length s.nodes))

-- the first of them whose lock is set
abbrev pub first_locked : System → Found → Option Row
first_locked s found = find (λ (row : Row). row.decoder.lock) (rows_of s found)

-- the first of them above which another decoder of its node is committed
abbrev pub first_not_last : System → Found → Option Row
first_not_last s found = find (λ (row : Row). any_committed (drop (row.index + 1) (decoders_at s row.node))) (rows_of s found)

-- ---- the blocks without them

-- a committed decoder's registers once it is released
abbrev pub released : Decoder → Decoder
released d = record d { commit = false; committed = false }

-- the block in which the row's decoder is released
abbrev pub block_without_row : Row → Registers → Registers
block_without_row row block = record block { decoders = slice_set block.decoders row.index (released row.decoder) }

-- the blocks in which the row's decoder is released
abbrev pub blocks_without_row : List Registers → Row → List Registers
blocks_without_row blocks row =
    option_map_or (λ block. slice_set blocks row.node (block_without_row row block)) (slice_get blocks row.node) blocks

-- the region's decoders released: commit and committed clear, and all else as it was
abbrev pub blocks_without : System → Found → List Registers
blocks_without s found = fold blocks_without_row s.blocks (rows_of s found)

-- the image over its nodes and windows without them
abbrev pub system_without : System → Found → System
system_without s found = record s { blocks = blocks_without s found }
