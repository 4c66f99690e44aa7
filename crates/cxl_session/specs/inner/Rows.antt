-- The decoders of a region, by the blocks of an image alone.
use Rattle.std.specs.Prelude.{◌≡◌, ◌+◌, Bool, List, drop, Option, Some, option_map}
use Rattle.cxl_regs.specs.Registers.{Registers}
use Rattle.cxl_regs.specs.Writes.{any_committed}
use Rattle.cxl_model.specs.declared.plan.Row.{Row}
use Rattle.cxl_walk.specs.declared.own.Own.{Own}
use Rattle.cxl_model.specs.System.{System, decoders_at, decoder_at, blocks_alone}

-- the row's decoder is locked
abbrev pub is_locked : Row → Bool
is_locked row = row.decoder.lock

-- another decoder above the row's is committed
abbrev pub is_not_last : System → Row → Bool
is_not_last s row = any_committed (drop (row.index + 1) (decoders_at s row.node))

-- the row's decoder stands there
abbrev pub IsRowOf : List Registers → Row → Type 0
IsRowOf blocks row = decoder_at (blocks_alone blocks) row.node row.index ≡ Some row.decoder

-- the row of a region's own decoder, where that stands
abbrev pub row_at : List Registers → Own → Option Row
row_at blocks own = option_map (λ d. record { node = own.node; index = own.index; decoder = d }) (decoder_at (blocks_alone blocks) own.node own.index)
