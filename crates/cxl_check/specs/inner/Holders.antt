-- How many decoders of a block have a range.
use Rattle.std.specs.Prelude.{◌≡◌, ℕ, true, List, Some, slice_get}
use Rattle.cxl_regs.specs.declared.decoder.Decoder.{Decoder}
use Rattle.cxl_regs.specs.declared.reading.Range.{Range}
use Rattle.cxl_regs.specs.Reading.{has_range}

-- no two of the decoders are committed with the range
abbrev pub HasOneHolder : Range → List Decoder → Type 0
HasOneHolder r decoders =
    (i j : ℕ) (d e : Decoder) → slice_get decoders i ≡ Some d → slice_get decoders j ≡ Some e
    → has_range r d ≡ true → has_range r e ≡ true → i ≡ j
