-- Which blocks there are.
use Rattle.std.proofs.Common.{◌≡◌, ℕ, ◌<◌, length, Some, inl, inr}
use Rattle.std.proofs.lemmas.Bool.{cases_lt}
use Rattle.std.proofs.lemmas.Option.{none-some, slice_get_past}
use Rattle.cxl_regs.specs.declared.reading.Range.{Range}
use Rattle.cxl_model.specs.System.{System}
use Rattle.cxl_model.specs.Ranges.{index_for}

-- a node with a decoder of a range has a block
pub has_block : (s : System) (r : Range) (n i : ℕ) → index_for s r n ≡ Some i → n < length s.blocks
has_block s r n i is =
    elim (cases_lt n (length s.blocks)) [
      | inl within ↦ within
      | inr past ↦ let none = slice_get_past s.blocks n past in absurd (none-some i (rw none at is))
    ]
