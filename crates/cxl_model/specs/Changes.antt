-- Images of one host that have the same decoders of a range, and those with one range more.
use Rattle.std.specs.Prelude.{◌≡◌, ℕ, ◌≤◌, ◌⊎◌, ◌↔◌, true, Some}
use Rattle.cxl_regs.specs.declared.decoder.Decoder.{Decoder}
use Rattle.cxl_model.specs.System.{System, decoder_at}
use Rattle.cxl_regs.specs.Reading.{has_range}
use Rattle.cxl_regs.specs.declared.reading.Range.{Range}
use Rattle.cxl_model.specs.Ranges.{IsCommittedRange}

-- where decoder i of a node has the range, the other image has the same decoders of that node up to i
abbrev pub KeepsDecoders : System → System → Range → Type 0
KeepsDecoders s t r = (n i j : ℕ) (d : Decoder) → decoder_at s n i ≡ Some d → has_range r d ≡ true → j ≤ i → decoder_at t n j ≡ decoder_at s n j

-- the same nodes and windows, and wherever a decoder of one image has the range, the same decoders up to it
pub record HaveSameDecoders (s t : System) (r : Range) : Type 0 where
  pub nodes : t.nodes ≡ s.nodes
  pub windows : t.windows ≡ s.windows
  pub there : KeepsDecoders s t r
  pub back : KeepsDecoders t s r

-- where decoder i of a node has the range, the other image has it there too, whatever its decoders below i are
abbrev pub KeepsOwnDecoders : System → System → Range → Type 0
KeepsOwnDecoders s t r = (n i : ℕ) (d : Decoder) → decoder_at s n i ≡ Some d → has_range r d ≡ true → decoder_at t n i ≡ Some d

-- the same nodes, and the same decoders of the range in the same places
pub record HaveSameOwnDecoders (s t : System) (r : Range) : Type 0 where
  pub nodes : t.nodes ≡ s.nodes
  pub there : KeepsOwnDecoders s t r
  pub back : KeepsOwnDecoders t s r

-- the committed ranges of the second image are those of the first and one more
pub record AddsOneRange (s t : System) (r : Range) : Type 0 where
  pub each : (q : Range) → IsCommittedRange t q ↔ (IsCommittedRange s q ⊎ (q ≡ r))
  pub new : IsCommittedRange s r → ⊥
