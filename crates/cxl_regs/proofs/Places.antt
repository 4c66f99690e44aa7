-- A write leaves each word where it was.
use Rattle.std.proofs.Common.{◌≡◌, ℕ, zero, suc, List, [], ◌∷◌, length, Some, ap, inl, inr, arith}
use Rattle.std.specs.Prelude.{slice_get, slice_set}
use Rattle.std.proofs.lemmas.Option.{same_Some, slice_get_cases}
use Rattle.cxl_regs.specs.Registers.{Registers, IsSameShape}
use Rattle.cxl_regs.specs.Writes.{after_word}
use Rattle.cxl_regs.specs.Blocks.{HasPlacesOf, blocks_after}
use Rattle.cxl_regs.proofs.Shape.{after_word_shape}

-- with one block in the place of another of the same shape
shape_places : (blocks : List Registers) (node : ℕ) (old new : Registers) → slice_get blocks node ≡ Some old → IsSameShape old new
    → HasPlacesOf blocks (slice_set blocks node new)
shape_places [] node old new here shape n off place = absurd place
shape_places (b ∷ bs) zero old new here shape zero off place =
    let count = ap (λ (block : Registers). length block.decoders) (same_Some b old here) in
    let same = shape.count in
    let inside = place.inside in
    record { whole = place.whole; inside = omega arith }
shape_places (b ∷ bs) zero old new here shape (suc n) off place = place
shape_places (b ∷ bs) (suc node) old new here shape zero off place = place
shape_places (b ∷ bs) (suc node) old new here shape (suc n) off place = shape_places bs node old new here shape n off place

pub places_stay : (blocks : List Registers) (node off v : ℕ) → HasPlacesOf blocks (blocks_after blocks node off v)
places_stay blocks node off v = elim (slice_get_cases blocks node).1 [
  | inl here ↦ rw here.2 (shape_places blocks node here.0 (after_word here.0 off v).block here.2 (after_word_shape here.0 off v))
  | inr past ↦ rw past.1 (λ n o place. place)
]
