-- The bytes of a block that is not in the map.
use Rattle.std.proofs.Common.{◌≡◌, ℕ, ◌+◌, ◌-◌, ◌≤◌, length, replicate, take, ap, ◌∙◌, sym, arith}
use Rattle.std.proofs.lemmas.List.{length-replicate, take-replicate, drop-replicate}
use Rattle.cxl_media.specs.Pool.{zeros}
use Rattle.cxl_media.specs.Blocks.{bytes_from}

pub length-zeros : length zeros ≡ 256
unfolding zeros
length-zeros = length-replicate {A = ℕ} 256 0

-- each part of zeros is zeros
pub zeros_from : (at len : ℕ) → at + len ≤ 256 → replicate len 0 ≡ bytes_from zeros at len
unfolding zeros
zeros_from at len fits =
    let z : ℕ = 0 in
    sym (ap (take len) (drop-replicate at 256 z) ∙ take-replicate len (256 - at) z (omega arith))
