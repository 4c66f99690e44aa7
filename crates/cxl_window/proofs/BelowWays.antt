-- A position is below the number of ways.
use Rattle.std.proofs.Common.{◌≡◌, ℕ, ◌+◌, ◌*◌, ◌/◌, ◌%◌, ◌^◌, ◌<◌, Bool, true, false, Some, None, subst, arith}
use Rattle.std.specs.Prelude.{◌&&◌, if◌then◌else◌}
use Rattle.std.proofs.Math.Nat.{mod-lt}
use Rattle.std.proofs.Math.Pow.{pow_pos}
use Rattle.std.proofs.lemmas.Bool.{cond_both}
use Rattle.std.proofs.lemmas.Nat.{mul-add-lt}
use Rattle.cxl_enc.specs.Codes.{third_of, bits_of}
use Rattle.cxl_enc.proofs.Tables.{factored}
use Rattle.cxl_enc.proofs.Ways.{some_third}
use Rattle.cxl_num.specs.Laws.{ParitiesTellRawBits}
use Rattle.cxl_window.specs.Fields.{WindowFields, IsWindow}
use Rattle.cxl_window.specs.Position.{parities_of, chunk_of, low_of, position_of, position_at, is_usable, holds}

-- a low part and a third
two_parts : (low third power thirds ways : ℕ) → low < power → third < thirds → ways ≡ thirds * power → low + power * third < ways
two_parts low third power thirds ways p q product = omega (arith, mul-add-lt third power low thirds q p)

some_of : (b : Bool) (p position : ℕ) → (if b then Some p else None) ≡ Some position → p ≡ position
some_of true p position e = cc
some_of false p position e = cc

-- by the law of parities
module _ (told : ParitiesTellRawBits) where
  low_of-lt : (w : WindowFields) (h : ℕ) → low_of w h < 2 ^ bits_of w.ways
  low_of-lt w h =
      cond_both w.xor (parities_of w h) (chunk_of w h % 2 ^ bits_of w.ways) (λ low. low < 2 ^ bits_of w.ways)
      (λ xor. told.below (bits_of w.ways) h w.maps) (λ plain. mod-lt (chunk_of w h) (pow_pos (bits_of w.ways)))

  pub position_of-lt : (w : WindowFields) (h : ℕ) → IsWindow w → position_of w h < w.ways
  position_of-lt w h window =
      two_parts (low_of w h) (chunk_of w h / 2 ^ bits_of w.ways % third_of w.ways) (2 ^ bits_of w.ways) (third_of w.ways) w.ways
      (low_of-lt w h) (mod-lt (chunk_of w h / 2 ^ bits_of w.ways) (some_third w.ways)) (factored w.ways window.ways_known).product

  pub position_at-lt : (w : WindowFields) (h position : ℕ) → IsWindow w → position_at w h ≡ Some position → position < w.ways
  position_at-lt w h position window there =
      let same = some_of (is_usable w.verdict && holds w h) (position_of w h) position there in
      subst (λ (p : ℕ). p < w.ways) same (position_of-lt w h window)
