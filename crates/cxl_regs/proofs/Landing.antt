-- What a write to a decoder's reserved word does, and one to the control of a committed decoder.
use Rattle.std.proofs.Common.{◌≡◌, ℕ, ◌+◌, true, false, ◌||◌, drop, refl}
use Rattle.cxl_regs.specs.declared.decoder.Decoder.{Decoder}
use Rattle.cxl_regs.specs.declared.effect.Effect.TheVariants.{Released}
use Rattle.cxl_regs.specs.Registers.{Registers}
use Rattle.cxl_regs.specs.Words.{has_bit}
use Rattle.cxl_regs.specs.Writes.{dropped, any_committed, with_decoder, after_release, after_decoder}

pub is_reserved : (block : Registers) (i : ℕ) (d : Decoder) (place v : ℕ) → place ≡ 7 → after_decoder block i d place v ≡ dropped block
is_reserved block i d place v is = rw is refl

-- the control of a committed decoder
module _ (block : Registers) (i : ℕ) (d : Decoder) (v : ℕ) where
  pub stays : (d.lock || has_bit v 9 || any_committed (drop (i + 1) block.decoders)) ≡ true → after_release block i d v ≡ dropped block
  stays is = rw is refl

  pub goes : (d.lock || has_bit v 9 || any_committed (drop (i + 1) block.decoders)) ≡ false
      → after_release block i d v ≡ record { block = with_decoder block i (record d { commit = false; committed = false }); effect = Released }
  goes is = rw is refl
