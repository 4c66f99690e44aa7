-- What is known of an image before its ranges are judged.
use Rattle.std.specs.Prelude.{◌≡◌, ℕ, true, Some}
use Rattle.cxl_regs.specs.declared.decoder.Decoder.{Decoder}
use Rattle.cxl_model.specs.System.{System, decoder_at}

-- decoder i of node n is committed, with these registers
pub record IsCommitted (s : System) (n i : ℕ) (d : Decoder) : Type 0 where
  pub there : decoder_at s n i ≡ Some d
  pub committed : d.committed ≡ true
