-- What a decoder block holds, with its registers as records (CXL HDM decoder capability).
use Rattle.std.specs.Prelude.{◌≡◌, ℕ, ◌%◌, ◌^◌, ◌<◌, Bool, true, false, not, IsTrue, List, length, All, replicate}
use Rattle.cxl_enc.specs.Caps.{is_legal_cap, decoders_code, decoders_of}
use Rattle.cxl_enc.specs.Limits.{unit}
use Rattle.cxl_regs.specs.declared.decoder.Decoder.{Decoder}

-- a capability word, whether the block is an endpoint's, whether it decodes, and its decoders in order
pub record Registers : Type 0 where
  pub cap : ℕ
  pub endpoint : Bool
  pub enabled : Bool
  pub decoders : List Decoder

-- 64 bits, of which 27:0 are clear: a multiple of 256 MiB
pub record IsAligned (n : ℕ) : Type 0 where
  pub multiple : n % unit ≡ 0
  pub wide : n < 2 ^ 64

-- what the words of a decoder can hold
pub record IsDecoder (endpoint : Bool) (d : Decoder) : Type 0 where
  pub base : IsAligned d.base
  pub size : IsAligned d.size
  pub ways : d.ways < 16
  pub gran : d.gran < 16
  pub tail : d.tail < 2 ^ 64
  -- an endpoint's skip counts its bits 63:28 alone, a port's target list all its bits
  pub skip : endpoint ≡ true → d.tail % unit ≡ 0

-- what every block is: it has the decoders of its capability word, and a port always decodes (this project's rule)
pub record IsBlock (block : Registers) : Type 0 where
  pub cap : IsTrue (is_legal_cap block.cap block.endpoint)
  pub enabled : block.endpoint ≡ false → block.enabled ≡ true
  pub count : length block.decoders ≡ decoders_of (decoders_code block.cap)
  pub each : All (IsDecoder block.endpoint) block.decoders

-- a decoder after reset
abbrev pub reset_decoder : Decoder
reset_decoder =
    record { base = 0; size = 0; ways = 0; gran = 0; lock = false; commit = false; committed = false; error = false; host_only = false; tail = 0 }

-- every word 0 but the capability
abbrev pub reset_block : ℕ → Bool → Registers
reset_block cap endpoint =
    record { cap = cap; endpoint = endpoint; enabled = not endpoint; decoders = replicate (decoders_of (decoders_code cap)) reset_decoder }

-- a block of the same node: its capability word, its kind and the number of its decoders are the same
pub record IsSameShape (block new : Registers) : Type 0 where
  pub cap : new.cap ≡ block.cap
  pub endpoint : new.endpoint ≡ block.endpoint
  pub count : length new.decoders ≡ length block.decoders
