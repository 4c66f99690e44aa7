-- The words of a decoder block (CXL HDM decoder capability).
use Rattle.std.specs.Prelude.{◌≡◌, ℕ, ◌+◌, ◌-◌, ◌*◌, ◌/◌, ◌%◌, ◌^◌, ◌<◌, ◌==◌, nat_lt, Bool, ◌&&◌, if◌then◌else◌, List, [], ◌∷◌, length, slice_get, slice_index, Option, None, option_and_then}
pub use Rattle.cxl_enc.specs.Caps.{has_bit}
use Rattle.cxl_enc.specs.Caps.{bit_of}
use Rattle.cxl_enc.specs.Bits.{control_lock, control_commit, control_committed, control_error, control_host_only}
use Rattle.cxl_regs.specs.declared.decoder.Decoder.{Decoder}
use Rattle.cxl_regs.specs.Registers.{Registers}

-- the two words of a number of 64 bits
abbrev pub low_half : ℕ → ℕ
low_half n = n % 2 ^ 32

-- the upper 32 bits
abbrev pub high_half : ℕ → ℕ
high_half n = n / 2 ^ 32

-- bits 3:0 granularity, 7:4 ways, 8 lock, 9 commit, 10 committed, 11 error, 12 host-only
abbrev pub control_of : Decoder → ℕ
control_of d =
    d.gran + 16 * d.ways + 256 * bit_of d.lock + 512 * bit_of d.commit + 1024 * bit_of d.committed + 2048 * bit_of d.error
    + 4096 * bit_of d.host_only

-- base, size, control, tail; the eighth word is reserved
abbrev pub words_of : Decoder → List ℕ
words_of d =
    low_half d.base ∷ high_half d.base ∷ low_half d.size ∷ high_half d.size ∷ control_of d ∷ low_half d.tail
    ∷ high_half d.tail ∷ 0 ∷ []

-- bits 31:28 of a word, those of a low word that count
abbrev pub top_bits : ℕ → ℕ
top_bits v = v / 2 ^ 28 * 2 ^ 28

-- the registers that eight words stand for; bits that do not count are dropped
unfoldable pub decoder_of : List ℕ → Bool → Decoder
decoder_of words endpoint =
    let at : ℕ → ℕ = slice_index words in
    record {
      base = at 1 * 2 ^ 32 + top_bits (at 0);
      size = at 3 * 2 ^ 32 + top_bits (at 2);
      gran = at 4 % 16;
      ways = at 4 / 16 % 16;
      lock = has_bit (at 4) control_lock;
      commit = has_bit (at 4) control_commit;
      committed = has_bit (at 4) control_committed;
      error = has_bit (at 4) control_error;
      host_only = has_bit (at 4) control_host_only;
      tail = at 6 * 2 ^ 32 + (if endpoint then top_bits (at 5) else at 5);
    }

-- ---- where they stand

-- the bytes before the words of the first decoder, and the bytes of a decoder's words
abbrev pub head_size : ℕ
head_size = 0x10

-- the bytes of a decoder's registers
abbrev pub decoder_size : ℕ
decoder_size = 0x20

-- the offset of the global control of an endpoint
abbrev pub global_control : ℕ
global_control = 4

-- the places of a decoder's words among its eight; the last is reserved
abbrev pub base_low : ℕ
base_low = 0

-- the place of the upper half of the base
abbrev pub base_high : ℕ
base_high = 1

-- the place of the lower half of the size
abbrev pub size_low : ℕ
size_low = 2

-- the place of the upper half of the size
abbrev pub size_high : ℕ
size_high = 3

-- the place of the control word
abbrev pub control : ℕ
control = 4

-- the place of the lower half of a port's targets or an endpoint's skip
abbrev pub tail_low : ℕ
tail_low = 5

-- the place of the upper half of these
abbrev pub tail_high : ℕ
tail_high = 6

-- the place of the word that is reserved
abbrev pub reserved : ℕ
reserved = 7

-- the offset of the word at a place of decoder i
abbrev pub offset_of : ℕ → ℕ → ℕ
offset_of i place = head_size + decoder_size * i + 4 * place

-- which decoder's word stands at an offset, and at which place
abbrev pub index_at : ℕ → ℕ
index_at off = (off - head_size) / decoder_size

-- the place of the word at an offset among those of its decoder
abbrev pub place_at : ℕ → ℕ
place_at off = (off - head_size) % decoder_size / 4

-- the words before the decoders: the capability, the global control, and two that are reserved
abbrev pub head_words : Registers → List ℕ
head_words block = block.cap ∷ 2 * bit_of (block.endpoint && block.enabled) ∷ 0 ∷ 0 ∷ []

-- the word at an offset
abbrev pub word_at : Registers → ℕ → Option ℕ
word_at block off =
    if off % 4 == 0 then
    (if nat_lt off head_size then slice_get (head_words block) (off / 4)
    else option_and_then (λ d. slice_get (words_of d) (place_at off)) (slice_get block.decoders (index_at off)))
    else None

-- the offset is one that reads
pub record HasWord (block : Registers) (off : ℕ) : Type 0 where
  pub whole : off % 4 ≡ 0
  pub inside : off < head_size + decoder_size * length block.decoders
