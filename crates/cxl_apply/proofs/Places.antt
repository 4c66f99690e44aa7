-- A write to a word of one decoder of a block.
use Rattle.std.proofs.Common.{◌≡◌, ℕ, ◌%◌, ◌<◌, ◌≤◌, false, List, set, Option, Some, refl, sym, ap, ◌∙◌, arith}
use Rattle.std.specs.Prelude.{slice_get, slice_set, nat_lt}
use Rattle.std.specs.Option.{option_map_or}
use Rattle.std.proofs.lemmas.Bool.{le-ltb}
use Rattle.std.proofs.lemmas.List.{set-set, set-get_or}
use Rattle.std.proofs.lemmas.Option.{slice_get_within, get_or_from_slice_get}
use Rattle.cxl_enc.proofs.Lists.{get_same}
use Rattle.cxl_regs.specs.declared.decoder.Decoder.{Decoder}
use Rattle.cxl_regs.specs.declared.effect.Effect.{Effect}
use Rattle.cxl_regs.specs.Registers.{Registers}
use Rattle.cxl_regs.specs.Words.{index_at, place_at, offset_of}
use Rattle.cxl_regs.specs.Writes.{AfterWrite, with_decoder, after_decoder, after_word}
use Rattle.cxl_regs.specs.Blocks.{blocks_after}

-- ---- lists with one element set

pub set_there : {X : Type 0} (xs : List X) (i : ℕ) (x : X) → slice_get xs i ≡ Some x → set xs i x ≡ xs
set_there xs i x here = ap (set xs i) (sym (get_or_from_slice_get xs i x x here)) ∙ set-get_or xs i x

-- ---- the decoder at an offset

outcome_there : (block : Registers) (off v i p : ℕ) (d : Decoder) → off % 4 ≡ 0 → 16 ≤ off → index_at off ≡ i → place_at off ≡ p → slice_get block.decoders i ≡ Some d
    → after_word block off v ≡ after_decoder block i d p v
unfolding after_word
outcome_there block off v i p d whole far index place here =
    let past : nat_lt off 16 ≡ false = le-ltb off 16 far in
    rw (whole, past, index, place, here) refl

pub outcome_at : (block : Registers) (i p v : ℕ) (d : Decoder) → p < 8 → slice_get block.decoders i ≡ Some d → after_word block (offset_of i p) v ≡ after_decoder block i d p v
outcome_at block i p v d word here = outcome_there block (offset_of i p) v i p d (omega arith) (omega arith) (omega arith) (omega arith) here

-- ---- one decoder of one node

-- decoder i of a node's block takes these registers
abbrev pub put : List Registers → ℕ → Registers → ℕ → Decoder → List Registers
put blocks n block i d = set blocks n (with_decoder block i d)

-- the block stands there, and has such a decoder
pub record IsThere (blocks : List Registers) (n : ℕ) (block : Registers) (i : ℕ) (d : Decoder) : Type 0 where
  pub block_here : slice_get blocks n ≡ Some block
  pub here : slice_get block.decoders i ≡ Some d

pub same_put : (blocks : List Registers) (n : ℕ) (block : Registers) (i : ℕ) (d : Decoder) → IsThere blocks n block i d → put blocks n block i d ≡ blocks
same_put blocks n block i d is =
    ap (λ (ds : List Decoder). set blocks n (record block { decoders = ds })) (set_there block.decoders i d is.here) ∙ set_there blocks n block is.block_here

-- a write to the decoder that was put there puts another
pub put_step : (blocks : List Registers) (n : ℕ) (block : Registers) (i p v : ℕ) (d0 d new : Decoder) (effect : Effect) → IsThere blocks n block i d0 → p < 8
    → after_decoder (with_decoder block i d) i d p v ≡ record { block = with_decoder (with_decoder block i d) i new; effect = effect }
    → blocks_after (put blocks n block i d) n (offset_of i p) v ≡ put blocks n block i new
put_step blocks n block i p v d0 d new effect is word outcome =
    ap (λ (o : Option Registers). option_map_or (λ b. slice_set (put blocks n block i d) n (after_word b (offset_of i p) v).block) o (put blocks n block i d)) block_there
    ∙ ap (λ (o : AfterWrite). slice_set (put blocks n block i d) n o.block) (outcome_at (with_decoder block i d) i p v d word there ∙ outcome)
    ∙ set-set blocks n (with_decoder block i d) (with_decoder (with_decoder block i d) i new)
    ∙ ap (λ (ds : List Decoder). set blocks n (record block { decoders = ds })) (set-set block.decoders i d new)
  where
    block_there : slice_get (put blocks n block i d) n ≡ Some (with_decoder block i d)
    block_there = get_same blocks n (with_decoder block i d) (slice_get_within blocks n block is.block_here)

    there : slice_get (with_decoder block i d).decoders i ≡ Some d
    there = get_same block.decoders i d (slice_get_within block.decoders i d0 is.here)
