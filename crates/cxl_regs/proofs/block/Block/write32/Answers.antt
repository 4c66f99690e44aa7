use Rattle.std.proofs.Common.{◌≡◌, ℕ, ◌%◌, ◌≤◌, length, Some, refl, sym, ap, ◌∙◌, arith}
use Rattle.std.proofs.lemmas.Bool.{eq-eqb, le-ltb}
use Rattle.std.proofs.lemmas.Option.{slice_get-get_or, slice_get_past}
use Rattle.std.specs.Prelude.{slice_get}
use Rattle.cxl_regs.specs.declared.decoder.Decoder.{Decoder}
use Rattle.cxl_regs.specs.Registers.{Registers, reset_decoder}
use Rattle.cxl_regs.specs.Words.{index_at, place_at}
use Rattle.cxl_regs.specs.Writes.{AfterWrite, dropped, after_decoder, after_word}
use Rattle.cxl_regs.proofs.Shape.{decoder_shape}
use Rattle.cxl_regs.proofs.block.Block.write32.Goals as goal

-- past the last decoder a write drops its value
word_past : (block : Registers) (off v : ℕ) → off % 4 ≡ 0 → 16 ≤ off → length block.decoders ≤ index_at off → after_word block off v ≡ dropped block
unfolding after_word
word_past block off v even past beyond =
    rw (eq-eqb (off % 4) 0 even, le-ltb off 16 past, slice_get_past block.decoders (index_at off) beyond) refl

-- at a decoder's place it does what that decoder's word does
word_lands : (block : Registers) (off v i place : ℕ) (d : Decoder) → off % 4 ≡ 0 → 16 ≤ off → i ≡ index_at off → place ≡ place_at off → slice_get block.decoders i ≡ Some d
    → after_word block off v ≡ after_decoder block i d place v
unfolding after_word
word_lands block off v i place d even past is_index is_place found = rw (eq-eqb (off % 4) 0 even, le-ltb off 16 past, sym is_index, sym is_place, found) refl

pub returns-then-index-from-clause-write : goal.returns-then-index-from-clause-write
returns-then-index-from-clause-write c =
    let count = ap (λ (block : Registers). length block.decoders) c.self-2.view_is in
    let after = word_past c.args.self.now c.args.off c.args.value (omega arith) (omega arith) (omega arith) in
    record { left = sym (ap (λ (after : AfterWrite). after.block) after); told = sym (ap (λ (after : AfterWrite). after.effect) after) }

pub returns-clause-write : goal.returns-clause-write
returns-clause-write c =
    let count = ap (λ (block : Registers). length block.decoders) c.self-2.view_is in
    let found = slice_get-get_or c.args.self.now.decoders c.index_at-index.result reset_decoder (omega arith) in
    let after = word_lands c.args.self.now c.args.off c.args.value c.index_at-index.result c.place_at.result _ (omega arith) (omega arith) c.index_at-index.ensures c.place_at.ensures.place found in
    record {
      left = c.write_decoder.ensures.left _ found ∙ sym (ap (λ (after : AfterWrite). after.block) after);
      told = c.write_decoder.ensures.told _ found ∙ sym (ap (λ (after : AfterWrite). after.effect) after);
    }

pub returns-clause-same_shape : goal.returns-clause-same_shape
returns-clause-same_shape c =
    let count = ap (λ (block : Registers). length block.decoders) c.self-2.view_is in
    let found = slice_get-get_or c.args.self.now.decoders c.index_at-index.result reset_decoder (omega arith) in
    rw (c.write_decoder.ensures.left _ found) (decoder_shape c.args.self.now c.index_at-index.result _ c.place_at.result c.args.value)
