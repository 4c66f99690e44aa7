-- A write keeps what every block is.
use Rattle.std.proofs.Common.{◌≡◌, ℕ, ◌+◌, ◌%◌, ◌^◌, ◌<◌, ◌==◌, Bool, true, false, cond, ◌&&◌, ◌||◌, not, ltb, List, length, drop, get_or, Option, Some, None, refl, sym, ◌∙◌, subst, arith}
use Rattle.std.proofs.lemmas.Bool.{false≢true}
use Rattle.std.proofs.lemmas.List.{length-set}
use Rattle.std.proofs.lemmas.List.Elements.{All-set}
use Rattle.std.proofs.lemmas.Option.{slice_get_within, slice_get-get_or, get_or_from_slice_get}
use Rattle.std.specs.Prelude.{slice_get, slice_set}
use Rattle.std.specs.Option.{option_map_or}
use Rattle.cxl_enc.proofs.Tests.{and_false}
use Rattle.cxl_regs.specs.declared.decoder.Decoder.{Decoder}
use Rattle.cxl_regs.specs.declared.effect.CommitRule.{CommitRule}
use Rattle.cxl_regs.specs.declared.effect.Effect.{Effect}
use Rattle.cxl_regs.specs.declared.effect.Effect.TheVariants.{Written, Committed, Released, NotCommitted}
use Rattle.cxl_regs.specs.Registers.{Registers, IsAligned, IsDecoder, IsBlock, reset_decoder}
use Rattle.cxl_regs.specs.Words.{has_bit, top_bits, index_at, place_at}
use Rattle.cxl_regs.specs.Rules.{first_broken_rule}
use Rattle.cxl_regs.specs.Writes.{AfterWrite, dropped, any_committed, with_decoder, with_low, with_high, with_word, with_control, after_global, after_commit, after_control, after_release, after_decoder, after_word}

-- ---- decoders

low_aligned : (n v : ℕ) → v < 2 ^ 32 → IsAligned n → IsAligned (with_low n (top_bits v))
low_aligned n v lt is = let wide = is.wide in record { multiple = omega arith; wide = omega arith }

high_aligned : (n v : ℕ) → v < 2 ^ 32 → IsAligned n → IsAligned (with_high n v)
high_aligned n v lt is = let multiple = is.multiple in record { multiple = omega arith; wide = omega arith }

either_decoder : (endpoint : Bool) (test : Bool) (x y : Decoder) → IsDecoder endpoint x → IsDecoder endpoint y → IsDecoder endpoint (cond test x y)
either_decoder endpoint true x y p q = p
either_decoder endpoint false x y p q = q

low_tail : (endpoint : Bool) (d : Decoder) (v : ℕ) → v < 2 ^ 32 → IsDecoder endpoint d → IsDecoder endpoint (record d { tail = with_low d.tail (cond endpoint (top_bits v) v) })
low_tail true d v lt is = let wide = is.tail in record { base = is.base; size = is.size; ways = is.ways; gran = is.gran; tail = omega arith; skip = λ e. omega arith }
low_tail false d v lt is = let wide = is.tail in record { base = is.base; size = is.size; ways = is.ways; gran = is.gran; tail = omega arith; skip = λ e. absurd (false≢true e) }

high_tail : (endpoint : Bool) (d : Decoder) (v : ℕ) → v < 2 ^ 32 → IsDecoder endpoint d → IsDecoder endpoint (record d { tail = with_high d.tail v })
high_tail endpoint d v lt is = record {
  base = is.base;
  size = is.size;
  ways = is.ways;
  gran = is.gran;
  tail = omega arith;
  skip = λ e. let multiple = is.skip e in omega arith;
}

word_decoder : (endpoint : Bool) (d : Decoder) (place v : ℕ) → v < 2 ^ 32 → IsDecoder endpoint d → IsDecoder endpoint (with_word endpoint d place v)
word_decoder endpoint d place v lt is =
    either_decoder endpoint (place == 0) _ _ (record { base = low_aligned d.base v lt is.base; size = is.size; ways = is.ways; gran = is.gran; tail = is.tail; skip = is.skip })
    (either_decoder endpoint (place == 1) _ _ (record { base = high_aligned d.base v lt is.base; size = is.size; ways = is.ways; gran = is.gran; tail = is.tail; skip = is.skip })
    (either_decoder endpoint (place == 2) _ _ (record { base = is.base; size = low_aligned d.size v lt is.size; ways = is.ways; gran = is.gran; tail = is.tail; skip = is.skip })
    (either_decoder endpoint (place == 3) _ _ (record { base = is.base; size = high_aligned d.size v lt is.size; ways = is.ways; gran = is.gran; tail = is.tail; skip = is.skip })
    (either_decoder endpoint (place == 5) _ _ (low_tail endpoint d v lt is) (high_tail endpoint d v lt is)))))

control_decoder : (endpoint : Bool) (d : Decoder) (v : ℕ) → IsDecoder endpoint d → IsDecoder endpoint (with_control d v)
control_decoder endpoint d v is =
    record { base = is.base; size = is.size; ways = omega arith; gran = omega arith; tail = is.tail; skip = is.skip }

-- the bits that tell of a commit are free
record Marks (endpoint : Bool) (d : Decoder) : Type 0 where
  marked : (commit committed error : Bool) → IsDecoder endpoint (record d { commit = commit; committed = committed; error = error })

marks : (endpoint : Bool) (d : Decoder) → IsDecoder endpoint d → Marks endpoint d
marks endpoint d is = record { marked = λ commit committed error. record { base = is.base; size = is.size; ways = is.ways; gran = is.gran; tail = is.tail; skip = is.skip } }

-- ---- blocks

record IsSound (o : AfterWrite) : Type 0 where
  block : IsBlock o.block

either_sound : (test : Bool) (x y : AfterWrite) → IsSound x → IsSound y → IsSound (cond test x y)
either_sound true x y p q = p
either_sound false x y p q = q

dropped_sound : (block : Registers) → IsBlock block → IsSound (dropped block)
dropped_sound block is = record { block = is }

put_sound : (block : Registers) (i : ℕ) (d : Decoder) (effect : Effect) → IsBlock block → IsDecoder block.endpoint d → IsSound record { block = with_decoder block i d; effect = effect }
put_sound block i d effect is decoder = record {
  block = record {
    cap = is.cap;
    enabled = is.enabled;
    count = length-set block.decoders i d ∙ is.count;
    each = All-set (IsDecoder block.endpoint) block.decoders i d decoder is.each;
  };
}

-- other registers of a decoder, which is what `put` leaves
pub decoder_block : (block : Registers) (i : ℕ) (d : Decoder) (new : List Decoder) → IsBlock block → IsDecoder block.endpoint d → new ≡ slice_set block.decoders i d → IsBlock (record block { decoders = new })
decoder_block block i d new is decoder written = rw written (put_sound block i d Written is decoder).block

-- a word of the decoder at a place, which is what `put_word` leaves
pub word_block : (block : Registers) (i place v : ℕ) (new : List Decoder) → IsBlock block → v < 2 ^ 32 → i < length block.decoders
    → ((d : Decoder) → slice_get block.decoders i ≡ Some d → new ≡ slice_set block.decoders i (with_word block.endpoint d place v)) → IsBlock (record block { decoders = new })
word_block block i place v new is lt within written =
    let d = get_or block.decoders i reset_decoder in
    let is_new = written d (slice_get-get_or block.decoders i reset_decoder within) in
    let decoder : IsDecoder block.endpoint d = is.each i reset_decoder within in
    rw is_new (put_sound block i (with_word block.endpoint d place v) Written is (word_decoder block.endpoint d place v lt decoder)).block

commit_sound : (block : Registers) (i : ℕ) (d : Decoder) (rule : Option CommitRule) → IsBlock block → IsDecoder block.endpoint d → IsSound (after_commit block i d rule)
commit_sound block i d None is decoder = put_sound block i _ Committed is ((marks block.endpoint d decoder).marked true true false)
commit_sound block i d (Some rule) is decoder = put_sound block i _ (NotCommitted rule) is ((marks block.endpoint d decoder).marked true false true)

control_sound : (block : Registers) (i : ℕ) (d : Decoder) (v : ℕ) → IsBlock block → IsDecoder block.endpoint d → IsSound (after_control block i d v)
control_sound block i d v is decoder =
    let set = control_decoder block.endpoint d v decoder in
    either_sound (has_bit v 9) _ _ (commit_sound block i (with_control d v) (first_broken_rule block i (with_control d v)) is set)
    (put_sound block i _ Written is ((marks block.endpoint (with_control d v) set).marked false d.committed false))

release_sound : (block : Registers) (i : ℕ) (d : Decoder) (v : ℕ) → IsBlock block → IsDecoder block.endpoint d → IsSound (after_release block i d v)
release_sound block i d v is decoder =
    either_sound (d.lock || has_bit v 9 || any_committed (drop (i + 1) block.decoders)) _ _ (dropped_sound block is)
    (put_sound block i _ Released is ((marks block.endpoint d decoder).marked false false d.error))

decoder_sound : (block : Registers) (i : ℕ) (d : Decoder) (place v : ℕ) → v < 2 ^ 32 → IsBlock block → IsDecoder block.endpoint d → IsSound (after_decoder block i d place v)
decoder_sound block i d place v lt is decoder =
    either_sound (place == 7) _ _ (dropped_sound block is) (either_sound (place == 4) _ _
    (either_sound d.committed _ _ (release_sound block i d v is decoder) (control_sound block i d v is decoder))
    (either_sound d.committed _ _ (dropped_sound block is)
    (put_sound block i _ Written is (word_decoder block.endpoint d place v lt decoder))))

found_sound : (block : Registers) (off v : ℕ) (d : Option Decoder) → slice_get block.decoders (index_at off) ≡ d → v < 2 ^ 32 → IsBlock block
    → IsSound (option_map_or (λ d. after_decoder block (index_at off) d (place_at off) v) d (dropped block))
found_sound block off v None here lt is = dropped_sound block is
found_sound block off v (Some d) here lt is =
    let within = slice_get_within block.decoders (index_at off) d here in
    let decoder : IsDecoder block.endpoint d = subst (IsDecoder block.endpoint) (get_or_from_slice_get block.decoders (index_at off) d d here) (is.each (index_at off) d within) in
    decoder_sound block (index_at off) d (place_at off) v lt is decoder

-- an endpoint's block may stop to decode
global_sound : (block : Registers) (v : ℕ) → IsBlock block → block.endpoint ≡ true → IsSound (after_global block v)
global_sound block v is endpoint =
    either_sound (has_bit v 1) _ _ (record { block = record { cap = is.cap; enabled = λ e. refl; count = is.count; each = is.each } })
    (either_sound (any_committed block.decoders) _ _ (dropped_sound block is)
    (record { block = record { cap = is.cap; enabled = λ port. absurd (false≢true (sym port ∙ endpoint)); count = is.count; each = is.each } }))

head_sound : (block : Registers) (off v : ℕ) (endpoint : Bool) → block.endpoint ≡ endpoint → IsBlock block → IsSound (cond ((off == 4) && endpoint) (after_global block v) (dropped block))
head_sound block off v true e is = either_sound ((off == 4) && true) _ _ (global_sound block v is e) (dropped_sound block is)
head_sound block off v false e is =
    subst (λ (test : Bool). IsSound (cond test (after_global block v) (dropped block))) (sym (and_false (off == 4))) (dropped_sound block is)

pub after_word_block : (block : Registers) (off v : ℕ) → IsBlock block → v < 2 ^ 32 → IsBlock (after_word block off v).block
unfolding after_word
after_word_block block off v is lt =
    let sound : IsSound (after_word block off v) =
    either_sound (not (off % 4 == 0)) _ _ (dropped_sound block is)
    (either_sound (ltb off 16) _ _ (head_sound block off v block.endpoint refl is)
    (found_sound block off v (slice_get block.decoders (index_at off)) refl lt is)) in
    sound.block
