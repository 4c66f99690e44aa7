-- The words of a decoder, one after the other, and back.
use Rattle.std.proofs.Common.{◌≡◌, ℕ, ◌+◌, ◌/◌, ◌%◌, ◌^◌, ◌<◌, Bool, true, false, set, drop, refl, ap, ◌∙◌, arith}
use Rattle.std.specs.Prelude.{◌==◌}
use Rattle.std.proofs.lemmas.Bool.{cond-true, cond-false}
use Rattle.cxl_regs.specs.declared.decoder.Decoder.{Decoder}
use Rattle.cxl_regs.specs.declared.effect.Effect.TheVariants.{Written, Released}
use Rattle.cxl_regs.specs.Registers.{Registers, IsDecoder}
use Rattle.cxl_regs.specs.Words.{has_bit, words_of, control_of, decoder_of, top_bits, low_half, high_half}
use Rattle.cxl_regs.specs.Rules.{first_broken_rule}
use Rattle.cxl_regs.specs.Writes.{with_decoder, with_low, with_high, with_word, with_control, any_committed, after_decoder, after_commit, after_control, after_release}
use Rattle.cxl_apply.specs.Jobs.{HasWords}

-- ---- numbers of two words

-- a number takes the words of another, one after the other
pub takes_words : (n m : ℕ) → m % 2 ^ 28 ≡ 0 → with_high (with_low n (top_bits (low_half m))) (high_half m) ≡ m
takes_words n m aligned = omega arith

pub takes_all_words : (n m : ℕ) → with_high (with_low n (low_half m)) (high_half m) ≡ m
takes_all_words n m = omega arith

-- a low word back, and then a high word back over another low word
pub low_back : (n m : ℕ) → n % 2 ^ 28 ≡ 0 → with_low (with_low n (top_bits (low_half m))) (top_bits (low_half n)) ≡ n
low_back n m aligned = omega arith

pub low_back_whole : (n m : ℕ) → with_low (with_low n (low_half m)) (low_half n) ≡ n
low_back_whole n m = omega arith

pub high_back : (n w v : ℕ) → w < 2 ^ 32 → with_high (with_high (with_low n w) v) (high_half n) ≡ with_low n w
high_back n w v small = omega arith

-- ---- the control word

-- what stands in a control word
pub record ControlReads (d : Decoder) : Type 0 where
  pub gran : control_of d % 16 ≡ d.gran
  pub ways : control_of d / 16 % 16 ≡ d.ways
  pub lock : has_bit (control_of d) 8 ≡ d.lock
  pub commit : has_bit (control_of d) 9 ≡ d.commit
  pub host_only : has_bit (control_of d) 12 ≡ d.host_only

-- the words of a decoder stand for it
abbrev pub WordsLaw : Type 0
WordsLaw = (endpoint : Bool) (d : Decoder) → IsDecoder endpoint d → decoder_of (words_of d) endpoint ≡ d

pub control_reads : WordsLaw → (d : Decoder) → HasWords d → ControlReads d
unfolding decoder_of
control_reads law d has =
    let is : IsDecoder false d = record { base = has.base; size = has.size; ways = has.ways; gran = has.gran; tail = has.tail; skip = λ e. absurd (cc) } in
    let same : decoder_of (words_of d) false ≡ d = law false d is in
    record {
      gran = ap (λ (e : Decoder). e.gran) same;
      ways = ap (λ (e : Decoder). e.ways) same;
      lock = ap (λ (e : Decoder). e.lock) same;
      commit = ap (λ (e : Decoder). e.commit) same;
      host_only = ap (λ (e : Decoder). e.host_only) same;
    }

-- a decoder with the control of another
abbrev pub configured : Decoder → Decoder → Decoder
configured d r = record d { gran = r.gran; ways = r.ways; lock = r.lock; host_only = r.host_only }

pub takes_control : (d r : Decoder) → ControlReads r → with_control d (control_of r) ≡ configured d r
takes_control d r reads =
    λ i. record d { gran = reads.gran i; ways = reads.ways i; lock = reads.lock i; host_only = reads.host_only i }

-- ---- what a write of each word does to a decoder that is not committed

-- the effect is told and leaves the block with this decoder
pub word_put : (block : Registers) (i : ℕ) (d : Decoder) (p v : ℕ) → d.committed ≡ false → (p == 7) ≡ false → (p == 4) ≡ false
    → after_decoder block i d p v ≡ record { block = with_decoder block i (with_word block.endpoint d p v); effect = Written }
word_put block i d p v free seven four = rw (seven, four, free) refl

pub control_put : (block : Registers) (i : ℕ) (d r : Decoder) → d.committed ≡ false → ControlReads r → r.commit ≡ false
    → after_decoder block i d 4 (control_of r) ≡ record { block = with_decoder block i (record (configured d r) { commit = false; error = false }); effect = Written }
control_put block i d r free reads clear =
    let v : ℕ = control_of r in
    cond-false d.committed (after_release block i d v) (after_control block i d v) free
    ∙ cond-false (has_bit v 9) (after_commit block i (with_control d v) (first_broken_rule block i (with_control d v)))
    (record { block = with_decoder block i (record (with_control d v) { commit = false; error = false }); effect = Written }) (reads.commit ∙ clear)
    ∙ ap (λ (e : Decoder). record { block = with_decoder block i (record e { commit = false; error = false }); effect = Written }) (takes_control d r reads)

pub commit_put : (block : Registers) (i : ℕ) (d r : Decoder) → d.committed ≡ false → ControlReads r → r.commit ≡ true
    → after_decoder block i d 4 (control_of r) ≡ after_commit block i (configured d r) (first_broken_rule block i (configured d r))
commit_put block i d r free reads set =
    let v : ℕ = control_of r in
    cond-false d.committed (after_release block i d v) (after_control block i d v) free
    ∙ cond-true (has_bit v 9) (after_commit block i (with_control d v) (first_broken_rule block i (with_control d v)))
    (record { block = with_decoder block i (record (with_control d v) { commit = false; error = false }); effect = Written }) (reads.commit ∙ set)
    ∙ ap (λ (e : Decoder). after_commit block i e (first_broken_rule block i e)) (takes_control d r reads)

pub release_put : (block : Registers) (i : ℕ) (d r : Decoder) → d.committed ≡ true → d.lock ≡ false → any_committed (drop (i + 1) block.decoders) ≡ false → ControlReads r → r.commit ≡ false
    → after_decoder block i d 4 (control_of r) ≡ record { block = with_decoder block i (record d { commit = false; committed = false }); effect = Released }
release_put block i d r committed unlocked top reads clear =
    let bit : has_bit (control_of r) 9 ≡ false = reads.commit ∙ clear in
    rw (committed, unlocked, bit, top) refl
