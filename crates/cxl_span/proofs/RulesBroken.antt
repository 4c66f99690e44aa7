-- Which rules of blocks are broken, by the decoder.
use Rattle.std.proofs.Common.{◌≡◌, ℕ, false, Option, Some, ap, None, sym, ◌∙◌, refl, ◌<◌, ◌≤◌, inl, inr, arith, ◌⊎◌}
use Rattle.std.specs.Prelude.{slice_get}
use Rattle.std.specs.Option.{option_map_or}
use Rattle.std.proofs.lemmas.Bool.{ne_eqb}
use Rattle.cxl_regs.specs.declared.decoder.Decoder.{Decoder}
use Rattle.cxl_regs.specs.Registers.{Registers}
use Rattle.cxl_regs.specs.Rules.{before}
use Rattle.cxl_span.specs.Spans.{span_start_of}
use Rattle.cxl_span.specs.Rules.{breaks_rule, breaks_codes}
use Rattle.cxl_span.specs.Breaches.{breaks, BlockKeeps}

pub at_decoder : (block : Registers) (rule ram pmem i : ℕ) (d : Decoder) → slice_get block.decoders i ≡ Some d
    → breaks rule block ram pmem i ≡ breaks_rule rule block ram pmem (before block.decoders i) (span_start_of block.decoders i) d
unfolding breaks
at_decoder block rule ram pmem i d here = ap (λ (o : Option Decoder). option_map_or (breaks_rule rule block ram pmem (before block.decoders i) (span_start_of block.decoders i)) o false) here

pub at_none : (block : Registers) (rule ram pmem i : ℕ) → slice_get block.decoders i ≡ None → breaks rule block ram pmem i ≡ false
unfolding breaks
at_none block rule ram pmem i none = ap (λ (o : Option Decoder). option_map_or (breaks_rule rule block ram pmem (before block.decoders i) (span_start_of block.decoders i)) o false) none

pub kept_at : (block : Registers) (rule ram pmem i : ℕ) (d : Decoder) → BlockKeeps block ram pmem → slice_get block.decoders i ≡ Some d
    → breaks_rule rule block ram pmem (before block.decoders i) (span_start_of block.decoders i) d ≡ false
kept_at block rule ram pmem i d keeps here = sym (at_decoder block rule ram pmem i d here) ∙ keeps.each rule i

-- K4 of a decoder of the block
pub codes_here : (block : Registers) (ram pmem i : ℕ) (d : Decoder) → slice_get block.decoders i ≡ Some d
    → breaks 4 block ram pmem i ≡ breaks_codes block d
unfolding breaks
codes_here block ram pmem i d at = rw at refl

-- a rule that is none of K2 to K8 is broken by no decoder
pub no_other_rule : (rule : ℕ) (block : Registers) (ram pmem i : ℕ) → ((k : ℕ) → 2 ≤ k → k < 9 → rule ≡ k → ⊥) → breaks rule block ram pmem i ≡ false
unfolding breaks
no_other_rule rule block ram pmem i far = go (slice_get block.decoders i)
  where
    go : (o : Option Decoder) → option_map_or (breaks_rule rule block ram pmem (before block.decoders i) (span_start_of block.decoders i)) o false ≡ false
    go None = refl
    go (Some d) =
        rw (ne_eqb rule 2 (far 2 (omega arith) (omega arith)), ne_eqb rule 3 (far 3 (omega arith) (omega arith)), ne_eqb rule 4 (far 4 (omega arith) (omega arith)), ne_eqb rule 5 (far 5 (omega arith) (omega arith)), ne_eqb rule 6 (far 6 (omega arith) (omega arith)), ne_eqb rule 7 (far 7 (omega arith) (omega arith)), ne_eqb rule 8 (far 8 (omega arith) (omega arith)))
        refl

pub no_rule : (rule : ℕ) (block : Registers) (ram pmem i : ℕ) → (rule < 2) ⊎ (9 ≤ rule) → breaks rule block ram pmem i ≡ false
no_rule rule block ram pmem i other =
    no_other_rule rule block ram pmem i (λ k low high same. elim other [ inl less ↦ omega arith | inr more ↦ omega arith ])
