-- The tests of the rules at one decoder, and outside all decoders and rules.
use Rattle.std.proofs.Common.{◌≡◌, ℕ, ◌+◌, ◌≤◌, Bool, false, List, take, length, Option, Some, sum_by, refl, sym, ap, ◌∙◌, arith, ◌-◌}
use Rattle.std.specs.Prelude.{slice_get, ◌==◌}
use Rattle.std.proofs.lemmas.Option.{slice_get_past}
use Rattle.std.proofs.lemmas.Bool.{ne_eqb}
use Rattle.cxl_regs.specs.declared.decoder.Decoder.{Decoder}
use Rattle.cxl_regs.specs.Registers.{Registers}
use Rattle.cxl_regs.specs.Rules.{before}
use Rattle.cxl_span.specs.Spans.{span_step}
use Rattle.cxl_span.specs.Rules.{breaks_rule}
use Rattle.cxl_span.specs.Breaches.{breaks}

-- at decoder i, with what stands before it
pub breaks_here : (rule : ℕ) (block : Registers) (ram pmem i : ℕ) (d : Decoder) → slice_get block.decoders i ≡ Some d
    → breaks rule block ram pmem i ≡ breaks_rule rule block ram pmem (before block.decoders i) (sum_by span_step (take i block.decoders) + d.tail) d
unfolding breaks
breaks_here rule block ram pmem i d at = rw at refl

-- past the last decoder
pub breaks_past : (rule : ℕ) (block : Registers) (ram pmem i : ℕ) → length block.decoders ≤ i → breaks rule block ram pmem i ≡ false
unfolding breaks
breaks_past rule block ram pmem i past = rw (slice_get_past block.decoders i past) refl

-- what the test said at decoder i
pub tells_here : (rule : ℕ) (block : Registers) (ram pmem i : ℕ) (d : Decoder) (below : Option Decoder) (taken : ℕ) (told : Bool)
    → slice_get block.decoders i ≡ Some d → below ≡ before block.decoders i → taken ≡ sum_by span_step (take i block.decoders)
    → breaks_rule rule block ram pmem below (taken + d.tail) d ≡ told → breaks rule block ram pmem i ≡ told
tells_here rule block ram pmem i d below taken told at below_is taken_is told_is =
    breaks_here rule block ram pmem i d at
    ∙ ap (λ (o : Option Decoder). breaks_rule rule block ram pmem o (sum_by span_step (take i block.decoders) + d.tail) d) (sym below_is)
    ∙ ap (λ (n : ℕ). breaks_rule rule block ram pmem below (n + d.tail) d) (sym taken_is)
    ∙ told_is

pub before_next : (decoders : List Decoder) (i : ℕ) (d : Decoder) → slice_get decoders i ≡ Some d → before decoders (i + 1) ≡ Some d
before_next decoders i d at =
    let later : (i + 1 == 0) ≡ false = ne_eqb (i + 1) 0 (omega arith) in
    let back : i + 1 - 1 ≡ i = omega arith in
    rw (later, back) at
