-- The rules K2 to K8 of a block, where one of its decoders changes.
use Rattle.std.proofs.Common.{◌≡◌, ◌≢◌, ℕ, ◌+◌, ◌-◌, ◌<◌, ◌≤◌, Bool, true, false, cond, not, ◌&&◌, ◌||◌, List, length, get_or, set, take, drop, Option, Some, None, refl, sym, ap, ◌∙◌, subst, inl, inr, eq-eqb, arith}
use Rattle.std.specs.Prelude.{slice_get, sum_by, ◌==◌}
use Rattle.std.specs.Option.{option_map_or}
use Rattle.std.proofs.lemmas.Bool.{cases_eq, cases_order, false≢true, or_parts, and_parts, or_from, and_left, and_right, not-false, false_from_ne_true}
use Rattle.std.proofs.lemmas.List.{take-set-le, get_or-drop, length-drop}
use Rattle.std.proofs.lemmas.List.Folds.{list_any_at}
use Rattle.std.proofs.lemmas.Option.{slice_get_within, get_or_from_slice_get}
use Rattle.cxl_enc.proofs.Lists.{get_same, get_other}
use Rattle.cxl_enc.proofs.Options.{cases_Option}
use Rattle.cxl_enc.proofs.Tests.{asked_not, neither}
use Rattle.cxl_regs.specs.declared.decoder.Decoder.{Decoder}
use Rattle.cxl_regs.specs.Registers.{Registers}
use Rattle.cxl_regs.specs.Reading.{select_bits}
use Rattle.cxl_regs.specs.Rules.{before, breaks_order, breaks_rise, codes_ok, select_ok, first_broken_rule}
use Rattle.cxl_regs.specs.Writes.{any_committed, with_decoder}
use Rattle.cxl_span.specs.Spans.{span_step, span_start_of}
use Rattle.cxl_span.specs.Rules.{breaks_rule, breaks_flags, breaks_commit_order, breaks_codes, breaks_select, breaks_size, breaks_base_order, breaks_capacity}
use Rattle.cxl_span.specs.Breaches.{breaks, BlockKeeps}
use Rattle.cxl_span.proofs.RulesBroken.{at_decoder, at_none, kept_at}

-- ---- what the rules say

-- the flags of a decoder that is not committed, and of one that is
pub clean_flags : (d : Decoder) → breaks_flags d ≡ false → d.committed ≡ false → (d.error ≡ false) × (d.commit ≡ false)
clean_flags d keeps free =
    let parts = or_parts d.error (cond d.committed (not (d.commit && d.host_only)) d.commit) keeps in
    (parts.0, subst (λ (b : Bool). cond b (not (d.commit && d.host_only)) d.commit ≡ false) free parts.1)

pub set_flags : (d : Decoder) → breaks_flags d ≡ false → d.committed ≡ true → (d.error ≡ false) × (d.commit ≡ true)
set_flags d keeps committed =
    let parts = or_parts d.error (cond d.committed (not (d.commit && d.host_only)) d.commit) keeps in
    let flags : not (d.commit && d.host_only) ≡ false = subst (λ (b : Bool). cond b (not (d.commit && d.host_only)) d.commit ≡ false) committed parts.1 in
    (parts.0, (and_parts d.commit d.host_only (not-false (d.commit && d.host_only) flags)).0)

-- no commit rule is broken by a decoder that keeps K2 and K4 to K7
pub no_rule : (block : Registers) (ram pmem i : ℕ) (d : Decoder) → BlockKeeps block ram pmem → slice_get block.decoders i ≡ Some d → d.committed ≡ true → first_broken_rule block i d ≡ None
no_rule block ram pmem i d keeps here committed =
    let order = or_parts (breaks_order below) (not block.enabled) (asked_not d.committed (breaks_order below || not block.enabled) (kept_at block 2 ram pmem i d keeps here) committed) in
    let codes = asked_not d.committed (not (codes_ok block.cap block.endpoint d)) (kept_at block 4 ram pmem i d keeps here) committed in
    let select = asked_not d.committed (not (select_ok block.cap d.gran (select_bits d.ways))) (kept_at block 5 ram pmem i d keeps here) committed in
    let rise = asked_not d.committed (breaks_rise below d) (kept_at block 7 ram pmem i d keeps here) committed in
    let sizes = asked_not d.committed _ (kept_at block 6 ram pmem i d keeps here) committed in
    let size = (or_parts (d.size == 0) _ (or_parts _ _ sizes).0).0 in
    none_broken block i d (and_right block.endpoint (not block.enabled) order.1) size order.0 rise codes select
  where
    below : Option Decoder
    below = before block.decoders i

    none_broken : (block : Registers) (i : ℕ) (d : Decoder) → (block.endpoint && not block.enabled) ≡ false → (d.size == 0) ≡ false → breaks_order (before block.decoders i) ≡ false
        → breaks_rise (before block.decoders i) d ≡ false → not (codes_ok block.cap block.endpoint d) ≡ false → not (select_ok block.cap d.gran (select_bits d.ways)) ≡ false → first_broken_rule block i d ≡ None
    none_broken block i d enabled size order rise codes select = rw (enabled, size, order, rise, codes, select) refl

-- ---- decoders above another

-- the committed decoders of a block stand first
abbrev pub FirstLaw : Type 0
FirstLaw =
    (block : Registers) (ram pmem i j : ℕ) (d e : Decoder) → BlockKeeps block ram pmem → slice_get block.decoders i ≡ Some d → slice_get block.decoders j ≡ Some e
    → i < j → e.committed ≡ true → d.committed ≡ true

-- above one that is not committed none is
pub none_above_free : FirstLaw → (block : Registers) (ram pmem i j : ℕ) (low d : Decoder) → BlockKeeps block ram pmem → slice_get block.decoders i ≡ Some low → low.committed ≡ false
    → i < j → slice_get block.decoders j ≡ Some d → d.committed ≡ false
none_above_free law block ram pmem i j low d keeps at free above here =
    false_from_ne_true d.committed (λ committed. false≢true (sym free ∙ law block ram pmem i j low d keeps at here above committed))

-- what `none above is committed` says of each
pub each_above : (ds : List Decoder) (i j : ℕ) (d : Decoder) → any_committed (drop (i + 1) ds) ≡ false → i < j → slice_get ds j ≡ Some d → d.committed ≡ false
each_above ds i j d top above here =
    false_from_ne_true d.committed (λ committed.
    let within : j < length ds = slice_get_within ds j d here in
    let long : length (drop (i + 1) ds) ≡ length ds - (i + 1) = length-drop (i + 1) ds in
    let place : i + 1 + (j - (i + 1)) ≡ j = omega arith in
    let at : get_or (drop (i + 1) ds) (j - (i + 1)) d ≡ d = get_or-drop (i + 1) ds (j - (i + 1)) d ∙ ap (λ (n : ℕ). get_or ds n d) place ∙ get_or_from_slice_get ds j d d here in
    false≢true (sym top ∙ list_any_at (λ (x : Decoder). x.committed) (drop (i + 1) ds) (j - (i + 1)) d (omega arith) (ap (λ (x : Decoder). x.committed) at ∙ committed)))

-- ---- a decoder that is not committed in the place of another

-- a decoder with no mark of a commit breaks no rule
clean_rules : (block : Registers) (rule ram pmem start : ℕ) (below : Option Decoder) (d : Decoder) → d.committed ≡ false → d.commit ≡ false → d.error ≡ false → breaks_rule rule block ram pmem below start d ≡ false
clean_rules block rule ram pmem start below d free clear good =
    neither (rule == 2) (breaks_commit_order block below d) _ (and_left d.committed _ free)
    (neither (rule == 3) (breaks_flags d) _ (or_from d.error _ good (ap (λ (b : Bool). cond b (not (d.commit && d.host_only)) d.commit) free ∙ clear))
    (neither (rule == 4) (breaks_codes block d) _ (and_left d.committed _ free)
    (neither (rule == 5) (breaks_select block d) _ (and_left d.committed _ free)
    (neither (rule == 6) (breaks_size block d) _ (and_left d.committed _ free)
    (neither (rule == 7) (breaks_base_order below d) _ (and_left d.committed _ free)
    (neither (rule == 8) (breaks_capacity block ram pmem start d) _ (and_left (block.endpoint && d.committed) _ (and_right block.endpoint d.committed free)) refl))))))

pub same_before : (ds : List Decoder) (i j : ℕ) (new : Decoder) → j ≤ i → before (set ds i new) j ≡ before ds j
same_before ds i j new low =
    elim (cases_eq j 0) [
      | inl first ↦ let is : (j == 0) ≡ true = eq-eqb j 0 first in rw is refl
      | inr later ↦ ap (λ (o : Option Decoder). cond (j == 0) None o) (get_other ds i (j - 1) new (λ e. later (omega (arith, e))))
    ]

same_start : (ds : List Decoder) (i j : ℕ) (new : Decoder) → j < i → span_start_of (set ds i new) j ≡ span_start_of ds j
same_start ds i j new low =
    ap (λ (xs : List Decoder). sum_by span_step xs + option_map_or (λ d. d.tail) (slice_get (set ds i new) j) 0) (take-set-le j ds i new (omega arith))
    ∙ ap (λ (o : Option Decoder). sum_by span_step (take j ds) + option_map_or (λ d. d.tail) o 0) (get_other ds i j new (λ e. omega (arith, e)))

-- a block keeps its rules where its last committed decoder, or one above that, has no mark of a commit any more
pub clean_keeps : (block : Registers) (ram pmem i : ℕ) (new : Decoder) → BlockKeeps block ram pmem → i < length block.decoders → any_committed (drop (i + 1) block.decoders) ≡ false
    → new.committed ≡ false → new.commit ≡ false → new.error ≡ false → BlockKeeps (with_decoder block i new) ram pmem
clean_keeps block ram pmem i new keeps within top free clear good = record { each = λ rule j. at rule j }
  where
    other : Registers
    other = with_decoder block i new

    below : (rule j : ℕ) (d : Decoder) → j < i → slice_get block.decoders j ≡ Some d → breaks rule other ram pmem j ≡ false
    below rule j d low here =
        at_decoder other rule ram pmem j d (get_other block.decoders i j new (λ e. omega (arith, e)) ∙ here)
        ∙ ap (λ (o : Option Decoder). breaks_rule rule block ram pmem o (span_start_of other.decoders j) d) (same_before block.decoders i j new (omega arith))
        ∙ ap (λ (n : ℕ). breaks_rule rule block ram pmem (before block.decoders j) n d) (same_start block.decoders i j new low)
        ∙ kept_at block rule ram pmem j d keeps here

    above : (rule j : ℕ) (d : Decoder) → i < j → slice_get block.decoders j ≡ Some d → breaks rule other ram pmem j ≡ false
    above rule j d high here =
        let uncommitted = each_above block.decoders i j d top high here in
        let flags = clean_flags d (kept_at block 3 ram pmem j d keeps here) uncommitted in
        at_decoder other rule ram pmem j d (get_other block.decoders i j new (λ e. omega (arith, e)) ∙ here)
        ∙ clean_rules other rule ram pmem (span_start_of other.decoders j) (before other.decoders j) d uncommitted flags.1 flags.0

    at : (rule j : ℕ) → breaks rule other ram pmem j ≡ false
    at rule j =
        elim (cases_order j i) [
          | inl e ↦
              subst (λ (n : ℕ). breaks rule other ram pmem n ≡ false) (sym e)
              (at_decoder other rule ram pmem i new (get_same block.decoders i new within) ∙ clean_rules other rule ram pmem (span_start_of other.decoders i) (before other.decoders i) new free clear good)
          | inr rest ↦
              let apart : j ≢ i = λ e. elim rest [ inl low ↦ omega (arith, e) | inr high ↦ omega (arith, e) ] in
              elim (cases_Option (slice_get block.decoders j)) [
                | inl none ↦ at_none other rule ram pmem j (get_other block.decoders i j new apart ∙ none)
                | inr some ↦ elim rest [ inl low ↦ below rule j some.0 low some.1 | inr high ↦ above rule j some.0 high some.1 ]
              ]
        ]
