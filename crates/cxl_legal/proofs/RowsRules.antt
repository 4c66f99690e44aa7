-- A block that keeps K2 to K8 keeps them with one more decoder committed, the first that was not.
use Rattle.std.proofs.Common.{◌≡◌, ◌≢◌, ℕ, ◌+◌, ◌-◌, ◌%◌, ◌<◌, ◌≤◌, Bool, true, false, cond, not, ◌&&◌, ◌||◌, List, length, set, take, Option, Some, None, sum_by, refl, sym, ap, ◌∙◌, subst, inl, inr, eq-eqb, arith}
use Rattle.std.specs.Prelude.{slice_get, slice_set, nat_lt, ◌==◌}
use Rattle.std.specs.Option.{option_map_or}
use Rattle.std.proofs.lemmas.Bool.{cases_order, cases_eq, or_from, and_left, and_right, not_from_true, false_from_ne_true, le-ltb, ne_eqb}
use Rattle.std.proofs.lemmas.List.{take-set-le}
use Rattle.cxl_enc.specs.declared.caps.MemKind.TheVariants.{Ram, Pmem}
use Rattle.cxl_enc.specs.Limits.{address_limit}
use Rattle.cxl_enc.proofs.Lists.{get_same, get_other}
use Rattle.cxl_enc.proofs.Tests.{neither, stays_false}
use Rattle.cxl_enc.proofs.Options.{cases_Option}
use Rattle.cxl_regs.specs.declared.decoder.Decoder.{Decoder}
use Rattle.cxl_regs.specs.Registers.{Registers}
use Rattle.cxl_regs.specs.Reading.{committed_count, select_bits, span_length}
use Rattle.cxl_regs.specs.Rules.{before, breaks_order, breaks_rise, codes_ok, select_ok}
use Rattle.cxl_span.specs.Spans.{span_step, span_start_of}
use Rattle.cxl_span.specs.Partitions.{lies_in}
use Rattle.cxl_span.specs.Allotting.{cursor_of}
use Rattle.cxl_span.specs.Rules.{breaks_rule, breaks_flags, breaks_commit_order, breaks_codes, breaks_select, breaks_size, breaks_base_order, breaks_capacity, size_unit}
use Rattle.cxl_span.specs.Breaches.{breaks, BlockKeeps}
use Rattle.cxl_span.proofs.Cursors.{taken_to_cursor}
use Rattle.cxl_span.proofs.RulesBroken.{at_decoder, at_none, kept_at}
use Rattle.cxl_legal.proofs.RowsRanges.{CountedLaw}
use Rattle.cxl_legal.proofs.RowsSpans.{HasLast, cases_last}

-- ---- a rule at a decoder

-- all seven rules are kept
all_rules : (block : Registers) (rule ram pmem start : ℕ) (below : Option Decoder) (d : Decoder) → breaks_commit_order block below d ≡ false → breaks_flags d ≡ false → breaks_codes block d ≡ false
    → breaks_select block d ≡ false → breaks_size block d ≡ false → breaks_base_order below d ≡ false → breaks_capacity block ram pmem start d ≡ false
    → breaks_rule rule block ram pmem below start d ≡ false
all_rules block rule ram pmem start below d k2 k3 k4 k5 k6 k7 k8 =
    neither (rule == 2) (breaks_commit_order block below d) _ k2
    (neither (rule == 3) (breaks_flags d) _ k3
    (neither (rule == 4) (breaks_codes block d) _ k4
    (neither (rule == 5) (breaks_select block d) _ k5
    (neither (rule == 6) (breaks_size block d) _ k6
    (neither (rule == 7) (breaks_base_order below d) _ k7
    (neither (rule == 8) (breaks_capacity block ram pmem start d) _ k8 refl))))))

-- ---- a decoder that is not committed

clean_rules : (block : Registers) (rule ram pmem start : ℕ) (below : Option Decoder) (d : Decoder) → breaks_flags d ≡ false → d.committed ≡ false → breaks_rule rule block ram pmem below start d ≡ false
clean_rules block rule ram pmem start below d flags free =
    all_rules block rule ram pmem start below d (and_left d.committed _ free) flags (and_left d.committed _ free) (and_left d.committed _ free) (and_left d.committed _ free) (and_left d.committed _ free)
    (and_left (block.endpoint && d.committed) _ (and_right block.endpoint d.committed free))

-- ---- a block that decodes

other_choice : (b x new y : Bool) → cond b x y ≡ false → (x ≡ false → new ≡ false) → cond b new y ≡ false
other_choice true x new y keeps weaker = weaker keeps
other_choice false x new y keeps weaker = keeps

-- a rule that is kept is kept in a block that decodes
decoding_rule : (block : Registers) (decoders : List Decoder) (rule ram pmem start : ℕ) (below : Option Decoder) (d : Decoder) → breaks_rule rule block ram pmem below start d ≡ false
    → breaks_rule rule (record block { enabled = true; decoders = decoders }) ram pmem below start d ≡ false
decoding_rule block decoders rule ram pmem start below d keeps =
    other_choice (rule == 2) (breaks_commit_order block below d) (d.committed && (breaks_order below || not true)) _ keeps (stays_false d.committed (breaks_order below) block.enabled)

-- ---- decoders before one that is set

same_before : (ds : List Decoder) (i j : ℕ) (new : Decoder) → j ≤ i → before (slice_set ds i new) j ≡ before ds j
same_before ds i j new low =
    elim (cases_eq j 0) [
      | inl first ↦ let is : (j == 0) ≡ true = eq-eqb j 0 first in rw is refl
      | inr later ↦ ap (λ (o : Option Decoder). cond (j == 0) None o) (get_other ds i (j - 1) new (λ e. later (omega (arith, e))))
    ]

same_start : (ds : List Decoder) (i j : ℕ) (new : Decoder) → j < i → span_start_of (slice_set ds i new) j ≡ span_start_of ds j
same_start ds i j new low =
    ap (λ (xs : List Decoder). sum_by span_step xs + option_map_or (λ d. d.tail) (slice_get (slice_set ds i new) j) 0) (take-set-le j ds i new (omega arith))
    ∙ ap (λ (o : Option Decoder). sum_by span_step (take j ds) + option_map_or (λ d. d.tail) o 0) (get_other ds i j new (λ e. omega (arith, e)))

-- the span of the first that was not committed starts behind the cursor, past what it skips
pub new_start : (ds : List Decoder) (new : Decoder) → committed_count ds < length ds → span_start_of (slice_set ds (committed_count ds) new) (committed_count ds) ≡ cursor_of ds + new.tail
new_start ds new left =
    let n : ℕ = committed_count ds in
    ap (λ (xs : List Decoder). sum_by span_step xs + option_map_or (λ d. d.tail) (slice_get (slice_set ds n new) n) 0) (take-set-le n ds n new (omega arith))
    ∙ ap (λ (o : Option Decoder). sum_by span_step (take n ds) + option_map_or (λ d. d.tail) o 0) (get_same ds n new left)
    ∙ ap (λ (k : ℕ). k + new.tail) (taken_to_cursor ds)

-- ---- one more decoder

-- a decoder that can stand behind those that are committed
pub record CanFollow (block : Registers) (ram pmem : ℕ) (new : Decoder) : Type 0 where
  pub committed : new.committed ≡ true
  pub commit : new.commit ≡ true
  pub host_only : new.host_only ≡ true
  pub good : new.error ≡ false
  pub codes : codes_ok block.cap block.endpoint new ≡ true
  pub select : select_ok block.cap new.gran (select_bits new.ways) ≡ true
  pub some : 0 < new.size
  pub low : new.base + new.size ≤ address_limit
  pub even : block.endpoint ≡ true → (new.size % size_unit new == 0) ≡ true
  pub rise : (last : HasLast block.decoders) → last.d.base + last.d.size ≤ new.base
  pub inside : block.endpoint ≡ true
      → (lies_in Ram ram pmem (cursor_of block.decoders + new.tail) (span_length new) || lies_in Pmem ram pmem (cursor_of block.decoders + new.tail) (span_length new)) ≡ true

unless : (a b : Bool) → (a ≡ true → b ≡ true) → (a && not b) ≡ false
unless true b then = not_from_true b (then refl)
unless false b then = refl

unless_both : (a c b : Bool) → (a ≡ true → b ≡ true) → ((a && c) && not b) ≡ false
unless_both true true b then = not_from_true b (then refl)
unless_both true false b then = refl
unless_both false c b then = refl

set_flags : (error committed commit host_only : Bool) → error ≡ false → commit ≡ true → host_only ≡ true → committed ≡ true → (error || cond committed (not (commit && host_only)) commit) ≡ false
set_flags error committed commit host_only good is host set = rw (good, set, is, host) refl

module _ (counted : CountedLaw) (block : Registers) (ram pmem : ℕ) (new : Decoder) (keeps : BlockKeeps block ram pmem) (left : committed_count block.decoders < length block.decoders) (can : CanFollow block ram pmem new) where
  -- the decoder before it is committed, and ends at or below its base
  before_new : (breaks_order (before block.decoders (committed_count block.decoders)) ≡ false) × (breaks_rise (before block.decoders (committed_count block.decoders)) new ≡ false)
  before_new =
      let count : ℕ = committed_count block.decoders in
      elim (cases_last block.decoders) [
        | inl none ↦
            let first : before block.decoders count ≡ None = ap (λ b. cond b None (slice_get block.decoders (count - 1))) (eq-eqb count 0 none) in
            (ap breaks_order first, ap (λ (o : Option Decoder). breaks_rise o new) first)
        | inr last ↦
            let some = last.some in
            let below : before block.decoders count ≡ Some last.d = ap (λ b. cond b None (slice_get block.decoders (count - 1))) (ne_eqb count 0 (λ e. omega (arith, e))) ∙ last.at in
            let committed : last.d.committed ≡ true = (counted block ram pmem (count - 1) last.d keeps last.at).1 (omega arith) in
            (ap breaks_order below ∙ not_from_true last.d.committed committed, ap (λ (o : Option Decoder). breaks_rise o new) below ∙ le-ltb new.base (last.d.base + last.d.size) (can.rise last))
      ]

  abbrev pub grown : Registers
  grown = record block { enabled = true; decoders = slice_set block.decoders (committed_count block.decoders) new }

  -- it keeps each rule itself
  new_keeps : (rule : ℕ) → breaks_rule rule grown ram pmem (before block.decoders (committed_count block.decoders)) (cursor_of block.decoders + new.tail) new ≡ false
  new_keeps rule =
      all_rules grown rule ram pmem (cursor_of block.decoders + new.tail) (before block.decoders (committed_count block.decoders)) new
      (and_right new.committed _ (or_from (breaks_order (before block.decoders (committed_count block.decoders))) (not true) before_new.0 refl))
      (set_flags new.error new.committed new.commit new.host_only can.good can.commit can.host_only can.committed)
      (and_right new.committed _ (not_from_true (codes_ok block.cap block.endpoint new) can.codes))
      (and_right new.committed _ (not_from_true (select_ok block.cap new.gran (select_bits new.ways)) can.select))
      (and_right new.committed _ (or_from ((new.size == 0) || nat_lt address_limit (new.base + new.size)) (block.endpoint && not (new.size % size_unit new == 0))
      (or_from (new.size == 0) (nat_lt address_limit (new.base + new.size)) (ne_eqb new.size 0 (λ e. let some = can.some in omega (arith, e))) (le-ltb address_limit (new.base + new.size) can.low))
      (unless block.endpoint (new.size % size_unit new == 0) can.even)))
      (and_right new.committed _ before_new.1)
      (unless_both block.endpoint new.committed
      (lies_in Ram ram pmem (cursor_of block.decoders + new.tail) (span_length new) || lies_in Pmem ram pmem (cursor_of block.decoders + new.tail) (span_length new)) can.inside)

  here : (rule : ℕ) → breaks rule grown ram pmem (committed_count block.decoders) ≡ false
  here rule =
      at_decoder grown rule ram pmem (committed_count block.decoders) new (get_same block.decoders (committed_count block.decoders) new left)
      ∙ ap (λ (o : Option Decoder). breaks_rule rule grown ram pmem o (span_start_of grown.decoders (committed_count block.decoders)) new) (same_before block.decoders (committed_count block.decoders) (committed_count block.decoders) new (omega arith))
      ∙ ap (λ (k : ℕ). breaks_rule rule grown ram pmem (before block.decoders (committed_count block.decoders)) k new) (new_start block.decoders new left)
      ∙ new_keeps rule

  lower : (rule j : ℕ) (d : Decoder) → j < committed_count block.decoders → slice_get block.decoders j ≡ Some d → breaks rule grown ram pmem j ≡ false
  lower rule j d low at =
      at_decoder grown rule ram pmem j d (get_other block.decoders (committed_count block.decoders) j new (λ e. omega (arith, e)) ∙ at)
      ∙ ap (λ (o : Option Decoder). breaks_rule rule grown ram pmem o (span_start_of grown.decoders j) d) (same_before block.decoders (committed_count block.decoders) j new (omega arith))
      ∙ ap (λ (k : ℕ). breaks_rule rule grown ram pmem (before block.decoders j) k d) (same_start block.decoders (committed_count block.decoders) j new low)
      ∙ decoding_rule block (slice_set block.decoders (committed_count block.decoders) new) rule ram pmem (span_start_of block.decoders j) (before block.decoders j) d (kept_at block rule ram pmem j d keeps at)

  higher : (rule j : ℕ) (d : Decoder) → committed_count block.decoders < j → slice_get block.decoders j ≡ Some d → breaks rule grown ram pmem j ≡ false
  higher rule j d high at =
      let free : d.committed ≡ false = false_from_ne_true d.committed (λ set. let low = (counted block ram pmem j d keeps at).0 set in omega arith) in
      at_decoder grown rule ram pmem j d (get_other block.decoders (committed_count block.decoders) j new (λ e. omega (arith, e)) ∙ at)
      ∙ clean_rules grown rule ram pmem (span_start_of grown.decoders j) (before grown.decoders j) d (kept_at block 3 ram pmem j d keeps at) free

  each : (rule j : ℕ) → breaks rule grown ram pmem j ≡ false
  each rule j =
      elim (cases_order j (committed_count block.decoders)) [
        | inl same ↦ subst (λ (k : ℕ). breaks rule grown ram pmem k ≡ false) (sym same) (here rule)
        | inr apart ↦
            let other : j ≢ committed_count block.decoders = λ e. elim apart [ inl low ↦ omega (arith, e) | inr high ↦ omega (arith, e) ] in
            elim (cases_Option (slice_get block.decoders j)) [
              | inl none ↦ at_none grown rule ram pmem j (get_other block.decoders (committed_count block.decoders) j new other ∙ none)
              | inr some ↦ elim apart [ inl low ↦ lower rule j some.0 low some.1 | inr high ↦ higher rule j some.0 high some.1 ]
            ]
      ]

  pub grown_keeps : BlockKeeps grown ram pmem
  grown_keeps = record { each = each }
