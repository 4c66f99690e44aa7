-- The cursor: the end of the last committed span.
use Rattle.std.proofs.Common.{◌≡◌, ℕ, ◌+◌, ◌-◌, ◌<◌, ◌≤◌, true, false, List, [], ◌∷◌, take, length, Option, Some, sum_by, refl, sym, ap, ◌∙◌, inl, inr, arith}
use Rattle.std.specs.Prelude.{slice_get}
use Rattle.std.specs.Option.{option_map_or}
use Rattle.std.proofs.lemmas.Bool.{cases_lt}
use Rattle.std.proofs.lemmas.List.Elements.{All-from_get_or}
use Rattle.std.proofs.lemmas.List.Folds.{list_all_at}
use Rattle.std.proofs.lemmas.List.Sums.{prefix_len_passes, prefix_len_stops, prefix_len-le-length, list_all-from_AllPass}
use Rattle.cxl_enc.proofs.Numbers.{some_count, no_count}
use Rattle.cxl_regs.specs.declared.decoder.Decoder.{Decoder}
use Rattle.cxl_regs.specs.Registers.{Registers}
use Rattle.cxl_regs.specs.Reading.{span_length, committed_count}
use Rattle.cxl_span.specs.Spans.{span_step, span_start_of, span_end_of}
use Rattle.cxl_span.specs.Breaches.{BlockKeeps}
use Rattle.cxl_span.specs.Allotting.{all_committed, cursor_of}
use Rattle.cxl_span.proofs.Committed.{counted_is_committed}
use Rattle.cxl_span.proofs.SpanLaws.{end_here, taken_same, lies_in_some, lies_in_means}
use Rattle.cxl_span.proofs.Wholes.{at_place}
use Rattle.cxl_span.proofs.Ends.{partition_ends}

-- all that the committed decoders skip and take
pub taken_to_cursor : (decoders : List Decoder) → sum_by span_step (take (committed_count decoders) decoders) ≡ cursor_of decoders
taken_to_cursor decoders =
    let n : ℕ = committed_count decoders in
    let few : n ≤ length decoders = prefix_len-le-length (λ (x : Decoder). x.committed) decoders in
    elim (cases_lt 0 n) [
      | inl some ↦
          (let last = at_place decoders (n - 1) (omega arith) in
          let back : n ≡ n - 1 + 1 = omega arith in
          taken_same decoders n (n - 1 + 1) back
          ∙ sym (end_here decoders (n - 1) last.0 last.1)
          ∙ sym (some_count n (span_end_of decoders (n - 1)) some))
      | inr few ↦
          (let none : n ≡ 0 = omega arith in
          taken_same decoders n 0 none ∙ sym (no_count n (span_end_of decoders (n - 1)) none))
    ]

-- a committed span ends on the device
pub span_ends : (block : Registers) (ram pmem i : ℕ) (d : Decoder) → BlockKeeps block ram pmem → block.endpoint ≡ true
    → slice_get block.decoders i ≡ Some d → d.committed ≡ true → span_start_of block.decoders i + span_length d ≤ ram + pmem
span_ends block ram pmem i d keeps endpoint here committed =
    let inside = lies_in_some block ram pmem i d keeps endpoint here committed in
    let means = lies_in_means inside.0 ram pmem (span_start_of block.decoders i) (span_length d) inside.1 in
    let ends = partition_ends inside.0 ram pmem in
    omega (arith, means.1, ends)

-- and so the cursor stands on it
pub cursor_within : (block : Registers) (ram pmem : ℕ) → BlockKeeps block ram pmem → block.endpoint ≡ true → cursor_of block.decoders ≤ ram + pmem
cursor_within block ram pmem keeps endpoint =
    let n : ℕ = committed_count block.decoders in
    let few : n ≤ length block.decoders = prefix_len-le-length (λ (x : Decoder). x.committed) block.decoders in
    elim (cases_lt 0 n) [
      | inl some ↦
          (let last = at_place block.decoders (n - 1) (omega arith) in
          let committed = counted_is_committed block.decoders (n - 1) last.0 last.1 (omega arith) in
          let ends = span_ends block ram pmem (n - 1) last.0 keeps endpoint last.1 committed in
          let at_end : cursor_of block.decoders ≡ span_end_of block.decoders (n - 1) = some_count n (span_end_of block.decoders (n - 1)) some in
          let length_there : option_map_or span_length (slice_get block.decoders (n - 1)) 0 ≡ span_length last.0 = ap (λ (o : Option Decoder). option_map_or span_length o 0) last.1 in
          omega (arith, ends, at_end, length_there))
      | inr few ↦
          (let none : n ≡ 0 = omega arith in
          let at_zero : cursor_of block.decoders ≡ 0 = no_count n (span_end_of block.decoders (n - 1)) none in
          omega (arith, at_zero))
    ]

-- every decoder is committed where all are counted
pub full_from_count : (decoders : List Decoder) → committed_count decoders ≡ length decoders → all_committed decoders ≡ true
full_from_count [] all = refl
full_from_count (first ∷ rest) all =
    list_all-from_AllPass (λ (x : Decoder). x.committed) (first ∷ rest)
    (All-from_get_or (λ (x : Decoder). x.committed ≡ true) (first ∷ rest) first
    (λ i within. prefix_len_passes (λ (x : Decoder). x.committed) (first ∷ rest) i first (omega arith)))

pub left_from_count : (decoders : List Decoder) → committed_count decoders < length decoders → all_committed decoders ≡ false
left_from_count [] some = absurd (omega arith)
left_from_count (first ∷ rest) some =
    list_all_at (λ (x : Decoder). x.committed) (first ∷ rest) (committed_count (first ∷ rest)) first some
    (prefix_len_stops (λ (x : Decoder). x.committed) (first ∷ rest) first some)
