-- Spans follow each other, in whole units, and each lies in one partition.
use Rattle.std.proofs.Common.{◌≡◌, ℕ, zero, suc, ◌+◌, ◌<◌, ◌≤◌, true, List, [], ◌∷◌, take, length, get_or, Some, sum_by, refl, ap, ◌∙◌, inl, inr, arith}
use Rattle.std.specs.Prelude.{slice_get, nat_le, IsTrue}
use Rattle.std.proofs.lemmas.Bool.{cases_lt, leb-true, le-leb, and_parts, or_cases}
use Rattle.std.proofs.lemmas.Option.{slice_get-get_or}
use Rattle.cxl_enc.specs.declared.caps.MemKind.{MemKind}
use Rattle.cxl_enc.specs.declared.caps.MemKind.TheVariants.{Ram, Pmem}
use Rattle.cxl_regs.specs.declared.decoder.Decoder.{Decoder}
use Rattle.cxl_regs.specs.Registers.{Registers}
use Rattle.cxl_regs.specs.Reading.{span_length}
use Rattle.cxl_span.specs.Spans.{span_step, span_start_of, span_end_of}
use Rattle.cxl_span.specs.Partitions.{lies_in, partition_start, partition_end}
use Rattle.cxl_span.specs.Breaches.{BlockKeeps}
use Rattle.cxl_span.proofs.Sums.{taken_more}
use Rattle.cxl_span.proofs.KeptRules.{in_ram_or_pmem}

pub start_here : (decoders : List Decoder) (i : ℕ) (d : Decoder) → slice_get decoders i ≡ Some d
    → span_start_of decoders i ≡ sum_by span_step (take i decoders) + d.tail
start_here decoders i d here = rw here refl

-- the end of a span is all that the decoders up to it skip and take
pub end_here : (decoders : List Decoder) (i : ℕ) (d : Decoder) → slice_get decoders i ≡ Some d
    → span_end_of decoders i ≡ sum_by span_step (take (i + 1) decoders)
end_here decoders i d here =
    let more = taken_more decoders i d here in
    rw here (omega (arith, more))

pub taken_same : (decoders : List Decoder) (i j : ℕ) → i ≡ j → sum_by span_step (take i decoders) ≡ sum_by span_step (take j decoders)
taken_same decoders i j same = ap (λ (k : ℕ). sum_by span_step (take k decoders)) same

taken_grows_one : (decoders : List Decoder) (n : ℕ) → n < length decoders → sum_by span_step (take n decoders) ≤ sum_by span_step (take (n + 1) decoders)
taken_grows_one [] n within = absurd (omega arith)
taken_grows_one (first ∷ rest) n within =
    let more = taken_more (first ∷ rest) n (get_or (first ∷ rest) n first) (slice_get-get_or (first ∷ rest) n first within) in
    omega (arith, more)

-- what the first decoders skip and take is no more than what more of them do
pub taken_grows : (decoders : List Decoder) (n i : ℕ) → i ≤ n → n ≤ length decoders
    → sum_by span_step (take i decoders) ≤ sum_by span_step (take n decoders)
taken_grows decoders zero i below within =
    let none : i ≡ 0 = omega arith in
    let same = taken_same decoders i 0 none in
    omega (arith, same)
taken_grows decoders (suc n) i below within =
    let next : suc n ≡ n + 1 = omega arith in
    let here = taken_same decoders (suc n) (n + 1) next in
    let step = taken_grows_one decoders n (omega arith) in
    elim (cases_lt i (suc n)) [
      | inl lower ↦ (let rest = taken_grows decoders n i (omega arith) (omega arith) in omega (arith, here, step, rest))
      | inr past ↦ (let all : i ≡ suc n = omega arith in let same = taken_same decoders i (suc n) all in omega (arith, same))
    ]

-- a span ends at or below the start of each later one
pub spans_follow : (decoders : List Decoder) (i j : ℕ) → i < j → j < length decoders → span_end_of decoders i ≤ span_start_of decoders j
spans_follow [] i j below within = absurd (omega arith)
spans_follow (first ∷ rest) i j below within =
    let decoders : List Decoder = first ∷ rest in
    let end = end_here decoders i (get_or decoders i first) (slice_get-get_or decoders i first (omega arith)) in
    let start = start_here decoders j (get_or decoders j first) (slice_get-get_or decoders j first within) in
    let grows = taken_grows decoders j (i + 1) (omega arith) (omega arith) in
    omega (arith, end, start, grows)

pub lies_in_means : (kind : MemKind) (ram pmem start len : ℕ) → lies_in kind ram pmem start len ≡ true
    → (partition_start kind ram ≤ start) × (start + len ≤ partition_end kind ram pmem)
lies_in_means kind ram pmem start len inside =
    let parts = and_parts (nat_le (partition_start kind ram) start) (nat_le (start + len) (partition_end kind ram pmem)) inside in
    (leb-true (partition_start kind ram) start parts.0, leb-true (start + len) (partition_end kind ram pmem) parts.1)

-- a committed span lies in some partition
pub lies_in_some : (block : Registers) (ram pmem i : ℕ) (d : Decoder) → BlockKeeps block ram pmem → block.endpoint ≡ true
    → slice_get block.decoders i ≡ Some d → d.committed ≡ true
    → (kind : MemKind) × IsTrue (lies_in kind ram pmem (span_start_of block.decoders i) (span_length d))
lies_in_some block ram pmem i d keeps endpoint here committed =
    elim (or_cases (lies_in Ram ram pmem (sum_by span_step (take i block.decoders) + d.tail) (span_length d))
    (lies_in Pmem ram pmem (sum_by span_step (take i block.decoders) + d.tail) (span_length d))
    (in_ram_or_pmem block ram pmem i d keeps here committed endpoint)) [
      | inl in_ram ↦ (Ram, moved Ram in_ram)
      | inr in_pmem ↦ (Pmem, moved Pmem in_pmem)
    ]
  where
    moved : (kind : MemKind) → lies_in kind ram pmem (sum_by span_step (take i block.decoders) + d.tail) (span_length d) ≡ true
        → IsTrue (lies_in kind ram pmem (span_start_of block.decoders i) (span_length d))
    moved kind inside = ap (λ (n : ℕ). lies_in kind ram pmem n (span_length d)) (start_here block.decoders i d here) ∙ inside

-- and in no other
pub lies_in_one : (kind other : MemKind) (ram pmem start len : ℕ) → 0 < len → lies_in kind ram pmem start len ≡ true
    → lies_in other ram pmem start len ≡ true → kind ≡ other
lies_in_one Ram Ram ram pmem start len some one two = refl
lies_in_one Pmem Pmem ram pmem start len some one two = refl
lies_in_one Ram Pmem ram pmem start len some one two =
    let a = lies_in_means Ram ram pmem start len one in
    let b = lies_in_means Pmem ram pmem start len two in absurd (omega arith)
lies_in_one Pmem Ram ram pmem start len some one two =
    let a = lies_in_means Ram ram pmem start len two in
    let b = lies_in_means Pmem ram pmem start len one in absurd (omega arith)

pub lies_in_from : (kind : MemKind) (ram pmem start len : ℕ) → partition_start kind ram ≤ start → start + len ≤ partition_end kind ram pmem
    → lies_in kind ram pmem start len ≡ true
lies_in_from kind ram pmem start len from to =
    rw (le-leb (partition_start kind ram) start from, le-leb (start + len) (partition_end kind ram pmem) to) refl
