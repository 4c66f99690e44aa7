-- Where the next span of an endpoint stands, and that it is a multiple of 256 MiB within the kind's partition.
use Rattle.std.proofs.Common.{◌≡◌, ℕ, ◌+◌, ◌-◌, ◌%◌, ◌^◌, ◌<◌, ◌≤◌, ◌⊎◌, true, ◌&&◌, ◌||◌, List, length, get_or, Option, Some, None, max, refl, ap, ◌∙◌, inl, inr, arith}
use Rattle.std.specs.Prelude.{slice_get, nat_le, ◌==◌}
use Rattle.std.specs.Option.{option_map_or, option_and_then}
use Rattle.std.proofs.Math.Nat.{le-max_right, max-le}
use Rattle.std.proofs.lemmas.Bool.{cases_lt, and_parts, and_from, leb-true, le-leb, eqb-true, or_left, or_right}
use Rattle.std.proofs.lemmas.List.Sums.{prefix_len-le-length}
use Rattle.std.proofs.lemmas.Option.{slice_get-get_or}
use Rattle.cxl_enc.specs.declared.caps.MemKind.{MemKind}
use Rattle.cxl_enc.specs.declared.caps.MemKind.TheVariants.{Ram, Pmem}
use Rattle.cxl_enc.specs.Limits.{unit, address_limit}
use Rattle.cxl_enc.proofs.Numbers.{some_count, no_count}
use Rattle.cxl_topo.specs.declared.node.Node.{Node}
use Rattle.cxl_topo.specs.declared.node.Capacity.{Capacity}
use Rattle.cxl_topo.specs.Faults.{IsTree, is_capacity}
use Rattle.cxl_topo.specs.Kinds.{capacity_of}
use Rattle.cxl_regs.specs.declared.decoder.Decoder.{Decoder}
use Rattle.cxl_regs.specs.Registers.{Registers, IsBlock, reset_decoder}
use Rattle.cxl_regs.specs.Reading.{committed_count, span_length}
use Rattle.cxl_span.specs.Spans.{span_start_of, span_end_of}
use Rattle.cxl_span.specs.Partitions.{partition_start, partition_end, lies_in}
use Rattle.cxl_span.specs.Allotting.{cursor_of}
use Rattle.cxl_span.specs.Breaches.{BlockKeeps}
use Rattle.cxl_model.specs.System.{System, ram_at, pmem_at}
use Rattle.cxl_legal.proofs.RowsRanges.{CountedLaw}

-- ---- partitions

-- where a span can start, the least start lies in the partition as well
pub least_start : (kind : MemKind) (ram pmem cursor start len : ℕ) → cursor ≤ start → lies_in kind ram pmem start len ≡ true
    → (lies_in kind ram pmem (max cursor (partition_start kind ram)) len ≡ true) × (max cursor (partition_start kind ram) + len ≤ partition_end kind ram pmem)
least_start kind ram pmem cursor start len after inside =
    let parts = and_parts (nat_le (partition_start kind ram) start) (nat_le (start + len) (partition_end kind ram pmem)) inside in
    let from : partition_start kind ram ≤ start = leb-true (partition_start kind ram) start parts.0 in
    let to : start + len ≤ partition_end kind ram pmem = leb-true (start + len) (partition_end kind ram pmem) parts.1 in
    let least : ℕ = max cursor (partition_start kind ram) in
    let low : least ≤ start = max-le after from in
    let high : partition_start kind ram ≤ least = le-max_right cursor (partition_start kind ram) in
    let end : least + len ≤ partition_end kind ram pmem = omega (arith, low, to) in
    (and_from (nat_le (partition_start kind ram) least) (nat_le (least + len) (partition_end kind ram pmem)) (le-leb (partition_start kind ram) least high) (le-leb (least + len) (partition_end kind ram pmem) end), end)

pub in_one : (kind : MemKind) (ram pmem start len : ℕ) → lies_in kind ram pmem start len ≡ true → (lies_in Ram ram pmem start len || lies_in Pmem ram pmem start len) ≡ true
in_one Ram ram pmem start len inside = or_left (lies_in Ram ram pmem start len) (lies_in Pmem ram pmem start len) inside
in_one Pmem ram pmem start len inside = or_right (lies_in Ram ram pmem start len) (lies_in Pmem ram pmem start len) inside

-- ---- capacities

pub record HasCapacity (ram pmem : ℕ) : Type 0 where
  pub aligned : ram % 2 ^ 28 ≡ 0
  pub low : ram + pmem ≤ 2 ^ 52

capacity_if : (o : Option Capacity) → ((c : Capacity) → o ≡ Some c → is_capacity c ≡ true) → HasCapacity (option_map_or (λ c. c.ram) o 0) (option_map_or (λ c. c.pmem) o 0)
capacity_if None each = record { aligned = refl; low = omega arith }
capacity_if (Some c) each =
    let all = and_parts ((c.ram % unit == 0) && (c.pmem % unit == 0)) (nat_le (c.ram + c.pmem) address_limit) (each c refl) in
    record { aligned = eqb-true (c.ram % unit) 0 (and_parts (c.ram % unit == 0) (c.pmem % unit == 0) all.0).0; low = leb-true (c.ram + c.pmem) address_limit all.1 }

pub capacity_known : (s : System) (n : ℕ) → IsTree s.nodes → HasCapacity (ram_at s n) (pmem_at s n)
capacity_known s n tree = go (slice_get s.nodes n) refl
  where
    go : (o : Option Node) → slice_get s.nodes n ≡ o
        → HasCapacity (option_map_or (λ c. c.ram) (option_and_then (λ node. capacity_of node.kind) o) 0) (option_map_or (λ c. c.pmem) (option_and_then (λ node. capacity_of node.kind) o) 0)
    go None is = record { aligned = refl; low = omega arith }
    go (Some node) is = capacity_if (capacity_of node.kind) (λ c own. tree.capacities n node c is own)

-- ---- the cursor

-- the last committed decoder, where one is
pub record HasLast (ds : List Decoder) : Type 0 where
  pub d : Decoder
  pub at : slice_get ds (committed_count ds - 1) ≡ Some d
  pub some : 0 < committed_count ds

pub cases_last : (ds : List Decoder) → (committed_count ds ≡ 0) ⊎ HasLast ds
cases_last ds =
    let few : committed_count ds ≤ length ds = prefix_len-le-length (λ (x : Decoder). x.committed) ds in
    elim (cases_lt 0 (committed_count ds)) [
      | inl some ↦ inr (record { d = get_or ds (committed_count ds - 1) reset_decoder; at = slice_get-get_or ds (committed_count ds - 1) reset_decoder (omega arith); some = some })
      | inr none ↦ inl (omega arith)
    ]

-- what the law of spans says of an endpoint's block
pub record SpanLaw : Type 0 where
  pub starts : (block : Registers) (ram pmem i : ℕ) (d : Decoder) → IsBlock block → BlockKeeps block ram pmem → block.endpoint ≡ true
      → slice_get block.decoders i ≡ Some d → d.committed ≡ true → span_start_of block.decoders i % unit ≡ 0
  pub lengths : (block : Registers) (ram pmem i : ℕ) (d : Decoder) → BlockKeeps block ram pmem → block.endpoint ≡ true
      → slice_get block.decoders i ≡ Some d → d.committed ≡ true → span_length d % unit ≡ 0

-- the cursor is a multiple of 256 MiB
pub cursor_aligned : SpanLaw → CountedLaw → (block : Registers) (ram pmem : ℕ) → IsBlock block → BlockKeeps block ram pmem → block.endpoint ≡ true → cursor_of block.decoders % 2 ^ 28 ≡ 0
cursor_aligned law counted block ram pmem is keeps endpoint =
    let ds : List Decoder = block.decoders in
    let n : ℕ = committed_count ds in
    elim (cases_last ds) [
      | inl none ↦ ap (λ (k : ℕ). k % 2 ^ 28) (no_count n (span_end_of ds (n - 1)) none)
      | inr last ↦
          let some = last.some in
          let committed = (counted block ram pmem (n - 1) last.d keeps last.at).1 (omega arith) in
          let start : span_start_of ds (n - 1) % 2 ^ 28 ≡ 0 = law.starts block ram pmem (n - 1) last.d is keeps endpoint last.at committed in
          let long : span_length last.d % 2 ^ 28 ≡ 0 = law.lengths block ram pmem (n - 1) last.d keeps endpoint last.at committed in
          let end : cursor_of ds ≡ span_start_of ds (n - 1) + span_length last.d =
          some_count n (span_end_of ds (n - 1)) some ∙ ap (λ (o : Option Decoder). span_start_of ds (n - 1) + option_map_or span_length o 0) last.at in
          ap (λ (k : ℕ). k % 2 ^ 28) end ∙ both (span_start_of ds (n - 1)) (span_length last.d) start long
    ]
  where
    both : (a b : ℕ) → a % 2 ^ 28 ≡ 0 → b % 2 ^ 28 ≡ 0 → (a + b) % 2 ^ 28 ≡ 0
    both a b p q = omega arith

-- and so is the distance from there to where the next span starts
pub skip_aligned : (kind : MemKind) (cursor ram : ℕ) → cursor % 2 ^ 28 ≡ 0 → ram % 2 ^ 28 ≡ 0 → (max cursor (partition_start kind ram) - cursor) % 2 ^ 28 ≡ 0
skip_aligned kind cursor ram at aligned = of_start (partition_start kind ram) (of_kind kind)
  where
    of_kind : (kind : MemKind) → partition_start kind ram % 2 ^ 28 ≡ 0
    of_kind Ram = refl
    of_kind Pmem = aligned

    of_start : (start : ℕ) → start % 2 ^ 28 ≡ 0 → (max cursor start - cursor) % 2 ^ 28 ≡ 0
    of_start start is = omega arith
