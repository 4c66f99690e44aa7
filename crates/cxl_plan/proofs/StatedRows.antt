-- The rows that are stated, one node at a time.
use Rattle.std.proofs.Common.{◌≡◌, ℕ, zero, suc, ◌+◌, ◌-◌, ◌^◌, ◌<◌, ◌≤◌, Bool, true, false, not, ◌&&◌, List, [], ◌∷◌, ◌++◌, length, get_or, take, filter, map, max, refl, sym, ap, ◌∙◌, inl, inr, arith, if◌then◌else◌}
use Rattle.std.specs.Prelude.{nat_le, unwrap_or}
use Rattle.std.specs.List.{range_with_len}
use Rattle.std.proofs.lemmas.Bool.{cases_Bool, and_parts, leb-true, le-leb}
use Rattle.std.proofs.lemmas.List.{take_more, append-nil}
use Rattle.std.proofs.lemmas.List.Elements.{filter-append}
use Rattle.cxl_enc.specs.Codes.{code_in_table}
use Rattle.cxl_enc.specs.declared.caps.MemKind.{MemKind}
use Rattle.cxl_topo.specs.declared.node.Node.{Node}
use Rattle.cxl_topo.specs.Tree.{is_endpoint_at, forwards_at}
use Rattle.cxl_regs.specs.Registers.{Registers}
use Rattle.cxl_regs.specs.Reading.{committed_count}
use Rattle.cxl_regs.specs.declared.decoder.Decoder.{Decoder}
use Rattle.cxl_span.specs.declared.allotting.Span.{Span}
use Rattle.cxl_span.specs.Partitions.{partition_start, partition_end}
use Rattle.cxl_span.specs.Allotting.{IsLeastSpan, cursor_of}
use Rattle.cxl_window.specs.Fields.{WindowFields}
use Rattle.cxl_model.specs.declared.request.Request.{Request}
use Rattle.cxl_model.specs.declared.plan.Row.{Row}
use Rattle.cxl_model.specs.System.{decoders_at, ram_at}
use Rattle.cxl_legal.specs.Used.{is_used, used_ports}
use Rattle.cxl_legal.specs.Stated.{targets_word, stated_start, stated_row, stated_rows}
use Rattle.cxl_plan.specs.inner.Uses.{tree_alone, ports_at, ways_at, code_at, used_nodes}
use Rattle.cxl_plan.specs.inner.Judging.{without_windows, over}
use Rattle.cxl_plan.specs.inner.Planned.{tail_at, row_at, rows_at}

-- the least start is that which is stated
pub least_start : (decoders : List Decoder) (ram pmem : ℕ) (kind : MemKind) (len : ℕ) (span : Span) → IsLeastSpan decoders ram pmem kind len span → span.start ≡ max (cursor_of decoders) (partition_start kind ram)
least_start decoders ram pmem kind len span is =
    let parts = and_parts (nat_le (partition_start kind ram) span.start) (nat_le (span.start + len) (partition_end kind ram pmem)) is.can_start.inside in
    let from = leb-true (partition_start kind ram) span.start parts.0 in
    let inside = leb-true (span.start + len) (partition_end kind ram pmem) parts.1 in
    let after = is.can_start.after in
    let low = is.least (max (cursor_of decoders) (partition_start kind ram)) (record {
      after = omega arith;
      inside = both (le-leb (partition_start kind ram) (max (cursor_of decoders) (partition_start kind ram)) (omega arith)) (le-leb (max (cursor_of decoders) (partition_start kind ram) + len) (partition_end kind ram pmem) (omega arith));
    }) in
    omega arith
  where
    both : {a b : Bool} → a ≡ true → b ≡ true → (a && b) ≡ true
    both p q = rw (p, q) refl

pub skip_is : (decoders : List Decoder) (ram pmem : ℕ) (kind : MemKind) (len : ℕ) (span : Span) → IsLeastSpan decoders ram pmem kind len span → span.skip ≡ max (cursor_of decoders) (partition_start kind ram) - cursor_of decoders
skip_is decoders ram pmem kind len span is =
    let start = least_start decoders ram pmem kind len span is in
    let skip = is.skip in
    omega arith

module _ (nodes : List Node) (blocks : List Registers) (request : Request) where
  choose_tail : ℕ → Bool → ℕ
  choose_tail n endpoint =
      if endpoint then stated_start (without_windows nodes blocks) request n - cursor_of (decoders_at (without_windows nodes blocks) n) else targets_word (used_ports (without_windows nodes blocks) request n)

  pub tail_endpoint : (n : ℕ) → is_endpoint_at nodes n ≡ true
      → tail_at nodes blocks request n ≡ max (cursor_of (decoders_at (without_windows nodes blocks) n)) (partition_start request.kind (ram_at (without_windows nodes blocks) n)) - cursor_of (decoders_at (without_windows nodes blocks) n)
  unfolding tail_at choose_tail
  tail_endpoint n is = ap (choose_tail n) is

  pub tail_port : (n : ℕ) → is_endpoint_at nodes n ≡ false → tail_at nodes blocks request n ≡ targets_word (ports_at nodes request n)
  unfolding tail_at ports_at choose_tail
  tail_port n is = ap (choose_tail n) is

  module _ (w : WindowFields) (base : ℕ) where
    pub row_is : (n : ℕ) → row_at nodes blocks request w base n ≡ record {
      node = n;
      index = committed_count (decoders_at (without_windows nodes blocks) n);
      decoder = record { base = base; size = request.size; ways = unwrap_or (code_in_table (ways_at nodes request n)) 0; gran = code_at nodes request w n; lock = false; commit = false; committed = false; error = false; host_only = true; tail = tail_at nodes blocks request n };
    }
    unfolding row_at ways_at code_at tail_at
    row_is n = refl

    pub row_made : (n index ways gran tail : ℕ) → index ≡ committed_count (decoders_at (without_windows nodes blocks) n) → ways ≡ unwrap_or (code_in_table (ways_at nodes request n)) 0 → gran ≡ code_at nodes request w n → tail ≡ tail_at nodes blocks request n
        → (row : Row) → row ≡ record { node = n; index = index; decoder = record { base = base; size = request.size; ways = ways; gran = gran; lock = false; commit = false; committed = false; error = false; host_only = true; tail = tail } } → row ≡ row_at nodes blocks request w base n
    row_made n index ways gran tail i v g t row is =
        is
        ∙ (λ k. record { node = n; index = i k; decoder = record { base = base; size = request.size; ways = v k; gran = g k; lock = false; commit = false; committed = false; error = false; host_only = true; tail = t k } })
        ∙ sym (row_is n)

    -- ---- all rows

    abbrev pub rows_of : List ℕ → List Row
    rows_of xs = map (row_at nodes blocks request w base) (filter (λ n. not (forwards_at nodes n)) xs)

    twice : (p q : ℕ → Bool) (xs : List ℕ) → filter q (filter p xs) ≡ filter (λ n. p n && q n) xs
    twice p q [] = refl
    twice p q (x ∷ xs) =
        elim (cases_Bool (p x)) [
          | inl passes ↦ rw passes (elim (cases_Bool (q x)) [ inl both ↦ rw both (ap (λ (ys : List ℕ). x ∷ ys) (twice p q xs)) | inr fails ↦ rw fails (twice p q xs) ])
          | inr fails ↦ rw fails (twice p q xs)
        ]

    pub all_rows : (items : List ℕ) → items ≡ used_nodes nodes request → rows_of items ≡ rows_at nodes blocks request w base
    unfolding rows_at row_at
    all_rows items is =
        ap (λ (xs : List ℕ). map (stated_row (without_windows nodes blocks) request w base) (filter (λ n. not (forwards_at nodes n)) xs)) is
        ∙ ap (map (stated_row (without_windows nodes blocks) request w base)) (twice (is_used (tree_alone nodes) request) (λ n. not (forwards_at nodes n)) (range_with_len 0 (length nodes)))

    map_end : (xs : List ℕ) (x : ℕ) → map (row_at nodes blocks request w base) (xs ++ x ∷ []) ≡ map (row_at nodes blocks request w base) xs ++ row_at nodes blocks request w base x ∷ []
    map_end [] x = refl
    map_end (y ∷ xs) x = ap (λ (rs : List Row). row_at nodes blocks request w base y ∷ rs) (map_end xs x)

    pub one_row : (items : List ℕ) (i : ℕ) (old new : List Row) (row : Row) → i < length items → forwards_at nodes (get_or items i 0) ≡ false → row ≡ row_at nodes blocks request w base (get_or items i 0) → old ≡ rows_of (take i items)
        → new ≡ old ++ row ∷ [] → new ≡ rows_of (take (i + 1) items)
    one_row items i old new row lt decodes is known more =
        more ∙ ap (λ (rs : List Row). rs ++ row ∷ []) known ∙ ap (λ (r : Row). map (row_at nodes blocks request w base) (filter (λ n. not (forwards_at nodes n)) (take i items)) ++ r ∷ []) is
        ∙ sym (ap (λ (xs : List ℕ). map (row_at nodes blocks request w base) (filter (λ n. not (forwards_at nodes n)) xs)) (take_more items i 0 lt)
        ∙ ap (map (row_at nodes blocks request w base)) (filter-append (λ n. not (forwards_at nodes n)) (take i items) (get_or items i 0 ∷ []))
        ∙ rw decodes (map_end (filter (λ n. not (forwards_at nodes n)) (take i items)) (get_or items i 0)))

    pub no_row : (items : List ℕ) (i : ℕ) (old new : List Row) → i < length items → forwards_at nodes (get_or items i 0) ≡ true → old ≡ rows_of (take i items) → new ≡ old → new ≡ rows_of (take (i + 1) items)
    no_row items i old new lt forwards known same =
        same ∙ known
        ∙ sym (ap (λ (xs : List ℕ). map (row_at nodes blocks request w base) (filter (λ n. not (forwards_at nodes n)) xs)) (take_more items i 0 lt)
        ∙ ap (map (row_at nodes blocks request w base)) (filter-append (λ n. not (forwards_at nodes n)) (take i items) (get_or items i 0 ∷ []))
        ∙ rw forwards (ap (map (row_at nodes blocks request w base)) (append-nil (filter (λ n. not (forwards_at nodes n)) (take i items)))))

    pub first_rows : (old : List Row) → old ≡ [] → old ≡ rows_of []
    first_rows old is = is

    pub last_rows : (items : List ℕ) (i : ℕ) (rows : List Row) → take i items ≡ items → rows ≡ rows_of (take i items) → rows ≡ rows_of items
    last_rows items i rows whole known = known ∙ ap rows_of whole

    abbrev pub AreRows : List ℕ → List Row → Type 0
    AreRows xs rows = rows ≡ rows_of xs

-- ---- target lists

pub power_low : (k : ℕ) → k ≤ 7 → 256 ^ k ≤ 2 ^ 56
power_low zero low = omega arith
power_low (suc zero) low = omega arith
power_low (suc (suc zero)) low = omega arith
power_low (suc (suc (suc zero))) low = omega arith
power_low (suc (suc (suc (suc zero)))) low = omega arith
power_low (suc (suc (suc (suc (suc zero))))) low = omega arith
power_low (suc (suc (suc (suc (suc (suc zero)))))) low = omega arith
power_low (suc (suc (suc (suc (suc (suc (suc zero))))))) low = omega arith
power_low (suc (suc (suc (suc (suc (suc (suc (suc k)))))))) low = absurd (omega arith)

-- the rows over a system with windows
pub rows_told : (nodes : List Node) (blocks : List Registers) (windows : List WindowFields) (request : Request) (w : WindowFields) (base own : ℕ) (rows : List Row) → own ≡ base → rows ≡ rows_at nodes blocks request w base
    → rows ≡ stated_rows (over nodes blocks windows) request w own
unfolding rows_at
rows_told nodes blocks windows request w base own rows same is = is ∙ ap (stated_rows (over nodes blocks windows) request w) (sym same)
