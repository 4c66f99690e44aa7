-- The decoder that is stated for a used node: what its block can have, and that its words keep it.
use Rattle.std.proofs.Common.{◌≡◌, ℕ, ◌+◌, ◌-◌, ◌%◌, ◌^◌, ◌<◌, ◌≤◌, true, false, not, ◌&&◌, List, length, get_or, Option, Some, None, refl, sym, ap, ◌∙◌, subst, inl, inr, unwrap_or, arith}
use Rattle.std.specs.Prelude.{Contains, position, nat_lt, nat_le, ◌==◌}
use Rattle.std.specs.Option.{option_map_or}
use Rattle.std.specs.List.{position_or_len}
use Rattle.std.proofs.lemmas.Bool.{and_parts, and_from, leb-true, cond-true, cond-false, lt-ltb, false≢true, not_from_true, not_from_false}
use Rattle.std.proofs.lemmas.List.Sums.{position_or_len_is, prefix_len_passes, prefix_len_stops}
use Rattle.cxl_enc.specs.Codes.{ways_of, code_in_table, is_ways, bits_of}
use Rattle.cxl_enc.proofs.Lists.{All-at}
use Rattle.cxl_enc.proofs.Tests.{asked_or}
use Rattle.cxl_enc.proofs.Ways.{count_is_ways}
use Rattle.cxl_topo.specs.Tree.{is_endpoint_at}
use Rattle.cxl_regs.specs.declared.decoder.Decoder.{Decoder}
use Rattle.cxl_regs.specs.Registers.{IsDecoder, reset_decoder}
use Rattle.cxl_regs.specs.Reading.{committed_count, decoder_ways, select_bits}
use Rattle.cxl_regs.specs.Rules.{endpoint_ways_ok, select_ok}
use Rattle.cxl_span.specs.Partitions.{lies_in}
use Rattle.cxl_span.specs.Allotting.{cursor_of}
use Rattle.cxl_window.specs.Fields.{WindowFields, IsWindow, IsUsable}
use Rattle.cxl_window.proofs.Usable.{usable_is}
use Rattle.cxl_span.proofs.Ends.{partition_ends}
use Rattle.cxl_model.specs.declared.request.Request.{Request}
use Rattle.cxl_model.specs.declared.plan.Row.{Row}
use Rattle.cxl_model.specs.System.{System, decoders_at, ram_at, pmem_at}
use Rattle.cxl_model.specs.Plans.{IsRow}
use Rattle.cxl_model.proofs.RangeRules.{block_keeps}
use Rattle.cxl_legal.specs.Used.{request_ways, is_used, used_ports, planned_ways, planned_code, planned_ways_code}
use Rattle.cxl_legal.specs.Endpoints.{share_of, cap_at}
use Rattle.cxl_legal.specs.Stated.{Fits, planned_range, targets_word, stated_start, stated_tail, stated_decoder, stated_row, stated_rows, has_row}
use Rattle.cxl_legal.proofs.RowsSystems.{HasBlock}
use Rattle.cxl_legal.proofs.RowsRanges.{Lower, known_tree}
use Rattle.cxl_legal.proofs.RowsUsed.{used_kind, row_is}
use Rattle.cxl_legal.proofs.UsedPorts.{ports_small, port_ways, even_at}
use Rattle.cxl_legal.proofs.RowsImages.{row_of}
use Rattle.cxl_legal.proofs.RowsNumbers.{HasCode, code_of, word_wide, of_ways, of_step}
use Rattle.cxl_legal.proofs.RowsSpans.{SpanLaw, capacity_known, least_start, cursor_aligned, skip_aligned}

-- the first that is not committed stands behind those that are counted
first_free : (ds : List Decoder) → committed_count ds < length ds → position (λ d. not d.committed) ds ≡ Some (committed_count ds)
first_free ds left =
    let place : position_or_len (λ (d : Decoder). not d.committed) ds ≡ committed_count ds =
    position_or_len_is (λ (d : Decoder). not d.committed) ds (committed_count ds) reset_decoder (omega arith)
    (λ k low. not_from_true (get_or ds k reset_decoder).committed (prefix_len_passes (λ (d : Decoder). d.committed) ds k reset_decoder low))
    (λ low. not_from_false (get_or ds (committed_count ds) reset_decoder).committed (prefix_len_stops (λ (d : Decoder). d.committed) ds reset_decoder left)) in
    cond-true (nat_lt (position_or_len (λ (d : Decoder). not d.committed) ds) (length ds)) (Some (position_or_len (λ (d : Decoder). not d.committed) ds)) None
    (lt-ltb (position_or_len (λ (d : Decoder). not d.committed) ds) (length ds) (omega arith)) ∙ ap (λ (k : ℕ). Some k) place

module _ (lower : Lower) (spans : SpanLaw) (s : System) (request : Request) (w : WindowFields) (base : ℕ) (fits : Fits s request w base) where
  known_window : IsUsable w
  known_window = (All-at IsWindow s.windows w.index w fits.window.there fits.system.made.each).usable (usable_is w.verdict fits.window.usable)

  -- ---- base and size

  pub base_aligned : base % 2 ^ 28 ≡ 0
  base_aligned = of_step w.base base (w.ways % 3 == 0) fits.starts.can.from known_window.aligned fits.starts.can.step

  pub size_aligned : request.size % 2 ^ 28 ≡ 0
  size_aligned = of_ways request.size (request_ways request) fits.endpoints.ways fits.endpoints.size.even

  pub end_low : base + request.size ≤ 2 ^ 52
  end_low =
      let inside = fits.starts.inside in
      let low : w.base + w.size ≤ 2 ^ 52 = known_window.low in
      omega arith

  -- ---- ways and codes

  pub endpoint_ways : (n : ℕ) → is_endpoint_at s.nodes n ≡ true → planned_ways s request n ≡ request_ways request
  endpoint_ways n endpoint = cond-true (is_endpoint_at s.nodes n) (request_ways request) (length (used_ports s request n)) endpoint

  pub ways_known : (n : ℕ) → is_used s request n ≡ true → is_ways (planned_ways s request n) ≡ true
  ways_known n used =
      elim (used_kind s request n (known_tree lower s request w base fits) fits.named used) [
        | inl endpoint ↦ ap is_ways (endpoint_ways n endpoint.1) ∙ fits.endpoints.ways
        | inr port ↦ ap is_ways (port_ways s request n port.1) ∙ count_is_ways (length (used_ports s request n)) (even_at s request fits.endpoints n port.0 used).count
      ]

  -- the code of its ways, which stands for them
  pub record HasOwnCode (n : ℕ) : Type 0 where
    pub own : HasCode (planned_ways s request n)
    pub code : planned_ways_code s request n ≡ own.code
    pub ways : decoder_ways (stated_decoder s request w base n) ≡ planned_ways s request n
    pub bits : select_bits (planned_ways_code s request n) ≡ bits_of (planned_ways s request n)

  pub own_code : (n : ℕ) → is_used s request n ≡ true → HasOwnCode n
  own_code n used =
      let own = code_of (planned_ways s request n) (ways_known n used) in
      let code : planned_ways_code s request n ≡ own.code = ap (λ (o : Option ℕ). unwrap_or o 0) own.is in
      let back : ways_of (planned_ways_code s request n) ≡ Some (planned_ways s request n) = ap ways_of code ∙ own.back in
      record {
        own = own;
        code = code;
        ways = ap (λ (o : Option ℕ). unwrap_or o 1) back;
        bits = ap (λ (o : Option ℕ). option_map_or bits_of o 0) back;
      }

  pub selects : (n : ℕ) → is_used s request n ≡ true → (planned_code s request w n ≤ 6) × (select_ok (cap_at s n) (planned_code s request w n) (bits_of (planned_ways s request n)) ≡ true)
  selects n used =
      let parts = and_parts (nat_le (planned_code s request w n) 6) (select_ok (cap_at s n) (planned_code s request w n) (bits_of (planned_ways s request n)))
      (asked_or (is_used s request n) (nat_le (planned_code s request w n) 6 && select_ok (cap_at s n) (planned_code s request w n) (bits_of (planned_ways s request n))) (fits.window.selects n) used) in
      (leb-true (planned_code s request w n) 6 parts.0, parts.1)

  -- an endpoint can have the ways
  pub endpoint_can : (n : ℕ) → is_endpoint_at s.nodes n ≡ true → is_used s request n ≡ true → endpoint_ways_ok (cap_at s n) (planned_ways_code s request n) ≡ true
  endpoint_can n endpoint used =
      let own = own_code n used in
      let table : code_in_table (request_ways request) ≡ Some own.own.code = ap code_in_table (sym (endpoint_ways n endpoint)) ∙ own.own.is in
      let can : option_map_or (endpoint_ways_ok (cap_at s n)) (code_in_table (request_ways request)) false ≡ true =
      asked_or (is_endpoint_at s.nodes n && is_used s request n) (option_map_or (endpoint_ways_ok (cap_at s n)) (code_in_table (request_ways request)) false) (fits.window.ways n)
      (and_from (is_endpoint_at s.nodes n) (is_used s request n) endpoint used) in
      ap (endpoint_ways_ok (cap_at s n)) own.code ∙ sym (ap (λ (o : Option ℕ). option_map_or (endpoint_ways_ok (cap_at s n)) o false) table) ∙ can

  -- ---- spans

  -- the span of a requested endpoint lies in the kind's partition
  pub record HasSpanRoom (n : ℕ) : Type 0 where
    pub inside : lies_in request.kind (ram_at s n) (pmem_at s n) (stated_start s request n) (share_of request) ≡ true
    pub low : stated_start s request n ≤ 2 ^ 52
    pub ram : ram_at s n % 2 ^ 28 ≡ 0

  pub span_room : (n : ℕ) → Contains request.endpoints n → HasSpanRoom n
  span_room n there =
      let room = fits.endpoints.room n there in
      let least = least_start request.kind (ram_at s n) (pmem_at s n) (cursor_of (decoders_at s n)) room.0.start (share_of request) room.1.can_start.after room.1.can_start.inside in
      let end = least.1 in
      let within = partition_ends request.kind (ram_at s n) (pmem_at s n) in
      let capacity = capacity_known s n fits.system.tree in
      let low = capacity.low in
      record { inside = least.0; low = omega arith; ram = capacity.aligned }

  -- ---- the tail

  record HasTail (n : ℕ) : Type 0 where
    wide : stated_tail s request n < 2 ^ 64
    skip : is_endpoint_at s.nodes n ≡ true → stated_tail s request n % 2 ^ 28 ≡ 0

  tail_of : (n : ℕ) → is_used s request n ≡ true → HasBlock s n → HasTail n
  tail_of n used own =
      elim (used_kind s request n (known_tree lower s request w base fits) fits.named used) [
        | inl endpoint ↦
            let is : stated_tail s request n ≡ stated_start s request n - cursor_of (decoders_at s n) =
            cond-true (is_endpoint_at s.nodes n) (stated_start s request n - cursor_of (decoders_at s n)) (targets_word (used_ports s request n)) endpoint.1 in
            let room = span_room n endpoint.0 in
            let low = room.low in
            let keeps = block_keeps s (λ rule m j few. fits.accepted.each rule m j) n own.block own.here in
            let cursor : cursor_of (decoders_at s n) % 2 ^ 28 ≡ 0 =
            ap (λ (ds : List Decoder). cursor_of ds % 2 ^ 28) own.decoders ∙ cursor_aligned spans lower.counted own.block (ram_at s n) (pmem_at s n) own.is keeps (sym own.endpoint ∙ endpoint.1) in
            record { wide = omega arith; skip = λ same. ap (λ (k : ℕ). k % 2 ^ 28) is ∙ skip_aligned request.kind (cursor_of (decoders_at s n)) (ram_at s n) cursor room.ram }
        | inr port ↦
            let is : stated_tail s request n ≡ targets_word (used_ports s request n) =
            cond-false (is_endpoint_at s.nodes n) (stated_start s request n - cursor_of (decoders_at s n)) (targets_word (used_ports s request n)) port.1 in
            let word = word_wide (used_ports s request n) (ports_small s request n) (even_at s request fits.endpoints n port.0 used).count in
            record { wide = omega arith; skip = λ endpoint. absurd (false≢true (sym port.1 ∙ endpoint)) }
      ]

  -- ---- the decoder

  pub kept_decoder : (n : ℕ) → is_used s request n ≡ true → HasBlock s n → IsDecoder (is_endpoint_at s.nodes n) (stated_decoder s request w base n)
  kept_decoder n used own =
      let end = end_low in
      let code = own_code n used in
      let few = code.own.small in
      let same = code.code in
      let gran = (selects n used).0 in
      let tail = tail_of n used own in
      record {
        base = record { multiple = base_aligned; wide = omega arith };
        size = record { multiple = size_aligned; wide = omega arith };
        ways = omega arith;
        gran = omega arith;
        tail = tail.wide;
        skip = tail.skip;
      }

  -- each stated row is one
  is_row_at : (n : ℕ) → has_row s request n ≡ true → IsRow s (planned_range request base) (stated_row s request w base n)
  is_row_at n has =
      let row = row_of lower s request w base fits n has in
      record {
        first = first_free (decoders_at s n) (subst (λ (ds : List Decoder). committed_count ds < length ds) (sym row.own.decoders) row.left);
        range = refl;
        kept = kept_decoder n row.used row.own;
        unlocked = refl;
        uncommitted = (refl, refl, refl);
      }

  pub is_row : (row : Row) → Contains (stated_rows s request w base) row → IsRow s (planned_range request base) row
  is_row row there =
      let is = row_is s request w base row there in
      subst (IsRow s (planned_range request base)) is.2 (is_row_at is.0 is.1)
