-- With the stated rows of a fitting request committed, every block keeps its rules, and the image is that of a system.
use Rattle.std.proofs.Common.{◌≡◌, ℕ, ◌+◌, ◌-◌, ◌*◌, ◌/◌, ◌%◌, ◌^◌, ◌≤◌, ◌⊎◌, Bool, true, false, cond, ◌||◌, if◌then◌else◌, List, length, get_or, Option, Some, refl, sym, ap, ◌∙◌, subst, inl, inr, unwrap_or, eq-eqb, arith}
use Rattle.std.specs.Prelude.{slice_get, slice_set, Contains, option_map, nat_le, ◌==◌}
use Rattle.std.specs.Option.{option_map_or}
use Rattle.std.proofs.Math.Nat.{le-max_left}
use Rattle.std.proofs.lemmas.Bool.{cases_Bool, and_from, le-leb, cond-true, cond-false}
use Rattle.std.proofs.lemmas.List.{length-set}
use Rattle.std.proofs.lemmas.List.Elements.{All-set}
use Rattle.std.proofs.lemmas.Option.{slice_get-get_or, same_Some}
use Rattle.cxl_enc.specs.declared.caps.MemKind.TheVariants.{Ram, Pmem}
use Rattle.cxl_enc.specs.Codes.{code_in_table}
use Rattle.cxl_enc.specs.Caps.{targets_of}
use Rattle.cxl_enc.specs.Limits.{unit}
use Rattle.cxl_enc.proofs.Lists.{All-at}
use Rattle.cxl_topo.specs.Tree.{is_endpoint_at, is_port_at}
use Rattle.cxl_regs.specs.declared.decoder.Decoder.{Decoder}
use Rattle.cxl_regs.specs.Registers.{Registers, IsBlock, IsDecoder}
use Rattle.cxl_regs.specs.Reading.{committed_count, decoder_ways, select_bits, span_length}
use Rattle.cxl_regs.specs.Rules.{select_ok, endpoint_ways_ok, port_ways_ok}
use Rattle.cxl_span.specs.Breaches.{BlockKeeps}
use Rattle.cxl_span.specs.Partitions.{lies_in}
use Rattle.cxl_span.specs.Allotting.{cursor_of}
use Rattle.cxl_window.specs.Fields.{WindowFields}
use Rattle.cxl_model.specs.declared.request.Request.{Request}
use Rattle.cxl_model.specs.System.{System, IsSystem, decoders_at, ram_at, pmem_at}
use Rattle.cxl_model.specs.Accepted.{KeepsBlocks}
use Rattle.cxl_model.specs.Plans.{committed_row, block_with_row}
use Rattle.cxl_model.proofs.RangeRules.{block_keeps}
use Rattle.cxl_model.proofs.OtherBlocks.{keeps_again}
use Rattle.cxl_legal.specs.Used.{request_ways, is_used, used_ports, planned_code, planned_ways_code}
use Rattle.cxl_legal.specs.Endpoints.{share_of, cap_at}
use Rattle.cxl_legal.specs.Bases.{last_end}
use Rattle.cxl_legal.specs.Stated.{Fits, has_row, targets_word, stated_start, stated_tail, stated_decoder, stated_row, stated_rows}
use Rattle.cxl_legal.proofs.FittingRows.{length-fold}
use Rattle.cxl_legal.proofs.RowsSystems.{HasBlock}
use Rattle.cxl_legal.proofs.RowsRanges.{Lower, known_tree, end_at}
use Rattle.cxl_legal.proofs.RowsUsed.{used_kind}
use Rattle.cxl_legal.proofs.UsedPorts.{port_ways, even_at}
use Rattle.cxl_legal.proofs.RowsImages.{HasRow, row_of, after, block_with, block_same}
use Rattle.cxl_legal.proofs.RowsNumbers.{exponent_of}
use Rattle.cxl_legal.proofs.RowsSpans.{SpanLaw, in_one}
use Rattle.cxl_legal.proofs.RowsDecoders.{end_low, endpoint_ways, own_code, selects, endpoint_can, span_room, kept_decoder}
use Rattle.cxl_legal.proofs.RowsRules.{CanFollow, grown_keeps}

module _ (lower : Lower) (spans : SpanLaw) (s : System) (request : Request) (w : WindowFields) (base : ℕ) (fits : Fits s request w base) where
  keeps : KeepsBlocks s
  keeps = λ rule n i low. fits.accepted.each rule n i

  -- the decoder that is committed in node n
  abbrev new_at : ℕ → Decoder
  new_at n = committed_row (stated_row s request w base n)

  -- ---- K4 to K8 of it

  -- a port has the ways
  port_can : (n : ℕ) → is_port_at s.nodes n ≡ true → is_endpoint_at s.nodes n ≡ false → is_used s request n ≡ true → port_ways_ok (cap_at s n) (planned_ways_code s request n) ≡ true
  port_can n port other used =
      let even = even_at s request fits.endpoints n port used in
      let own = exponent_of (length (used_ports s request n)) even.count in
      let code : planned_ways_code s request n ≡ own.code =
      ap (λ (p : ℕ). unwrap_or (code_in_table p) 0) (port_ways s request n other) ∙ ap (λ (o : Option ℕ). unwrap_or o 0) own.is in
      let power = own.power in
      let few = even.few in
      ap (port_ways_ok (cap_at s n)) code
      ∙ and_from (nat_le own.code 3) (nat_le (2 ^ own.code) (targets_of (cap_at s n))) (le-leb own.code 3 own.small) (le-leb (2 ^ own.code) (targets_of (cap_at s n)) (omega (arith, power, few)))

  ways_can : (n : ℕ) → is_used s request n ≡ true → (own : HasBlock s n)
      → (if own.block.endpoint then endpoint_ways_ok own.block.cap (planned_ways_code s request n) else port_ways_ok own.block.cap (planned_ways_code s request n)) ≡ true
  ways_can n used own =
      elim (used_kind s request n (known_tree lower s request w base fits) fits.named used) [
        | inl endpoint ↦
            cond-true own.block.endpoint (endpoint_ways_ok own.block.cap (planned_ways_code s request n)) (port_ways_ok own.block.cap (planned_ways_code s request n)) (sym own.endpoint ∙ endpoint.1)
            ∙ ap (λ (cap : ℕ). endpoint_ways_ok cap (planned_ways_code s request n)) (sym own.cap) ∙ endpoint_can lower spans s request w base fits n endpoint.1 used
        | inr port ↦
            cond-false own.block.endpoint (endpoint_ways_ok own.block.cap (planned_ways_code s request n)) (port_ways_ok own.block.cap (planned_ways_code s request n)) (sym own.endpoint ∙ port.1)
            ∙ ap (λ (cap : ℕ). port_ways_ok cap (planned_ways_code s request n)) (sym own.cap) ∙ port_can n port.0 port.1 used
      ]

  -- an endpoint's ways are those of the request
  pub endpoint_decoder_ways : (n : ℕ) → is_used s request n ≡ true → is_endpoint_at s.nodes n ≡ true → decoder_ways (new_at n) ≡ request_ways request
  endpoint_decoder_ways n used endpoint = (own_code lower spans s request w base fits n used).ways ∙ endpoint_ways lower spans s request w base fits n endpoint

  -- and its span is that of an allotment
  span_can : (n : ℕ) → is_used s request n ≡ true → (own : HasBlock s n) → is_endpoint_at s.nodes n ≡ true
      → (lies_in Ram (ram_at s n) (pmem_at s n) (cursor_of own.block.decoders + stated_tail s request n) (span_length (new_at n))
      || lies_in Pmem (ram_at s n) (pmem_at s n) (cursor_of own.block.decoders + stated_tail s request n) (span_length (new_at n))) ≡ true
  span_can n used own endpoint =
      let there : Contains request.endpoints n = elim (used_kind s request n (known_tree lower s request w base fits) fits.named used) [ inl is ↦ is.0 | inr port ↦ absurd (both_ways endpoint port.1) ] in
      let room = span_room lower spans s request w base fits n there in
      let tail : stated_tail s request n ≡ stated_start s request n - cursor_of (decoders_at s n) =
      cond-true (is_endpoint_at s.nodes n) (stated_start s request n - cursor_of (decoders_at s n)) (targets_word (used_ports s request n)) endpoint in
      let cursor : cursor_of (decoders_at s n) ≡ cursor_of own.block.decoders = ap cursor_of own.decoders in
      let least : cursor_of (decoders_at s n) ≤ stated_start s request n = le-max_left (cursor_of (decoders_at s n)) _ in
      let start : cursor_of own.block.decoders + stated_tail s request n ≡ stated_start s request n = omega (arith, tail, cursor, least) in
      let long : span_length (new_at n) ≡ share_of request = ap (λ (p : ℕ). request.size / p) (endpoint_decoder_ways n used endpoint) in
      ap (λ (k : ℕ). lies_in Ram (ram_at s n) (pmem_at s n) k (span_length (new_at n)) || lies_in Pmem (ram_at s n) (pmem_at s n) k (span_length (new_at n))) start
      ∙ ap (λ (k : ℕ). lies_in Ram (ram_at s n) (pmem_at s n) (stated_start s request n) k || lies_in Pmem (ram_at s n) (pmem_at s n) (stated_start s request n) k) long
      ∙ in_one request.kind (ram_at s n) (pmem_at s n) (stated_start s request n) (share_of request) room.inside
    where
      both_ways : {b : Bool} → b ≡ true → b ≡ false → ⊥
      both_ways is other = cc

  can_follow : (n : ℕ) (row : HasRow lower s request w base fits n) → CanFollow row.own.block (ram_at s n) (pmem_at s n) (new_at n)
  can_follow n row =
      let used = row.used in
      let own = row.own in
      let code = own_code lower spans s request w base fits n used in
      let select = selects lower spans s request w base fits n used in
      record {
        committed = refl;
        commit = refl;
        host_only = refl;
        good = refl;
        codes = and_from (nat_le (planned_code s request w n) 6) _ (le-leb (planned_code s request w n) 6 select.0) (ways_can n used own);
        select = ap (λ (cap : ℕ). select_ok cap (planned_code s request w n) (select_bits (planned_ways_code s request n))) (sym own.cap)
            ∙ ap (select_ok (cap_at s n) (planned_code s request w n)) code.bits ∙ select.1;
        some = fits.endpoints.size.some;
        low = end_low lower spans s request w base fits;
        even = λ endpoint.
            let ways = endpoint_decoder_ways n used (own.endpoint ∙ endpoint) in
            ap (λ (p : ℕ). request.size % (unit * p) == 0) ways ∙ eq-eqb (request.size % (unit * request_ways request)) 0 fits.endpoints.size.even;
        rise = λ last.
            let end : last_end s n ≡ last.d.base + last.d.size =
            ap (λ (ds : List Decoder). cond (committed_count ds == 0) 0 (option_map_or (λ e. e.base + e.size) (slice_get ds (committed_count ds - 1)) 0)) own.decoders
            ∙ end_at (committed_count own.block.decoders) (slice_get own.block.decoders (committed_count own.block.decoders - 1)) last.d last.some last.at in
            let above = fits.starts.can.after n used in
            omega (arith, end, above);
        inside = λ endpoint. span_can n used own (own.endpoint ∙ endpoint);
      }

  -- ---- blocks

  -- a block of the new image is one with its row, or is as it was
  block_cases : (n : ℕ) (b : Registers) → slice_get (after lower s request w base fits).blocks n ≡ Some b
      → ((row : HasRow lower s request w base fits n) × (block_with_row (stated_row s request w base n) row.own.block ≡ b)) ⊎ (slice_get s.blocks n ≡ Some b)
  block_cases n b at =
      elim (cases_Bool (has_row s request n)) [
        | inl has ↦
            let row = row_of lower s request w base fits n has in
            inl (row, same_Some (block_with_row (stated_row s request w base n) row.own.block) b (sym (block_with lower s request w base fits n row.own.block has row.own.here) ∙ at))
        | inr none ↦ inr (sym (block_same lower s request w base fits n none) ∙ at)
      ]

  grown_is : (n : ℕ) (row : HasRow lower s request w base fits n)
      → record (row.own.block) { enabled = true; decoders = slice_set row.own.block.decoders (committed_count row.own.block.decoders) (new_at n) } ≡ block_with_row (stated_row s request w base n) row.own.block
  grown_is n row = ap (λ (ds : List Decoder). record (row.own.block) { enabled = true; decoders = slice_set row.own.block.decoders (committed_count ds) (new_at n) }) (sym row.own.decoders)

  block_kept : (n : ℕ) (b : Registers) → slice_get (after lower s request w base fits).blocks n ≡ Some b → BlockKeeps b (ram_at s n) (pmem_at s n)
  block_kept n b at =
      elim (block_cases n b at) [
        | inl new ↦
            let row = new.0 in
            subst (λ (x : Registers). BlockKeeps x (ram_at s n) (pmem_at s n)) (grown_is n row ∙ new.1)
            (grown_keeps lower.counted row.own.block (ram_at s n) (pmem_at s n) (new_at n) (block_keeps s keeps n row.own.block row.own.here) row.left (can_follow n row))
        | inr old ↦ block_keeps s keeps n b old
      ]

  same_cap : (n : ℕ) → option_map (λ (b : Registers). b.cap) (slice_get (after lower s request w base fits).blocks n) ≡ option_map (λ (b : Registers). b.cap) (slice_get s.blocks n)
  same_cap n =
      elim (cases_Bool (has_row s request n)) [
        | inl has ↦
            let row = row_of lower s request w base fits n has in
            ap (option_map (λ (b : Registers). b.cap)) (block_with lower s request w base fits n row.own.block has row.own.here) ∙ sym (ap (option_map (λ (b : Registers). b.cap)) row.own.here)
        | inr none ↦ ap (option_map (λ (b : Registers). b.cap)) (block_same lower s request w base fits n none)
      ]

  -- K1 to K8 hold of the new image
  pub blocks_kept : KeepsBlocks (after lower s request w base fits)
  blocks_kept = keeps_again s (after lower s request w base fits).blocks keeps (length-fold (stated_rows s request w base) s.blocks) same_cap block_kept

  -- ---- the system

  committed_kept : (endpoint : Bool) (d : Decoder) → IsDecoder endpoint d → IsDecoder endpoint (record d { commit = true; committed = true })
  committed_kept endpoint d is = record { base = is.base; size = is.size; ways = is.ways; gran = is.gran; tail = is.tail; skip = is.skip }

  grown_block : (n : ℕ) (row : HasRow lower s request w base fits n) → IsBlock (block_with_row (stated_row s request w base n) row.own.block)
  grown_block n row =
      let own = row.own in
      let count : ℕ = committed_count (decoders_at s n) in
      let kept : IsDecoder own.block.endpoint (new_at n) =
      committed_kept own.block.endpoint (stated_decoder s request w base n)
      (subst (λ (b : Bool). IsDecoder b (stated_decoder s request w base n)) own.endpoint (kept_decoder lower spans s request w base fits n row.used own)) in
      record {
        cap = own.is.cap;
        enabled = λ port. refl;
        count = length-set own.block.decoders count (new_at n) ∙ own.is.count;
        each = All-set (IsDecoder own.block.endpoint) own.block.decoders count (new_at n) kept own.is.each;
      }

  block_is : (n : ℕ) (b : Registers) → slice_get (after lower s request w base fits).blocks n ≡ Some b → IsBlock b
  block_is n b at =
      elim (block_cases n b at) [
        | inl new ↦ subst IsBlock new.1 (grown_block n new.0)
        | inr old ↦ All-at IsBlock s.blocks n b old fits.system.blocks
      ]

  pub system_kept : IsSystem (after lower s request w base fits)
  system_kept = record {
    tree = fits.system.tree;
    blocks = λ k d within. block_is k (get_or (after lower s request w base fits).blocks k d) (slice_get-get_or (after lower s request w base fits).blocks k d within);
    caps = record {
      count = length-fold (stated_rows s request w base) s.blocks ∙ fits.system.caps.count;
      each = λ n b node at named.
          elim (block_cases n b at) [
            | inl new ↦
                let was = fits.system.caps.each n new.0.own.block node new.0.own.here named in
                record { cap = ap (λ (x : Registers). x.cap) (sym new.1) ∙ was.cap; endpoint = ap (λ (x : Registers). x.endpoint) (sym new.1) ∙ was.endpoint }
            | inr old ↦ fits.system.caps.each n b node old named
          ];
    };
    made = fits.system.made;
  }
