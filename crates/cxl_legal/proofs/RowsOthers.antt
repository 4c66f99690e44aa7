-- With the stated rows committed the decoders of every other range are as they were, and where the new range lies.
use Rattle.std.proofs.Common.{◌≡◌, ◌≢◌, ℕ, ◌-◌, ◌*◌, ◌/◌, ◌%◌, ◌<◌, ◌≤◌, Bool, true, false, not, if◌then◌else◌, List, [], ◌∷◌, Option, Some, None, refl, sym, ap, ◌∙◌, subst, inl, inr, arith}
use Rattle.std.specs.Prelude.{slice_get, Contains, find}
use Rattle.std.specs.Option.{option_map_or}
use Rattle.std.specs.List.{list_any}
use Rattle.std.proofs.Math.Nat.{le-max_left}
use Rattle.std.proofs.lemmas.Bool.{cases_Bool, cases_eq, and_from, cond-true, cond-false, or_cases, false≢true, false_from_ne_true, not_from_false}
use Rattle.std.proofs.lemmas.Option.{none-some, same_Some}
use Rattle.std.proofs.lemmas.Map.Keys.{any_passes_from_place}
use Rattle.cxl_enc.specs.declared.caps.MemKind.{MemKind}
use Rattle.cxl_enc.specs.declared.caps.MemKind.TheVariants.{Ram, Pmem}
use Rattle.cxl_enc.specs.Codes.{is_ways}
use Rattle.cxl_enc.specs.Limits.{unit}
use Rattle.cxl_enc.proofs.Lists.{get_same, get_other}
use Rattle.cxl_enc.proofs.Ways.{each_ways}
use Rattle.cxl_topo.specs.declared.node.Node.{Node}
use Rattle.cxl_topo.specs.Kinds.{is_endpoint}
use Rattle.cxl_topo.specs.Tree.{forwards_at, is_endpoint_at}
use Rattle.cxl_regs.specs.declared.decoder.Decoder.{Decoder}
use Rattle.cxl_regs.specs.declared.reading.Range.{Range}
use Rattle.cxl_regs.specs.Reading.{committed_count, has_range, range_of, span_length}
use Rattle.cxl_span.specs.Spans.{span_start_of}
use Rattle.cxl_span.specs.Partitions.{lies_in}
use Rattle.cxl_span.specs.Allotting.{cursor_of}
use Rattle.cxl_window.specs.Fields.{WindowFields}
use Rattle.cxl_regs.proofs.DecoderRanges.{has_parts, same_range}
use Rattle.cxl_model.specs.declared.request.Request.{Request}
use Rattle.cxl_model.specs.System.{System, decoders_at, decoder_at, ram_at, pmem_at}
use Rattle.cxl_model.specs.Changes.{HaveSameDecoders}
use Rattle.cxl_model.specs.Plans.{committed_row}
use Rattle.cxl_model.specs.Ranges.{lies_within, window_for, span_kind}
use Rattle.cxl_model.proofs.RangeRules.{block_keeps}
use Rattle.cxl_legal.specs.Used.{request_ways, is_used, used_ports}
use Rattle.cxl_legal.specs.Endpoints.{share_of}
use Rattle.cxl_legal.specs.Stated.{Fits, planned_range, has_row, targets_word, stated_start, stated_tail, stated_row}
use Rattle.cxl_legal.proofs.RowsSystems.{block_of, decoder_within}
use Rattle.cxl_legal.proofs.RowsRanges.{Lower, known_tree, window_there, lies_in_window, some_first}
use Rattle.cxl_legal.proofs.RowsUsed.{used_kind}
use Rattle.cxl_legal.proofs.RowsImages.{after, decoders_with, left_at, decoders_else}
use Rattle.cxl_legal.proofs.RowsSpans.{SpanLaw}
use Rattle.cxl_legal.proofs.RowsDecoders.{span_room}
use Rattle.cxl_legal.proofs.RowsKept.{endpoint_decoder_ways}
use Rattle.cxl_legal.proofs.RowsRules.{new_start}

-- a span lies in one kind of memory at the most
abbrev pub KindLaw : Type 0
KindLaw = (kind other : MemKind) (ram pmem start len : ℕ) → 0 < len → lies_in kind ram pmem start len ≡ true → lies_in other ram pmem start len ≡ true → kind ≡ other

kind_told : KindLaw → (kind : MemKind) (ram pmem start len : ℕ) → 0 < len → lies_in kind ram pmem start len ≡ true → (if lies_in Ram ram pmem start len then Ram else Pmem) ≡ kind
kind_told law Ram ram pmem start len some inside = cond-true (lies_in Ram ram pmem start len) Ram Pmem inside
kind_told law Pmem ram pmem start len some inside =
    elim (cases_Bool (lies_in Ram ram pmem start len)) [
      | inl both ↦ cond-true (lies_in Ram ram pmem start len) Ram Pmem both ∙ law Ram Pmem ram pmem start len some both inside
      | inr other ↦ ap (λ b. if b then Ram else Pmem) other
    ]

-- each way has some bytes
share_some : (size p : ℕ) → is_ways p ≡ true → 0 < size → size % (unit * p) ≡ 0 → 0 < size / p
share_some size p known some =
    each_ways (λ n. size % (unit * n) ≡ 0 → 0 < size / n) p known
    (λ e. omega arith) (λ e. omega arith) (λ e. omega arith) (λ e. omega arith) (λ e. omega arith) (λ e. omega arith) (λ e. omega arith) (λ e. omega arith)

pub found_some : {X : Type 0} (p : X → Bool) (xs : List X) → list_any p xs ≡ true → find p xs ≡ None → ⊥
found_some p [] any none = false≢true any
found_some p (x ∷ xs) any none =
    elim (or_cases (p x) (list_any p xs) any) [
      | inl here ↦ none-some x (sym none ∙ cond-true (p x) (Some x) (find p xs) here)
      | inr later ↦ elim (cases_Bool (p x)) [
        | inl here ↦ none-some x (sym none ∙ cond-true (p x) (Some x) (find p xs) here)
        | inr other ↦ found_some p xs later (sym (cond-false (p x) (Some x) (find p xs) other) ∙ none)
      ]
    ]

module _ (lower : Lower) (s : System) (request : Request) (w : WindowFields) (base : ℕ) (fits : Fits s request w base) where
  abbrev t : System
  t = after lower s request w base fits

  -- a committed decoder of the image stands below the place of a row
  committed_below : (n i : ℕ) (d : Decoder) → decoder_at s n i ≡ Some d → d.committed ≡ true → i < committed_count (decoders_at s n)
  committed_below n i d there set =
      let own = block_of s n fits.system (decoder_within s n i d fits.system there) in
      let keeps = block_keeps s (λ rule m j low. fits.accepted.each rule m j) n own.block own.here in
      let mine : slice_get own.block.decoders i ≡ Some d = sym (ap (λ (ds : List Decoder). slice_get ds i) own.decoders) ∙ there in
      subst (λ (ds : List Decoder). i < committed_count ds) (sym own.decoders) ((lower.counted own.block (ram_at s n) (pmem_at s n) i d keeps mine).0 set)

  -- the decoders below the place of a row are as they were
  same_below : (n j : ℕ) → j < committed_count (decoders_at s n) → decoder_at t n j ≡ decoder_at s n j
  same_below n j low =
      elim (cases_Bool (has_row s request n)) [
        | inl has ↦
            ap (λ (ds : List Decoder). slice_get ds j) (decoders_with lower s request w base fits n has)
            ∙ get_other (decoders_at s n) (committed_count (decoders_at s n)) j (committed_row (stated_row s request w base n)) (λ e. omega (arith, e))
        | inr none ↦ ap (λ (ds : List Decoder). slice_get ds j) (decoders_else lower s request w base fits n none)
      ]

  -- a decoder of another range is one of the image
  was_there : (r : Range) → r ≢ planned_range request base → (n i : ℕ) (d : Decoder) → decoder_at t n i ≡ Some d → has_range r d ≡ true → decoder_at s n i ≡ Some d
  was_there r other n i d at has =
      elim (cases_Bool (has_row s request n)) [
        | inl with ↦ elim (cases_eq i (committed_count (decoders_at s n))) [
          | inl place ↦
              let new : decoder_at t n i ≡ Some (committed_row (stated_row s request w base n)) =
              ap (decoder_at t n) place ∙ ap (λ (ds : List Decoder). slice_get ds (committed_count (decoders_at s n))) (decoders_with lower s request w base fits n with)
              ∙ get_same (decoders_at s n) (committed_count (decoders_at s n)) (committed_row (stated_row s request w base n)) (left_at lower s request w base fits n with) in
              let same : d ≡ committed_row (stated_row s request w base n) = same_Some d (committed_row (stated_row s request w base n)) (sym at ∙ new) in
              absurd (other (sym (same_range r d (has_parts r d has)) ∙ ap range_of same))
          | inr apart ↦
              sym (ap (λ (ds : List Decoder). slice_get ds i) (decoders_with lower s request w base fits n with)
              ∙ get_other (decoders_at s n) (committed_count (decoders_at s n)) i (committed_row (stated_row s request w base n)) apart) ∙ at
        ]
        | inr none ↦ sym (ap (λ (ds : List Decoder). slice_get ds i) (decoders_else lower s request w base fits n none)) ∙ at
      ]

  pub same_decoders : (r : Range) → r ≢ planned_range request base → HaveSameDecoders s (after lower s request w base fits) r
  same_decoders r other = record {
    nodes = refl;
    windows = refl;
    there = λ n i j d at has low.
        let below = committed_below n i d at (has_parts r d has).committed in
        same_below n j (omega arith);
    back = λ n i j d at has low.
        let below = committed_below n i d (was_there r other n i d at has) (has_parts r d has).committed in
        sym (same_below n j (omega arith));
  }

  -- ---- the window

  pub in_window : window_for (after lower s request w base fits) (planned_range request base) ≡ Some w
  in_window = go (window_for s (planned_range request base)) refl
    where
      any : list_any (lies_within (planned_range request base)) s.windows ≡ true
      any = any_passes_from_place (lies_within (planned_range request base)) s.windows w.index w fits.window.there (lies_in_window lower s request w base fits)

      go : (o : Option WindowFields) → window_for s (planned_range request base) ≡ o → o ≡ Some w
      go None none = absurd (found_some (lies_within (planned_range request base)) s.windows any none)
      go (Some v) is =
          let first = some_first (lies_within (planned_range request base)) s.windows v is in
          ap (λ (x : WindowFields). Some x) (lower.window s (planned_range request base) v w fits.system.made fits.endpoints.size.some first.0 (window_there lower s request w base fits) first.1 (lies_in_window lower s request w base fits))

  -- ---- spans

  -- an endpoint does not forward, so a used one has a row
  endpoint_row : (m : ℕ) → is_endpoint_at s.nodes m ≡ true → is_used s request m ≡ true → has_row s request m ≡ true
  endpoint_row m endpoint used =
      and_from (is_used s request m) (not (forwards_at s.nodes m)) used (not_from_false (forwards_at s.nodes m) (false_from_ne_true (forwards_at s.nodes m) (λ forwards. go (slice_get s.nodes m) refl forwards endpoint)))
    where
      go : (o : Option Node) → slice_get s.nodes m ≡ o → option_map_or (λ (node : Node). node.forwards) o false ≡ true → option_map_or (λ (node : Node). is_endpoint node.kind) o false ≡ true → ⊥
      go None at forwards is = false≢true is
      go (Some node) at forwards is = false≢true (sym (fits.system.tree.placeholders m node at forwards).1 ∙ is)

  pub new_starts : (m : ℕ) → is_endpoint_at s.nodes m ≡ true → is_used s request m ≡ true → span_start_of (decoders_at (after lower s request w base fits) m) (committed_count (decoders_at s m)) ≡ stated_start s request m
  new_starts m endpoint used =
      let has = endpoint_row m endpoint used in
      let tail : stated_tail s request m ≡ stated_start s request m - cursor_of (decoders_at s m) =
      cond-true (is_endpoint_at s.nodes m) (stated_start s request m - cursor_of (decoders_at s m)) (targets_word (used_ports s request m)) endpoint in
      let least : cursor_of (decoders_at s m) ≤ stated_start s request m = le-max_left (cursor_of (decoders_at s m)) _ in
      ap (λ (ds : List Decoder). span_start_of ds (committed_count (decoders_at s m))) (decoders_with lower s request w base fits m has)
      ∙ new_start (decoders_at s m) (committed_row (stated_row s request w base m)) (left_at lower s request w base fits m has)
      ∙ omega (arith, tail, least)

module _ (lower : Lower) (spans : SpanLaw) (law : KindLaw) (s : System) (request : Request) (w : WindowFields) (base : ℕ) (fits : Fits s request w base) where
  pub new_kinds : (m : ℕ) → is_endpoint_at s.nodes m ≡ true → is_used s request m ≡ true → span_kind (after lower s request w base fits) m (committed_count (decoders_at s m)) ≡ request.kind
  new_kinds m endpoint used =
      let has = endpoint_row lower s request w base fits m endpoint used in
      let new : Decoder = committed_row (stated_row s request w base m) in
      let there : Contains request.endpoints m = elim (used_kind s request m (known_tree lower s request w base fits) fits.named used) [ inl is ↦ is.0 | inr port ↦ absurd (false≢true (sym port.1 ∙ endpoint)) ] in
      let room = span_room lower spans s request w base fits m there in
      let at : decoder_at (after lower s request w base fits) m (committed_count (decoders_at s m)) ≡ Some new =
      ap (λ (ds : List Decoder). slice_get ds (committed_count (decoders_at s m))) (decoders_with lower s request w base fits m has)
      ∙ get_same (decoders_at s m) (committed_count (decoders_at s m)) new (left_at lower s request w base fits m has) in
      let long : span_length new ≡ share_of request = ap (λ (p : ℕ). request.size / p) (endpoint_decoder_ways lower spans s request w base fits m used endpoint) in
      ap (λ (start : ℕ). if lies_in Ram (ram_at s m) (pmem_at s m) start (option_map_or span_length (decoder_at (after lower s request w base fits) m (committed_count (decoders_at s m))) 0) then Ram else Pmem) (new_starts lower s request w base fits m endpoint used)
      ∙ ap (λ (o : Option Decoder). if lies_in Ram (ram_at s m) (pmem_at s m) (stated_start s request m) (option_map_or span_length o 0) then Ram else Pmem) at
      ∙ ap (λ (len : ℕ). if lies_in Ram (ram_at s m) (pmem_at s m) (stated_start s request m) len then Ram else Pmem) long
      ∙ kind_told law request.kind (ram_at s m) (pmem_at s m) (stated_start s request m) (share_of request)
      (share_some request.size (request_ways request) fits.endpoints.ways fits.endpoints.size.some fits.endpoints.size.even) room.inside
