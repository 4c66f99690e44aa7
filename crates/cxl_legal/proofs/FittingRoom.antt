-- The room that a legal plan shows in its nodes.
use Rattle.std.proofs.Common.{◌≡◌, ℕ, zero, suc, ◌+◌, ◌-◌, ◌<◌, ◌≤◌, Bool, true, false, not, if◌then◌else◌, List, [], length, get_or, set, take, Option, Some, refl, sym, ap, ◌∙◌, inl, inr, arith}
use Rattle.std.specs.Prelude.{slice_get, ◌==◌, nat_le, nat_lt, max, sum_by, position}
use Rattle.std.specs.Option.{option_map_or}
use Rattle.std.specs.List.{prefix_len, position_or_len}
use Rattle.std.proofs.lemmas.Bool.{cases_Bool, and_parts, and_from, and_left, and_right, ne_eqb, leb-true, le-leb, false_from_ne_true, false≢true, not-true, not_from_false}
use Rattle.std.proofs.lemmas.Option.{cond_some, slice_get-get_or, slice_get_within, get_or_from_slice_get}
use Rattle.std.proofs.lemmas.List.{take-set}
use Rattle.std.proofs.lemmas.List.Folds.{list_all_at}
use Rattle.std.proofs.lemmas.List.Sums.{sum_by_more}
use Rattle.std.proofs.lemmas.List.Quantifiers.{position-Some}
use Rattle.cxl_enc.specs.declared.caps.MemKind.{MemKind}
use Rattle.cxl_enc.specs.Caps.{decoders_of, decoders_code}
use Rattle.cxl_enc.specs.Limits.{placeholder_cap}
use Rattle.cxl_enc.proofs.Lists.{All-at}
use Rattle.cxl_topo.specs.Tree.{forwards_at}
use Rattle.cxl_regs.specs.declared.decoder.Decoder.{Decoder}
use Rattle.cxl_regs.specs.declared.reading.Range.{Range}
use Rattle.cxl_regs.specs.Registers.{Registers, IsBlock, reset_decoder, reset_block}
use Rattle.cxl_regs.specs.Reading.{committed_count, span_length, range_of}
use Rattle.cxl_span.specs.declared.allotting.Span.{Span}
use Rattle.cxl_span.specs.Allotting.{all_committed, cursor_of, IsLeastSpan}
use Rattle.cxl_span.specs.Partitions.{partition_start, partition_end, lies_in}
use Rattle.cxl_span.specs.Spans.{span_step, span_start_of, span_end_of}
use Rattle.cxl_window.specs.Fields.{WindowFields}
use Rattle.cxl_topo.proofs.Trees.{KnownTree}
use Rattle.cxl_model.specs.declared.plan.Row.{Row}
use Rattle.cxl_model.specs.declared.request.Request.{Request}
use Rattle.cxl_model.specs.System.{System, IsSystem, decoders_at, decoder_at}
use Rattle.cxl_model.specs.Rules.{keeps_reach}
use Rattle.cxl_model.specs.Accepted.{IsAccepted}
use Rattle.cxl_model.specs.Plans.{with_rows}
use Rattle.cxl_model.proofs.RangeRules.{kept, rule_eleven, is_reached}
use Rattle.cxl_model.proofs.RangeCounts.{lands_within}
use Rattle.cxl_legal.specs.Used.{is_used}
use Rattle.cxl_legal.specs.Endpoints.{lacks_decoder}
use Rattle.cxl_legal.proofs.FittingBlocks.{of_node}
use Rattle.cxl_legal.proofs.FittingRows.{ByRow, by_row}
use Rattle.cxl_legal.proofs.FittingUsed.{Planned, used_lands}
use Rattle.cxl_legal.proofs.FittingPorts.{placeholder}

-- ---- the first decoder that is not committed

twice : (a : Bool) → not (not a) ≡ a
twice true = refl
twice false = refl

-- stands behind those that are
pub first_is_count : (ds : List Decoder) (i : ℕ) → position (λ d. not d.committed) ds ≡ Some i → i ≡ committed_count ds
first_is_count ds i is =
    let own : position_or_len (λ (d : Decoder). not d.committed) ds ≡ i =
    (cond_some (nat_lt (position_or_len (λ (d : Decoder). not d.committed) ds) (length ds)) (position_or_len (λ (d : Decoder). not d.committed) ds) i is).1 in
    sym own ∙ (λ k. prefix_len (λ d. twice d.committed k) ds)

pub some_left : (ds : List Decoder) (i : ℕ) (d : Decoder) → slice_get ds i ≡ Some d → d.committed ≡ false → all_committed ds ≡ false
some_left ds i d at free =
    list_all_at (λ (e : Decoder). e.committed) ds i d (slice_get_within ds i d at) (ap (λ (e : Decoder). e.committed) (get_or_from_slice_get ds i d d at) ∙ free)

-- a node that forwards commits none, in an accepted image
pub forwarding_free : (s : System) (n i : ℕ) (d : Decoder) → IsAccepted s → forwards_at s.nodes n ≡ true → decoder_at s n i ≡ Some d → d.committed ≡ false
forwarding_free s n i d accepted forwards there =
    false_from_ne_true d.committed (λ committed.
    let keeps : keeps_reach s n d ≡ true = kept s n i d (keeps_reach s n) there committed (sym (rule_eleven s n i) ∙ accepted.each 11 n i) in
    let parts = and_parts (not (forwards_at s.nodes n)) (is_reached s (range_of d) n) keeps in
    false≢true (sym (not-true (forwards_at s.nodes n) parts.0) ∙ forwards))

-- and has one decoder
pub record OneDecoder (s : System) (n : ℕ) : Type 0 where
  pub d : Decoder
  pub there : decoder_at s n 0 ≡ Some d

pub forwarding_one : (s : System) (n : ℕ) → IsSystem s → KnownTree s.nodes → n < length s.nodes → forwards_at s.nodes n ≡ true → OneDecoder s n
forwarding_one s n system known within forwards =
    let count : length s.blocks ≡ length s.nodes = system.caps.count in
    let inside : n < length s.blocks = omega (arith, count, within) in
    let block : Registers = get_or s.blocks n (reset_block 0 false) in
    let here : slice_get s.blocks n ≡ Some block = slice_get-get_or s.blocks n (reset_block 0 false) inside in
    let own : IsBlock block = All-at IsBlock s.blocks n block here system.blocks in
    let cap : block.cap ≡ placeholder_cap = (of_node s n block system here).cap ∙ placeholder known n forwards in
    let one : length block.decoders ≡ 1 = own.count ∙ ap (λ (c : ℕ). decoders_of (decoders_code c)) cap in
    record {
      d = get_or block.decoders 0 reset_decoder;
      there = ap (λ (o : Option Registers). slice_get (option_map_or (λ b. b.decoders) o []) 0) here ∙ slice_get-get_or block.decoders 0 reset_decoder (omega (arith, one));
    }

-- ---- a decoder is left

-- the row of a used node that does not forward
pub own_row : {s : System} {request : Request} {w : WindowFields} {r : Range} {rows : List Row} → Planned s request w r rows → (n : ℕ) → is_used s request n ≡ true → forwards_at s.nodes n ≡ false
    → ByRow s request r rows n
own_row {s} {request} {w} {r} {rows} plan n used own =
    by_row s request r rows plan.rowed n (and_from (is_used s request n) (not (forwards_at s.nodes n)) used (not_from_false (forwards_at s.nodes n) own))

-- its decoder is the first that is not committed
pub row_first : {s : System} {request : Request} {r : Range} {rows : List Row} {n : ℕ} → (at : ByRow s request r rows n) → position (λ d. not d.committed) (decoders_at s n) ≡ Some at.row.index
row_first {s} at = ap (λ (m : ℕ). position (λ d. not d.committed) (decoders_at s m)) (sym at.node) ∙ at.is.first

pub used_within : {s : System} {request : Request} {w : WindowFields} {r : Range} {rows : List Row} → Planned s request w r rows → (n : ℕ) → is_used s request n ≡ true → n < length s.nodes
used_within {s} {request} {w} {r} {rows} plan n used = lands_within (with_rows s rows) r n plan.system (used_lands plan n used)

pub used_left : {s : System} {request : Request} {w : WindowFields} {r : Range} {rows : List Row} → Planned s request w r rows → IsAccepted s → (n : ℕ) → is_used s request n ≡ true
    → all_committed (decoders_at s n) ≡ false
used_left {s} {request} {w} {r} {rows} plan accepted n used =
    elim (cases_Bool (forwards_at s.nodes n)) [
      | inl forwards ↦
          let one = forwarding_one s n plan.rowed.system plan.known (used_within plan n used) forwards in
          some_left (decoders_at s n) 0 one.d one.there (forwarding_free s n 0 one.d accepted forwards one.there)
      | inr own ↦
          let at = own_row plan n used own in
          let first = position-Some (λ (d : Decoder). not d.committed) (decoders_at s n) at.row.index reset_decoder (row_first at) in
          list_all_at (λ (e : Decoder). e.committed) (decoders_at s n) at.row.index reset_decoder first.0 (not-true (get_or (decoders_at s n) at.row.index reset_decoder).committed first.1)
    ]

pub none_lacking : {s : System} {request : Request} {w : WindowFields} {r : Range} {rows : List Row} → Planned s request w r rows → IsAccepted s → (n : ℕ) → lacks_decoder s request n ≡ false
none_lacking {s} {request} plan accepted n =
    elim (cases_Bool (is_used s request n)) [
      | inl used ↦ and_right (is_used s request n) (all_committed (decoders_at s n)) (used_left plan accepted n used)
      | inr unused ↦ and_left (is_used s request n) (all_committed (decoders_at s n)) unused
    ]

-- ---- the span

cursor_at : (ds : List Decoder) (c : ℕ) → c ≤ length ds → (if c == 0 then 0 else span_end_of ds (c - 1)) ≡ sum_by span_step (take c ds)
cursor_at ds zero low = refl
cursor_at ds (suc k) low =
    let within : k < length ds = omega arith in
    let at : slice_get ds k ≡ Some (get_or ds k reset_decoder) = slice_get-get_or ds k reset_decoder within in
    let more : sum_by span_step (take (k + 1) ds) ≡ sum_by span_step (take k ds) + span_step (get_or ds k reset_decoder) = sum_by_more span_step ds k reset_decoder within in
    let tail : option_map_or (λ (d : Decoder). d.tail) (slice_get ds k) 0 ≡ (get_or ds k reset_decoder).tail = ap (λ (o : Option Decoder). option_map_or (λ d. d.tail) o 0) at in
    let long : option_map_or span_length (slice_get ds k) 0 ≡ span_length (get_or ds k reset_decoder) = ap (λ (o : Option Decoder). option_map_or span_length o 0) at in
    let back : span_end_of ds (suc k - 1) ≡ span_end_of ds k = ap (span_end_of ds) (pred_is k) in
    let next : sum_by span_step (take (k + 1) ds) ≡ sum_by span_step (take (suc k) ds) = ap (λ (c : ℕ). sum_by span_step (take c ds)) (suc_is k) in
    let body : span_end_of ds (suc k - 1) ≡ sum_by span_step (take (suc k) ds) = omega (arith, more, tail, long, back, next) in
    ap (λ b. if b then 0 else span_end_of ds (suc k - 1)) (ne_eqb (suc k) 0 (λ e. omega (arith, e))) ∙ body
  where
    pred_is : (k : ℕ) → suc k - 1 ≡ k
    pred_is k = omega arith

    suc_is : (k : ℕ) → k + 1 ≡ suc k
    suc_is k = omega arith

-- the span of a row's decoder starts at the cursor or past it
pub past_cursor : (ds : List Decoder) (i : ℕ) (d : Decoder) → i ≡ committed_count ds → i < length ds → cursor_of ds ≤ span_start_of (set ds i d) i
past_cursor ds i d first within =
    let cursor : cursor_of ds ≡ sum_by span_step (take i ds) = ap (λ (c : ℕ). if c == 0 then 0 else span_end_of ds (c - 1)) (sym first) ∙ cursor_at ds i (omega (arith, within)) in
    let front : sum_by span_step (take i (set ds i d)) ≡ sum_by span_step (take i ds) = ap (λ (es : List Decoder). sum_by span_step es) (take-set ds i d) in
    omega (arith, cursor, front)

-- where a span may start, there is a least one
pub least_span : (ds : List Decoder) (ram pmem : ℕ) (kind : MemKind) (len start : ℕ) → all_committed ds ≡ false → cursor_of ds ≤ start → lies_in kind ram pmem start len ≡ true
    → (span : Span) × IsLeastSpan ds ram pmem kind len span
least_span ds ram pmem kind len start left after inside =
    let parts = and_parts (nat_le (partition_start kind ram) start) (nat_le (start + len) (partition_end kind ram pmem)) inside in
    let from : partition_start kind ram ≤ start = leb-true (partition_start kind ram) start parts.0 in
    let to : start + len ≤ partition_end kind ram pmem = leb-true (start + len) (partition_end kind ram pmem) parts.1 in
    let least : ℕ = max (cursor_of ds) (partition_start kind ram) in (
      record { skip = least - cursor_of ds; start = least; len = len },
      record {
        left = left;
        can_start = record {
          after = omega arith;
          inside = and_from (nat_le (partition_start kind ram) least) (nat_le (least + len) (partition_end kind ram pmem))
              (le-leb (partition_start kind ram) least (omega arith)) (le-leb (least + len) (partition_end kind ram pmem) (omega (arith, from, to, after)));
        };
        least = λ other can. least_of other can.after can.inside;
        skip = omega arith;
        length = refl;
      },
    )
  where
    least_of : (other : ℕ) → cursor_of ds ≤ other → lies_in kind ram pmem other len ≡ true → max (cursor_of ds) (partition_start kind ram) ≤ other
    least_of other low lies =
        let begins = leb-true (partition_start kind ram) other (and_parts (nat_le (partition_start kind ram) other) (nat_le (other + len) (partition_end kind ram pmem)) lies).0 in
        omega (arith, low, begins)
