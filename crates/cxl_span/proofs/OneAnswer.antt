-- Just one answer is allowed.
use Rattle.std.proofs.Common.{◌≡◌, ℕ, ◌+◌, ◌-◌, ◌<◌, ◌≤◌, ◌↔◌, Bool, true, false, max, List, Result, Ok, Err, refl, sym, ap, ◌∙◌, subst, inl, inr, arith}
use Rattle.std.proofs.lemmas.Bool.{cases_lt}
use Rattle.cxl_enc.specs.declared.caps.MemKind.{MemKind}
use Rattle.cxl_enc.specs.declared.caps.MemKind.TheVariants.{Ram}
use Rattle.cxl_regs.specs.declared.decoder.Decoder.{Decoder}
use Rattle.cxl_span.specs.declared.allotting.Span.{Span}
use Rattle.cxl_span.specs.declared.allotting.Room.{Room}
use Rattle.cxl_span.specs.declared.allotting.SpanFault.{SpanFault}
use Rattle.cxl_span.specs.declared.allotting.SpanFault.TheVariants.{NoDecoder, PastRam, NoRoom}
use Rattle.cxl_span.specs.Partitions.{partition_start, partition_end}
use Rattle.cxl_span.specs.Allotting.{all_committed, cursor_of, CanStart, IsLeastSpan, IsPastRam, HasNoRoom, Allots}
use Rattle.cxl_span.proofs.SpanLaws.{lies_in_means, lies_in_from}

clash : true ≡ false → ⊥
clash e = cc

full_and_left : (decoders : List Decoder) → all_committed decoders ≡ true → all_committed decoders ≡ false → ⊥
full_and_left decoders full left = clash (sym full ∙ left)

-- where ram is asked for and the cursor stands past it, no span can start
pub none_past_ram : (decoders : List Decoder) (ram pmem : ℕ) (kind : MemKind) (len cursor : ℕ) → IsPastRam decoders ram kind cursor
    → (start : ℕ) → CanStart decoders ram pmem kind len start → ⊥
none_past_ram decoders ram pmem kind len cursor is start can =
    let means = lies_in_means kind ram pmem start len can.inside in
    let end : partition_end kind ram pmem ≡ ram = ap (λ (k : MemKind). partition_end k ram pmem) is.of_ram in
    let after = can.after in
    let told = is.told in
    let past = is.past in
    omega (arith, means.1, end, after, told, past)

-- nor where the least one would end past its partition
pub none_without_room : (decoders : List Decoder) (ram pmem : ℕ) (kind : MemKind) (len : ℕ) (room : Room) → HasNoRoom decoders ram pmem kind len room
    → (start : ℕ) → CanStart decoders ram pmem kind len start → ⊥
none_without_room decoders ram pmem kind len room is start can =
    let means = lies_in_means kind ram pmem start len can.inside in
    let after = can.after in
    let from = is.start in
    let limit = is.limit in
    let short = is.short in
    omega (arith, means.0, means.1, after, from, limit, short)

same_spans : (decoders : List Decoder) (ram pmem : ℕ) (kind : MemKind) (len : ℕ) (s t : Span)
    → IsLeastSpan decoders ram pmem kind len s → IsLeastSpan decoders ram pmem kind len t → s ≡ t
same_spans decoders ram pmem kind len s t a b =
    let below = a.least t.start b.can_start in
    let above = b.least s.start a.can_start in
    let start : s.start ≡ t.start = omega (arith, below, above) in
    let skip_a = a.skip in
    let skip_b = b.skip in
    let skip : s.skip ≡ t.skip = omega (arith, start, skip_a, skip_b) in
    let length : s.len ≡ t.len = a.length ∙ sym b.length in
    λ i. record { skip = skip i; start = start i; len = length i }

same_rooms : (decoders : List Decoder) (ram pmem : ℕ) (kind : MemKind) (len : ℕ) (r s : Room)
    → HasNoRoom decoders ram pmem kind len r → HasNoRoom decoders ram pmem kind len s → r ≡ s
same_rooms decoders ram pmem kind len r s a b =
    let start : r.start ≡ s.start = a.start ∙ sym b.start in
    let limit : r.limit ≡ s.limit = a.limit ∙ sym b.limit in
    λ i. record { start = start i; limit = limit i }

past_and_room : (decoders : List Decoder) (ram pmem : ℕ) (kind : MemKind) (len cursor : ℕ) (room : Room)
    → IsPastRam decoders ram kind cursor → HasNoRoom decoders ram pmem kind len room → ⊥
past_and_room decoders ram pmem kind len cursor room a b =
    let fine = b.not_past a.of_ram in
    let past = a.past in
    let told = a.told in
    omega (arith, fine, past, told)

one_answer : (decoders : List Decoder) (ram pmem : ℕ) (kind : MemKind) (len : ℕ) (a b : Result Span SpanFault)
    → Allots decoders ram pmem kind len a → Allots decoders ram pmem kind len b → a ≡ b
one_answer decoders ram pmem kind len (Ok s) (Ok t) p q = ap Ok (same_spans decoders ram pmem kind len s t p q)
one_answer decoders ram pmem kind len (Ok s) (Err NoDecoder) p q = absurd (full_and_left decoders q p.left)
one_answer decoders ram pmem kind len (Ok s) (Err (PastRam n)) p q = absurd (none_past_ram decoders ram pmem kind len n q s.start p.can_start)
one_answer decoders ram pmem kind len (Ok s) (Err (NoRoom r)) p q = absurd (none_without_room decoders ram pmem kind len r q s.start p.can_start)
one_answer decoders ram pmem kind len (Err NoDecoder) (Ok t) p q = absurd (full_and_left decoders p q.left)
one_answer decoders ram pmem kind len (Err NoDecoder) (Err NoDecoder) p q = refl
one_answer decoders ram pmem kind len (Err NoDecoder) (Err (PastRam n)) p q = absurd (full_and_left decoders p q.left)
one_answer decoders ram pmem kind len (Err NoDecoder) (Err (NoRoom r)) p q = absurd (full_and_left decoders p q.left)
one_answer decoders ram pmem kind len (Err (PastRam n)) (Ok t) p q = absurd (none_past_ram decoders ram pmem kind len n p t.start q.can_start)
one_answer decoders ram pmem kind len (Err (PastRam n)) (Err NoDecoder) p q = absurd (full_and_left decoders q p.left)
one_answer decoders ram pmem kind len (Err (PastRam n)) (Err (PastRam m)) p q = ap (λ (k : ℕ). Err (PastRam k)) (p.told ∙ sym q.told)
one_answer decoders ram pmem kind len (Err (PastRam n)) (Err (NoRoom r)) p q = absurd (past_and_room decoders ram pmem kind len n r p q)
one_answer decoders ram pmem kind len (Err (NoRoom r)) (Ok t) p q = absurd (none_without_room decoders ram pmem kind len r p t.start q.can_start)
one_answer decoders ram pmem kind len (Err (NoRoom r)) (Err NoDecoder) p q = absurd (full_and_left decoders q p.left)
one_answer decoders ram pmem kind len (Err (NoRoom r)) (Err (PastRam n)) p q = absurd (past_and_room decoders ram pmem kind len n r q p)
one_answer decoders ram pmem kind len (Err (NoRoom r)) (Err (NoRoom s)) p q = ap (λ (k : Room). Err (NoRoom k)) (same_rooms decoders ram pmem kind len r s p q)

-- an answer that is allowed is the one that is
pub exactly : (decoders : List Decoder) (ram pmem : ℕ) (kind : MemKind) (len : ℕ) (a : Result Span SpanFault) → Allots decoders ram pmem kind len a
    → (b : Result Span SpanFault) → (a ≡ b) ↔ Allots decoders ram pmem kind len b
exactly decoders ram pmem kind len a allowed b =
    ((λ e. subst (Allots decoders ram pmem kind len) e allowed), (λ other. one_answer decoders ram pmem kind len a b allowed other))

-- the least start is the cursor, or where the partition begins
pub least_is_max : (decoders : List Decoder) (ram pmem : ℕ) (kind : MemKind) (len cursor start : ℕ) → all_committed decoders ≡ false → cursor ≡ cursor_of decoders
    → start ≡ max cursor (partition_start kind ram) → start + len ≤ partition_end kind ram pmem
    → IsLeastSpan decoders ram pmem kind len record { skip = start - cursor; start = start; len = len }
least_is_max decoders ram pmem kind len cursor start left at least fits =
    record {
      left = left;
      can_start = record { after = omega arith; inside = lies_in_from kind ram pmem start len (omega arith) fits };
      least = λ other can. (
          let means = lies_in_means kind ram pmem other len can.inside in
          let after = can.after in
          omega (arith, means.0, after));
      skip = omega arith;
      length = refl;
    }

pub not_past_from : (decoders : List Decoder) (kind : MemKind) (ram cursor : ℕ) (told : Bool) → cursor ≡ cursor_of decoders
    → (told ≡ true) ↔ ((kind ≡ Ram) × (ram < cursor)) → told ≡ false → kind ≡ Ram → cursor_of decoders ≤ ram
not_past_from decoders kind ram cursor told at tells not_told of_ram =
    elim (cases_lt ram cursor) [
      | inl past ↦ absurd (clash (sym (tells.1 (of_ram, past)) ∙ not_told))
      | inr fine ↦ omega (arith, at, fine)
    ]
