-- The refusal of a span, as it is computed and as it is told.
use Rattle.std.proofs.Common.{◌≡◌, ℕ, ◌+◌, ◌-◌, ◌≤◌, Bool, true, false, ◌&&◌, List, Option, Some, None, max, refl, sym, ap, subst, ◌∙◌, inl, inr, arith}
use Rattle.std.specs.Prelude.{nat_lt, nat_le, Err, if◌then◌else◌}
use Rattle.std.specs.Bool.{then_some}
use Rattle.std.proofs.lemmas.Bool.{cases_Bool, and_parts, and_from, le-leb, leb-true, lt-ltb, le-ltb, ltb-true, ltb-false, false≢true}
use Rattle.std.proofs.lemmas.Option.{none-some, same_Some}
use Rattle.cxl_enc.specs.declared.caps.MemKind.{MemKind}
use Rattle.cxl_enc.specs.declared.caps.MemKind.TheVariants.{Ram, Pmem}
use Rattle.cxl_regs.specs.declared.decoder.Decoder.{Decoder}
use Rattle.cxl_span.specs.declared.allotting.Room.{Room}
use Rattle.cxl_span.specs.declared.allotting.Span.{Span}
use Rattle.cxl_span.specs.declared.allotting.SpanFault.{SpanFault}
use Rattle.cxl_span.specs.declared.allotting.SpanFault.TheVariants.{NoDecoder, PastRam, NoRoom}
use Rattle.cxl_span.specs.Allotting.{all_committed, cursor_of, Allots, IsLeastSpan, CanStart}
use Rattle.cxl_span.specs.Partitions.{partition_start, partition_end}
use Rattle.cxl_model.specs.Ranges.{same_kind}
use Rattle.cxl_plan.proofs.FirstThere.{some_then, none_then}

module _ (decoders : List Decoder) (ram pmem : ℕ) (kind : MemKind) (len : ℕ) where
  abbrev pub left_room : Room
  left_room = record { start = max (cursor_of decoders) (partition_start kind ram); limit = partition_end kind ram pmem }

  abbrev pub is_past : Bool
  is_past = same_kind kind Ram && nat_lt ram (cursor_of decoders)

  abbrev pub is_short : Bool
  is_short = nat_lt left_room.limit (left_room.start + len)

  abbrev pub refusal : Option SpanFault
  refusal = if is_past then Some (PastRam (cursor_of decoders)) else then_some is_short (NoRoom left_room)

  refusal_past : is_past ≡ true → refusal ≡ Some (PastRam (cursor_of decoders))
  refusal_past past = rw past refl

  refusal_short : is_past ≡ false → is_short ≡ true → refusal ≡ Some (NoRoom left_room)
  refusal_short before short = rw before (some_then is_short (NoRoom left_room) short)

  refusal_none : is_past ≡ false → is_short ≡ false → refusal ≡ None
  refusal_none before fits = rw before (none_then is_short (NoRoom left_room) fits)

-- past the ram, where ram is asked for
is_ram : (kind : MemKind) → same_kind kind Ram ≡ true → kind ≡ Ram
is_ram Ram is = refl
is_ram Pmem is = absurd (false≢true is)

not_past : (decoders : List Decoder) (ram pmem : ℕ) (kind : MemKind) (len : ℕ) → (kind ≡ Ram → cursor_of decoders ≤ ram) → is_past decoders ram pmem kind len ≡ false
not_past decoders ram pmem Ram len before = le-ltb ram (cursor_of decoders) (before refl)
not_past decoders ram pmem Pmem len before = refl

before_end : (decoders : List Decoder) (ram pmem : ℕ) (kind : MemKind) (len : ℕ) → is_past decoders ram pmem kind len ≡ false → kind ≡ Ram → cursor_of decoders ≤ ram
before_end decoders ram pmem Ram len before is = ltb-false ram (cursor_of decoders) before
before_end decoders ram pmem Pmem len before is = absurd (false≢true (ap (λ (k : MemKind). same_kind k Ram) is))

-- where nothing is refused there is room
pub room_where : (decoders : List Decoder) (ram pmem : ℕ) (kind : MemKind) (len : ℕ) → all_committed decoders ≡ false → refusal decoders ram pmem kind len ≡ None
    → (span : Span) × IsLeastSpan decoders ram pmem kind len span
room_where decoders ram pmem kind len left none =
    elim (cases_Bool (is_past decoders ram pmem kind len)) [
      | inl past ↦ absurd (none-some (PastRam (cursor_of decoders)) (sym none ∙ refusal_past decoders ram pmem kind len past))
      | inr before ↦ elim (cases_Bool (is_short decoders ram pmem kind len)) [
        | inl short ↦ absurd (none-some (NoRoom (left_room decoders ram pmem kind len)) (sym none ∙ refusal_short decoders ram pmem kind len before short))
        | inr fits ↦ roomy fits
      ]
    ]
  where
    start : ℕ
    start = max (cursor_of decoders) (partition_start kind ram)

    roomy : is_short decoders ram pmem kind len ≡ false → (span : Span) × IsLeastSpan decoders ram pmem kind len span
    roomy fits =
        let low : start + len ≤ partition_end kind ram pmem = ltb-false (partition_end kind ram pmem) (start + len) fits in (
          record { start = start; skip = start - cursor_of decoders; len = len },
          record {
            left = left;
            can_start = record {
              after = omega arith;
              inside = and_from (nat_le (partition_start kind ram) start) (nat_le (start + len) (partition_end kind ram pmem))
                  (le-leb (partition_start kind ram) start (omega arith)) (le-leb (start + len) (partition_end kind ram pmem) low);
            };
            least = λ other can. least other can;
            skip = omega arith;
            length = refl;
          },
        )
      where
        least : (other : ℕ) → CanStart decoders ram pmem kind len other → start ≤ other
        least other can =
            let parts = and_parts (nat_le (partition_start kind ram) other) (nat_le (other + len) (partition_end kind ram pmem)) can.inside in
            let from = leb-true (partition_start kind ram) other parts.0 in
            let after = can.after in
            omega arith

-- what is refused is told so
pub told_refusal : (decoders : List Decoder) (ram pmem : ℕ) (kind : MemKind) (len : ℕ) (fault : SpanFault) → all_committed decoders ≡ false → refusal decoders ram pmem kind len ≡ Some fault
    → Allots decoders ram pmem kind len (Err fault)
told_refusal decoders ram pmem kind len fault left some =
    elim (cases_Bool (is_past decoders ram pmem kind len)) [
      | inl past ↦
          let parts = and_parts (same_kind kind Ram) (nat_lt ram (cursor_of decoders)) past in
          subst (λ (f : SpanFault). Allots decoders ram pmem kind len (Err f)) (same_Some (PastRam (cursor_of decoders)) fault (sym (refusal_past decoders ram pmem kind len past) ∙ some))
          record { left = left; of_ram = is_ram kind parts.0; past = ltb-true ram (cursor_of decoders) parts.1; told = refl }
      | inr before ↦ elim (cases_Bool (is_short decoders ram pmem kind len)) [
        | inr fits ↦ absurd (none-some fault (sym (refusal_none decoders ram pmem kind len before fits) ∙ some))
        | inl short ↦
            subst (λ (f : SpanFault). Allots decoders ram pmem kind len (Err f)) (same_Some (NoRoom (left_room decoders ram pmem kind len)) fault (sym (refusal_short decoders ram pmem kind len before short) ∙ some))
            record {
              left = left;
              not_past = before_end decoders ram pmem kind len before;
              start = refl;
              limit = refl;
              short = ltb-true (partition_end kind ram pmem) (max (cursor_of decoders) (partition_start kind ram) + len) short;
            }
      ]
    ]

-- what is told is refused, where a decoder is left
pub refusal_told : (decoders : List Decoder) (ram pmem : ℕ) (kind : MemKind) (len : ℕ) (fault : SpanFault) → all_committed decoders ≡ false → Allots decoders ram pmem kind len (Err fault)
    → refusal decoders ram pmem kind len ≡ Some fault
refusal_told decoders ram pmem kind len NoDecoder left full = absurd (false≢true (sym left ∙ full))
refusal_told decoders ram pmem kind len (PastRam cursor) left told =
    let past : is_past decoders ram pmem kind len ≡ true = and_from (same_kind kind Ram) (nat_lt ram (cursor_of decoders)) (ap (λ (k : MemKind). same_kind k Ram) told.of_ram)
    (lt-ltb ram (cursor_of decoders) (let low = told.past in let same = told.told in omega arith)) in
    refusal_past decoders ram pmem kind len past ∙ ap (λ (c : ℕ). Some (PastRam c)) (sym told.told)
refusal_told decoders ram pmem kind len (NoRoom room) left told =
    let start = told.start in
    let limit = told.limit in
    let less = told.short in
    let short : is_short decoders ram pmem kind len ≡ true = lt-ltb (partition_end kind ram pmem) (max (cursor_of decoders) (partition_start kind ram) + len) (omega arith) in
    refusal_short decoders ram pmem kind len (not_past decoders ram pmem kind len told.not_past) short
    ∙ ap (λ (r : Room). Some (NoRoom r)) (ap (λ (n : ℕ). record { start = n; limit = partition_end kind ram pmem }) (sym start) ∙ ap (λ (n : ℕ). record { start = room.start; limit = n }) (sym limit))
