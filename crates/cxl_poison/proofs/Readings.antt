-- Bytes are one poison list or have one fault, and never both.
use Rattle.std.proofs.Common.{Bool, ◌≡◌, ℕ, ◌+◌, ◌*◌, List, length, Option, Some, None, Result, Ok, Err, IfOk, IfErr, refl, sym, ap, ◌∙◌, inl, inr, ◌⊎◌, arith}
use Rattle.std.proofs.lemmas.Bool.{cases_lt}
use Rattle.std.specs.Prelude.{if◌then◌else◌}
use Rattle.cxl_model.specs.declared.poison.Entry.{Entry}
use Rattle.cxl_model.specs.declared.poison.PoisonList.{PoisonList}
use Rattle.cxl_poison.specs.declared.fault.PoisonFault.{PoisonFault}
use Rattle.cxl_poison.specs.declared.fault.PoisonFault.TheVariants.{Short, Count, Memory}
use Rattle.cxl_poison.specs.declared.fault.Said.{Said}
use Rattle.cxl_poison.specs.Payload.{payload_head, record_size, has_flag, timestamp_said, records_said, record_room, entries_from, IsPoisonPayload, LacksRecords, IsPoisonFault, IsPoisonFaultOf, IsPoisonAnswer, HasList, HasPoisonFault}

made : Bool → Option ℕ → Bool → List Entry → PoisonList
made more overflow scanning records = record { more = more; overflow = overflow; scanning = scanning; records = records }

pub one_list : (bytes : List ℕ) (list other : PoisonList) → IsPoisonPayload bytes list → IsPoisonPayload bytes other → list ≡ other
unfolding made
one_list bytes list other h k =
    ap (λ (more : Bool). made more list.overflow list.scanning list.records) (h.more ∙ sym k.more)
    ∙ ap (λ (overflow : Option ℕ). made other.more overflow list.scanning list.records) (h.overflow ∙ sym k.overflow)
    ∙ ap (λ (scanning : Bool). made other.more other.overflow scanning list.records) (h.scanning ∙ sym k.scanning)
    ∙ ap (made other.more other.overflow other.scanning) (h.records ∙ sym k.records)

counted : ℕ → ℕ → Said
counted said room = record { said = said; room = room }

one_said : (bytes : List ℕ) (said other : Said) → LacksRecords bytes said → LacksRecords bytes other → said ≡ other
unfolding counted
one_said bytes said other h k =
    ap (λ (n : ℕ). counted n said.room) (h.counted ∙ sym k.counted) ∙ ap (counted other.said) (h.roomy ∙ sym k.roomy)

pub one_fault : (bytes : List ℕ) (fault other : PoisonFault) → IsPoisonFault bytes fault → IsPoisonFault bytes other → fault ≡ other
one_fault bytes Memory other h k = absurd h
one_fault bytes Short Memory h k = absurd k
one_fault bytes Short Short h k = refl
one_fault bytes Short (Count said) h k = absurd (omega (arith, h, k.head))
one_fault bytes (Count said) Memory h k = absurd k
one_fault bytes (Count said) Short h k = absurd (omega (arith, k, h.head))
one_fault bytes (Count said) (Count other) h k = ap Count (one_said bytes said other h k)

pub not_both : (bytes : List ℕ) (list : PoisonList) (fault : PoisonFault) → IsPoisonPayload bytes list → IsPoisonFault bytes fault → ⊥
not_both bytes list Memory h k = k
not_both bytes list Short h k = omega (arith, h.head, k)
not_both bytes list (Count said) h k = omega (arith, h.room, k.short)

pub some_reading : (bytes : List ℕ) → HasList bytes ⊎ HasPoisonFault bytes
some_reading bytes = elim (cases_lt (length bytes) payload_head) [
  | inl short ↦ inr (Short, short)
  | inr head ↦ elim (cases_lt (length bytes) (payload_head + record_size * records_said bytes)) [
    | inl short ↦ inr (Count (record { said = records_said bytes; room = record_room bytes }), record { head = head; short = short; counted = refl; roomy = refl })
    | inr room ↦ inl (
      record {
        more = has_flag bytes 0;
        overflow = if has_flag bytes 1 then Some (timestamp_said bytes) else None;
        scanning = has_flag bytes 2;
        records = entries_from bytes (records_said bytes);
      },
      record { head = head; room = room; more = refl; overflow = refl; scanning = refl; records = refl },
    )
  ]
]

-- ---- answers

pub only_list : (bytes : List ℕ) (result : Result PoisonList PoisonFault) → IfOk result (λ list. IsPoisonPayload bytes list) → IfErr result (λ fault. IsPoisonFaultOf bytes fault)
    → (list : PoisonList) → IsPoisonPayload bytes list → IsPoisonAnswer result (Ok list)
only_list bytes (Ok read) is none list h = inl (ap Ok (one_list bytes read list is h))
only_list bytes (Err fault) none is list h = elim is [
  | inl memory ↦ inr (ap Err memory)
  | inr first ↦ absurd (not_both bytes list fault h first)
]

pub only_fault : (bytes : List ℕ) (result : Result PoisonList PoisonFault) → IfOk result (λ list. IsPoisonPayload bytes list) → IfErr result (λ fault. IsPoisonFaultOf bytes fault)
    → (fault : PoisonFault) → IsPoisonFault bytes fault → IsPoisonAnswer result (Err fault)
only_fault bytes (Ok read) is none fault h = absurd (not_both bytes read fault is h)
only_fault bytes (Err found) none is fault h = elim is [
  | inl memory ↦ inr (ap Err memory)
  | inr first ↦ inl (ap Err (one_fault bytes found fault first h))
]
