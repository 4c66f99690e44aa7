-- The bytes of a table with the spelling of each judged record in its place are its spelling.
use Rattle.std.proofs.Common.{◌≡◌, ℕ, zero, suc, ◌+◌, ◌<◌, ◌≤◌, false, List, [], ◌∷◌, ◌++◌, length, take, drop, get_or, slice_index, refl, sym, ap, subst, ◌∙◌, inl, inr, append_assoc, arith, drop-cons, length-append, length-drop, add-one}
use Rattle.std.specs.Prelude.{sum_by}
use Rattle.std.specs.List.{flat_map}
use Rattle.std.proofs.lemmas.Bool.{cases_Bool}
use Rattle.std.proofs.lemmas.List.{take_at, drop_at, length-take-le, take-append-drop}
use Rattle.std.proofs.lemmas.List.Sums.{sum_by-cons}
use Rattle.cxl_table.specs.declared.cedt.Head.{Head}
use Rattle.cxl_table.specs.declared.cedt.Record.{Record}
use Rattle.cxl_table.specs.declared.cedt.Record.TheVariants.{Chbs, Cfmws, Cxims, Other}
use Rattle.cxl_table.specs.Fields.{OtherFields}
use Rattle.cxl_table.specs.Judged.{is_judged, judged_of, judged_places}
use Rattle.cxl_cedt.specs.Reading.{table_in}
use Rattle.cxl_table.specs.Records.{record_length, table_length}
use Rattle.cxl_cedt.specs.Table.{field, some_bytes, IsOtherText, IsRecordText, AreRecordTexts}
use Rattle.cxl_cedt.specs.Spelling.{number_bytes, window_range, window_codes, record_spelling, header, spelling_with}
use Rattle.cxl_cedt.specs.inner.Kept.{IsTextOf}
use Rattle.cxl_cedt.specs.inner.KeptRecords.{KeptRecords}
use Rattle.cxl_cedt.specs.inner.Mending.{with_part, mended, FitIn}
use Rattle.cxl_cedt.specs.inner.Widths.{AreBelow, HeadFits}
use Rattle.cxl_cedt.proofs.Sound.{text_length}
use Rattle.cxl_cedt.proofs.Laws.{size_from, same_head}
use Rattle.cxl_cedt.proofs.Spelled.{length-u32s, length-u64s, length-header}

-- ---- bytes

below_front : (front rest : List ℕ) → AreBelow 256 (front ++ rest) → AreBelow 256 front
below_front [] rest h i = omega arith
below_front (x ∷ front) rest h zero = h 0
below_front (x ∷ front) rest h (suc i) = below_front front rest (λ j. h (suc j)) i

below_back : (front rest : List ℕ) → AreBelow 256 (front ++ rest) → AreBelow 256 rest
below_back [] rest h = h
below_back (x ∷ front) rest h = below_back front rest (λ j. h (suc j))

-- ---- the spelling of one record

-- it is as long as the record's text
pub length-record_spelling : (r : Record) → length (record_spelling r) ≡ record_length r
unfolding number_bytes window_range window_codes
length-record_spelling (Chbs c) = refl
length-record_spelling (Cfmws c) = let count = length-u32s c.targets in omega arith
length-record_spelling (Cxims c) = let count = length-u64s c.maps in omega arith
length-record_spelling (Other c) = omega arith

same_four : {a a' b b' x x' y y' : ℕ} {t t' : List ℕ} → a ≡ a' → b ≡ b' → x ≡ x' → y ≡ y' → t ≡ t' → ◌≡◌ {A = List ℕ} (a ∷ b ∷ x ∷ y ∷ t) (a' ∷ b' ∷ x' ∷ y' ∷ t')
same_four p q r s t = cc

other_same : (text : List ℕ) (c : OtherFields) → AreBelow 256 text → IsOtherText text c → text ≡ record_spelling (Other c)
unfolding number_bytes
other_same [] c small h = absurd (omega (arith, h.frame.length_is))
other_same (a ∷ []) c small h = absurd (omega (arith, h.frame.length_is))
other_same (a ∷ b ∷ []) c small h = absurd (omega (arith, h.frame.length_is))
other_same (a ∷ b ∷ x ∷ []) c small h = absurd (omega (arith, h.frame.length_is))
other_same (a ∷ b ∷ x ∷ y ∷ t) c small h =
    same_four (omega (arith, h.frame.kind_is)) (omega (arith, h.reserved)) (omega (arith, h.frame.length_said, small 2, small 3)) (omega (arith, h.frame.length_said, small 2, small 3)) h.body

-- a record that is not judged stands as it is spelled
spelled_already : (text : List ℕ) (r : Record) → AreBelow 256 text → IsRecordText text r → is_judged r ≡ false → text ≡ record_spelling r
spelled_already text (Chbs c) small h other = absurd (cc other)
spelled_already text (Cfmws c) small h other = absurd (cc other)
spelled_already text (Cxims c) small h other = absurd (cc other)
spelled_already text (Other c) small h other = other_same text c small h

-- ---- all records

-- a part in the place of one of its length
pub part_there : (front first next part : List ℕ) → length part ≡ length first → with_part (front ++ (first ++ next)) (length front) part ≡ (front ++ part) ++ next
part_there front first next part same =
    let back : drop (length front + length part) (front ++ (first ++ next)) ≡ next =
    ap (drop (length front + length part)) (sym (append_assoc front first next)) ∙ drop_at (front ++ first) next (length front + length part) (omega (arith, same, length-append front first)) in
    ap (λ (t : List ℕ). t ++ (part ++ drop (length front + length part) (front ++ (first ++ next)))) (take_at front (first ++ next) (length front) refl)
    ∙ ap (λ (t : List ℕ). front ++ (part ++ t)) back ∙ sym (append_assoc front part next)

pub all_mended : (front text : List ℕ) (records : List Record) (at : ℕ) → at ≡ length front → AreBelow 256 text → AreRecordTexts text records
    → mended (front ++ text) (judged_places at records) (judged_of records) ≡ front ++ flat_map record_spelling records
all_mended front text [] at at-is small none = ap (λ (t : List ℕ). front ++ t) none
all_mended front text (r ∷ records) at at-is small (first, next, whole, of_r, others) =
    let small' : AreBelow 256 (first ++ next) = subst (AreBelow 256) whole small in
    let size : length (record_spelling r) ≡ length first = length-record_spelling r ∙ sym (text_length first r of_r) in
    let after : ℕ = at + record_length r in
    let more = all_mended (front ++ record_spelling r) next records after (omega (arith, at-is, length-record_spelling r, length-append front (record_spelling r))) (below_back first next small') others in
    let all : (front ++ record_spelling r) ++ flat_map record_spelling records ≡ front ++ flat_map record_spelling (r ∷ records) = append_assoc front (record_spelling r) (flat_map record_spelling records) in
    elim (cases_Bool (is_judged r)) [
      | inl judged ↦
          let here : with_part (front ++ text) at (record_spelling r) ≡ (front ++ record_spelling r) ++ next =
          ap (λ (t : List ℕ). with_part (front ++ t) at (record_spelling r)) whole ∙ ap (λ (n : ℕ). with_part (front ++ (first ++ next)) n (record_spelling r)) at-is ∙ part_there front first next (record_spelling r) size in
          rw judged (ap (λ (t : List ℕ). mended t (judged_places after records) (judged_of records)) here ∙ more ∙ all)
      | inr other ↦
          let here : front ++ text ≡ (front ++ record_spelling r) ++ next =
          ap (λ (t : List ℕ). front ++ t) (whole ∙ ap (λ (t : List ℕ). t ++ next) (spelled_already first r (below_front first next small') of_r other)) ∙ sym (append_assoc front (record_spelling r) next) in
          rw other (ap (λ (t : List ℕ). mended t (judged_places after records) (judged_of records)) here ∙ more ∙ all)
    ]

-- each judged record ends within the bytes, and has a place
fit_more : (size at : ℕ) (r : Record) (records : List Record) → at + record_length r ≤ size → FitIn size (judged_places (at + record_length r) records) (judged_of records) → FitIn size (judged_places at (r ∷ records)) (judged_of (r ∷ records))
fit_more size at r records here others =
    elim (cases_Bool (is_judged r)) [
      | inl judged ↦ rw judged (here, others)
      | inr other ↦ rw other others
    ]

pub all_fit : (size at : ℕ) (records : List Record) → at + sum_by record_length records ≤ size → FitIn size (judged_places at records) (judged_of records)
all_fit size at [] short = tt
all_fit size at (r ∷ records) short =
    let parts = sum_by-cons record_length r records in
    fit_more size at r records (omega arith) (all_fit size (at + record_length r) records (omega arith))

pub place_each : (at : ℕ) (records : List Record) → length (judged_places at records) ≡ length (judged_of records)
place_each at [] = refl
place_each at (r ∷ records) =
    elim (cases_Bool (is_judged r)) [
      | inl judged ↦ rw judged (ap suc (place_each (at + record_length r) records))
      | inr other ↦ rw other (place_each (at + record_length r) records)
    ]

-- ---- one record after another

pub mend_next : (bytes places : List ℕ) (records : List Record) (i : ℕ) (r : Record) → i < length places → i < length records → r ≡ get_or records i r
    → mended bytes (drop i places) (drop i records) ≡ mended (with_part bytes (slice_index places i) (record_spelling r)) (drop (i + 1) places) (drop (i + 1) records)
mend_next bytes places records i r some there is =
    let p : drop i places ≡ slice_index places i ∷ drop (i + 1) places = rw add-one (drop-cons places i 0 some) in
    let q : drop i records ≡ r ∷ drop (i + 1) records = rw add-one (drop-cons records i r there ∙ ap (λ (x : Record). x ∷ drop (suc i) records) (sym is)) in
    ap (λ (ps : List ℕ). mended bytes ps (drop i records)) p ∙ ap (mended bytes (slice_index places i ∷ drop (i + 1) places)) q

pub fit_next : (size : ℕ) (places : List ℕ) (records : List Record) (i : ℕ) (r : Record) → i < length places → i < length records → r ≡ get_or records i r
    → FitIn size (drop i places) (drop i records) → (slice_index places i + record_length r ≤ size) × FitIn size (drop (i + 1) places) (drop (i + 1) records)
fit_next size places records i r some there is fit =
    let p : drop i places ≡ slice_index places i ∷ drop (i + 1) places = rw add-one (drop-cons places i 0 some) in
    let q : drop i records ≡ r ∷ drop (i + 1) records = rw add-one (drop-cons records i r there ∙ ap (λ (x : Record). x ∷ drop (suc i) records) (sym is)) in
    subst (FitIn size (slice_index places i ∷ drop (i + 1) places)) q (subst (λ (ps : List ℕ). FitIn size ps (drop i records)) p fit)

pub part_keeps : (bytes part : List ℕ) (at : ℕ) → at + length part ≤ length bytes → length (with_part bytes at part) ≡ length bytes
part_keeps bytes part at fits =
    omega (arith, length-append (take at bytes) (part ++ drop (at + length part) bytes), length-append part (drop (at + length part) bytes), length-drop (at + length part) bytes, length-take-le at bytes (omega arith))

-- ---- the whole table

below_drop : (n : ℕ) (bytes : List ℕ) → AreBelow 256 bytes → AreBelow 256 (drop n bytes)
below_drop n bytes small = below_back (take n bytes) (drop n bytes) (subst (AreBelow 256) (sym (take-append-drop n bytes)) small)

module _ (bytes : List ℕ) (kept : KeptRecords) (h : IsTextOf bytes kept) where
  pub records_each : length kept.places ≡ length kept.records
  records_each = ap length h.judged_are.places ∙ place_each 36 (table_in bytes).records ∙ sym (ap length h.judged_are.records)

  pub records_fit : FitIn (length bytes) kept.places kept.records
  records_fit =
      let size : length bytes ≡ table_length (table_in bytes).records = size_from bytes (table_in bytes).records h.spells.long h.spells.texts in
      rw (h.judged_are.places, h.judged_are.records) (all_fit (length bytes) 36 (table_in bytes).records (omega (arith, size)))

  pub header_fits : (head : Head) → HeadFits head → 0 + length (header (length bytes) 0 head) ≤ length bytes
  header_fits head fits = let long = h.spells.long in omega (arith, length-header (length bytes) 0 head fits)

  pub whole_mended : (head : Head) → HeadFits head → head ≡ (table_in bytes).head → AreBelow 256 bytes
      → mended (with_part bytes 0 (header (length bytes) 0 head)) kept.places kept.records ≡ spelling_with 0 (table_in bytes)
  whole_mended head fits head-is small =
      let records : List Record = (table_in bytes).records in
      let front : List ℕ = header (length bytes) 0 head in
      let long : length front ≡ 36 = length-header (length bytes) 0 head fits in
      let from : 0 + length front ≡ 36 = omega (arith, long) in
      let back : drop (0 + length front) bytes ≡ drop 36 bytes = ap (λ (n : ℕ). drop n bytes) from in
      let size : length bytes ≡ table_length records = size_from bytes records h.spells.long h.spells.texts in
      ap (λ (t : List ℕ). mended (front ++ t) kept.places kept.records) back
      ∙ ap (λ (ps : List ℕ). mended (front ++ drop 36 bytes) ps kept.records) h.judged_are.places
      ∙ ap (mended (front ++ drop 36 bytes) (judged_places 36 records)) h.judged_are.records
      ∙ all_mended front (drop 36 bytes) records 36 (sym long) (below_drop 36 bytes small) h.spells.texts
      ∙ ap (λ (n : ℕ). header n 0 head ++ flat_map record_spelling records) size
      ∙ ap (λ (x : Head). header (table_length records) 0 x ++ flat_map record_spelling records) head-is

pub head_is : (bytes : List ℕ) (head : Head) → field bytes 8 1 ≡ head.revision → some_bytes bytes 10 6 ≡ head.oem_id → some_bytes bytes 16 8 ≡ head.oem_table → field bytes 24 4 ≡ head.oem_revision → some_bytes bytes 28 4 ≡ head.creator → field bytes 32 4 ≡ head.creator_revision
    → head ≡ (table_in bytes).head
unfolding table_in
head_is bytes head revision oem_id oem_table oem_revision creator creator_revision = sym (same_head revision oem_id oem_table oem_revision creator creator_revision)
