-- What is kept of records: one record more, and what the tests of the next one say of those that are kept.
use Rattle.std.proofs.Common.{◌≡◌, ℕ, ◌+◌, ◌<◌, ◌≤◌, Bool, true, false, cond, eqb, leb, List, [], ◌∷◌, ◌++◌, refl, sym, ap, ◌∙◌, inl, inr, arith}
use Rattle.std.specs.Prelude.{sum_by}
use Rattle.std.proofs.lemmas.Bool.{eqb-true, le-leb, lt-leb, leb-true, cases_Bool, false≢true}
use Rattle.std.proofs.lemmas.List.Elements.{filter-append}
use Rattle.std.proofs.lemmas.List.Sums.{sum_by-cons}
use Rattle.cxl_table.specs.declared.cedt.Record.{Record}
use Rattle.cxl_cedt.specs.declared.counted.Others.{Others}
use Rattle.cxl_cedt.specs.declared.counted.Others.TheVariants.{Kept, PassedOver}
use Rattle.cxl_table.specs.Judged.{is_judged, judged_of, judged_places}
use Rattle.cxl_table.specs.Records.{kind_of, count_of, record_length, is_kind_full}
use Rattle.cxl_cedt.specs.Table.{record_fault, kind_said}
use Rattle.cxl_cedt.specs.inner.Decoding.{IsSoundText, record_of}
use Rattle.cxl_cedt.specs.inner.Kept.{kept_of, AreKeptOf}
use Rattle.cxl_cedt.specs.inner.KeptRecords.{KeptRecords}
use Rattle.cxl_cedt.proofs.Counts.{one_of}
use Rattle.cxl_cedt.proofs.Sound.{spelled, said_kind}

-- ---- the limits ask for judged records alone

judged_kind : (kind : ℕ) (r : Record) → kind ≤ 2 → eqb (kind_of r) kind ≡ true → is_judged r ≡ true
judged_kind kind r judged same = le-leb (kind_of r) 2 (omega (arith, eqb-true (kind_of r) kind same))

count_more : (kind : ℕ) (r : Record) (records : List Record) → kind ≤ 2 → count_of kind (judged_of records) ≡ count_of kind records → count_of kind (judged_of (r ∷ records)) ≡ count_of kind (r ∷ records)
count_more kind r records judged so_far =
    let one_more : count_of kind (r ∷ records) ≡ one_of kind r + count_of kind records = sum_by-cons (one_of kind) r records in
    let one_kept : count_of kind (r ∷ judged_of records) ≡ one_of kind r + count_of kind (judged_of records) = sum_by-cons (one_of kind) r (judged_of records) in
    elim (cases_Bool (is_judged r)) [
      | inl kept ↦
          let same : count_of kind (r ∷ judged_of records) ≡ count_of kind (r ∷ records) = omega (arith, one_more, one_kept, so_far) in
          rw kept same
      | inr dropped ↦ elim (cases_Bool (eqb (kind_of r) kind)) [
        | inl same ↦ absurd (false≢true (sym dropped ∙ judged_kind kind r judged same))
        | inr other ↦
            let none : one_of kind r ≡ 0 = rw other refl in
            let same : count_of kind (judged_of records) ≡ count_of kind (r ∷ records) = omega (arith, one_more, none, so_far) in
            rw dropped same
      ]
    ]

count_of-judged : (kind : ℕ) (records : List Record) → kind ≤ 2 → count_of kind (judged_of records) ≡ count_of kind records
count_of-judged kind [] judged = refl
count_of-judged kind (r ∷ records) judged = count_more kind r records judged (count_of-judged kind records judged)

full_of_judged : (kind : ℕ) (records : List Record) → is_kind_full kind (judged_of records) ≡ is_kind_full kind records
full_of_judged kind records =
    elim (cases_Bool (leb kind 2)) [
      | inl judged ↦ rw judged (ap (λ n. eqb n 64) (count_of-judged kind records (leb-true kind 2 judged)))
      | inr other ↦ rw other refl
    ]

pub full_of_kept : (others : Others) (kind : ℕ) (records : List Record) → is_kind_full kind (kept_of others records) ≡ is_kind_full kind records
full_of_kept Kept kind records = refl
full_of_kept PassedOver kind records = full_of_judged kind records

-- so the next record has the same fault
pub fault_of_kept : (others : Others) (records : List Record) (rest : List ℕ) (at : ℕ) → record_fault (kept_of others records) rest at ≡ record_fault records rest at
unfolding record_fault
fault_of_kept Kept records rest at = refl
fault_of_kept PassedOver records rest at = rw (full_of_judged _ records) refl

-- ---- one record more

kept_more : (others : Others) (all : List Record) (r : Record) → kept_of others (all ++ r ∷ []) ≡ kept_of others all ++ kept_of others (r ∷ [])
kept_more Kept all r = refl
kept_more PassedOver all r = filter-append is_judged all (r ∷ [])

place_first : (judged : Bool) (at : ℕ) (others : List ℕ) (more : List ℕ) → cond judged (at ∷ (others ++ more)) (others ++ more) ≡ cond judged (at ∷ others) others ++ more
place_first true at others more = refl
place_first false at others more = refl

places_more : (at at' : ℕ) (all : List Record) (r : Record) → at' ≡ at + sum_by record_length all → judged_places at (all ++ r ∷ []) ≡ judged_places at all ++ judged_places at' (r ∷ [])
places_more at at' [] r is = ap (λ n. judged_places n (r ∷ [])) (omega (arith, is))
places_more at at' (s ∷ all) r is =
    ap (λ ps. cond (is_judged s) (at ∷ ps) ps) (places_more (at + record_length s) at' all r (omega (arith, is, sum_by-cons record_length s all)))
    ∙ place_first (is_judged s) at (judged_places (at + record_length s) all) (judged_places at' (r ∷ []))

pub kept_none : (others : Others) (kept : KeptRecords) → kept ≡ record { records = []; places = [] } → AreKeptOf others [] kept
kept_none Kept kept is = record { records = ap (λ k. k.records) is; places = ap (λ k. k.places) is }
kept_none PassedOver kept is = record { records = ap (λ k. k.records) is; places = ap (λ k. k.places) is }

pub kept_next : (others : Others) (all : List Record) (r : Record) (at : ℕ) (kept new : KeptRecords) → at ≡ 36 + sum_by record_length all → AreKeptOf others all kept → new.records ≡ kept.records ++ kept_of others (r ∷ []) → new.places ≡ kept.places ++ judged_places at (r ∷ [])
    → AreKeptOf others (all ++ r ∷ []) new
kept_next others all r at kept new at-is so_far records places = record {
  records = records ∙ ap (λ rs. rs ++ kept_of others (r ∷ [])) so_far.records ∙ sym (kept_more others all r);
  places = places ∙ ap (λ ps. ps ++ judged_places at (r ∷ [])) so_far.places ∙ sym (places_more 36 at all r at-is);
}

-- ---- one record

module _ (text : List ℕ) (sound : IsSoundText text) where
  pub said_by : kind_of (record_of text) ≡ kind_said text
  said_by = sym (said_kind text (record_of text) (spelled text sound))

  pub is_judged_text : kind_said text ≤ 2 → is_judged (record_of text) ≡ true
  is_judged_text of_three = le-leb (kind_of (record_of text)) 2 (omega (arith, said_by))

  pub is_other_text : 2 < kind_said text → is_judged (record_of text) ≡ false
  is_other_text other = lt-leb (kind_of (record_of text)) 2 (omega (arith, said_by))

pub kept_judged : (others : Others) (r : Record) → is_judged r ≡ true → kept_of others (r ∷ []) ≡ r ∷ []
kept_judged Kept r judged = refl
kept_judged PassedOver r judged = rw judged refl

pub passed_over : (r : Record) → is_judged r ≡ false → kept_of PassedOver (r ∷ []) ≡ []
passed_over r other = rw other refl

pub place_of_judged : (at : ℕ) (r : Record) → is_judged r ≡ true → judged_places at (r ∷ []) ≡ at ∷ []
place_of_judged at r judged = rw judged refl

pub no_place : (at : ℕ) (r : Record) → is_judged r ≡ false → judged_places at (r ∷ []) ≡ []
no_place at r other = rw other refl
