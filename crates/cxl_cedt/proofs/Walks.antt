-- The records of a text, read from its front.
use Rattle.std.proofs.Common.{◌≡◌, ℕ, zero, suc, ◌<◌, ◌≤◌, true, false, eqb, List, [], ◌∷◌, length, take, drop, None, refl, sym, ap, subst, ◌∙◌, arith, length-append, length-drop}
use Rattle.std.proofs.lemmas.Bool.{eqb-true, eqb-false, le-leb, lt-leb}
use Rattle.std.proofs.lemmas.List.{take_at, drop_at}
use Rattle.cxl_enc.specs.Limits.{file_limit}
use Rattle.cxl_table.specs.declared.cedt.Record.{Record}
use Rattle.cxl_table.specs.declared.cedt.Record.TheVariants.{Other}
use Rattle.cxl_cedt.specs.declared.counted.Others.TheVariants.{PassedOver}
use Rattle.cxl_table.specs.Judged.{is_judged, judged_of}
use Rattle.cxl_cedt.specs.Reading.{head_in, first_records, records_in, table_in}
use Rattle.cxl_table.specs.Records.{kind_of}
use Rattle.cxl_cedt.specs.Table.{IsRecordText, AreRecordTexts, IsTableText, kind_said, length_said, header_fault}
use Rattle.cxl_table.specs.CedtFields.{CedtFields}
use Rattle.cxl_cedt.specs.inner.Decoding.{IsSoundText, record_of, other_of}
use Rattle.cxl_cedt.specs.inner.Kept.{AreKeptOf, IsKeptIn, IsTextOf}
use Rattle.cxl_cedt.specs.inner.KeptRecords.{KeptRecords}
use Rattle.cxl_cedt.specs.inner.Walk.{IsWalk}
use Rattle.cxl_cedt.proofs.Fronts.{length_seen}
use Rattle.cxl_cedt.proofs.Laws.{same_head, same_table, header_from, table_from}
use Rattle.cxl_cedt.proofs.Sound.{decoded, is_sound, said_kind, of_other}

-- the first of the records of a text, and the others
pub record BeginsWith (text : List ℕ) (r : Record) (others : List Record) : Type 0 where
  pub long : 4 ≤ length_said text
  pub within : length_said text ≤ length text
  pub first : IsRecordText (take (length_said text) text) r
  pub next : AreRecordTexts (drop (length_said text) text) others

pub begins : (text : List ℕ) (r : Record) (others : List Record) → AreRecordTexts text (r ∷ others) → BeginsWith text r others
begins text r others (first, next, whole, of_r, rest) =
    let said : length_said text ≡ length first = ap length_said whole ∙ length_seen first next r of_r in
    let front : take (length_said text) text ≡ first = ap (take (length_said text)) whole ∙ take_at first next (length_said text) (sym said) in
    let back : drop (length_said text) text ≡ next = ap (drop (length_said text)) whole ∙ drop_at first next (length_said text) (sym said) in
    record {
      long = omega (arith, said, (is_sound first r of_r).long);
      within = omega (arith, said, ap length whole, length-append first next);
      first = subst (λ (t : List ℕ). IsRecordText t r) (sym front) of_r;
      next = subst (λ (t : List ℕ). AreRecordTexts t others) (sym back) rest;
    }

step : (n : ℕ) (text : List ℕ) → 0 < length text → first_records (suc n) text ≡ record_of (take (length_said text) text) ∷ first_records n (drop (length_said text) text)
unfolding first_records
step n [] some = absurd (omega arith)
step n (byte ∷ bytes) some = refl

none_left : (n : ℕ) → first_records n [] ≡ []
unfolding first_records
none_left zero = refl
none_left (suc n) = refl

-- the records of a text are those that it spells
first_are : (n : ℕ) (text : List ℕ) (records : List Record) → length text ≤ n → AreRecordTexts text records → first_records n text ≡ records
first_are n text [] enough none = ap (first_records n) none ∙ none_left n
first_are zero text (r ∷ records) enough texts = let b = begins text r records texts in absurd (omega (arith, b.long, b.within))
first_are (suc n) text (r ∷ records) enough texts =
    let b = begins text r records texts in
    step n text (omega (arith, b.long, b.within))
    ∙ ap (λ (x : Record). x ∷ first_records n (drop (length_said text) text)) (decoded (take (length_said text) text) r b.first)
    ∙ ap (λ (rs : List Record). r ∷ rs) (first_are n (drop (length_said text) text) records (omega (arith, b.long, length-drop (length_said text) text)) b.next)

pub records_are : (text : List ℕ) (records : List Record) → AreRecordTexts text records → records_in text ≡ records
records_are text records texts = first_are (length text) text records (omega arith) texts

-- ---- the table

pub table_is : (bytes : List ℕ) (c : CedtFields) → IsTableText bytes c → table_in bytes ≡ c
unfolding table_in
table_is bytes c h = ap (λ (rs : List Record). record { head = head_in bytes; records = rs }) (records_are (drop 36 bytes) c.records h.texts)
    ∙ same_table (same_head h.revision h.oem_id h.oem_table h.oem_revision h.creator h.creator_revision) refl

pub text_is : (bytes : List ℕ) (c : CedtFields) → IsTableText bytes c → IsTableText bytes (table_in bytes)
text_is bytes c h = subst (IsTableText bytes) (sym (table_is bytes c h)) h

-- ---- a walk

-- the record in front of the rest of a walk, and what is left behind it
pub record Meets (rest : List ℕ) : Type 0 where
  pub r : Record
  pub others : List Record
  pub records : records_in rest ≡ r ∷ others
  pub begin : BeginsWith rest r others
  pub decoded_is : record_of (take (length_said rest) rest) ≡ r
  pub left : records_in (drop (length_said rest) rest) ≡ others

meets_of : (rest : List ℕ) (records : List Record) → 0 < length rest → records_in rest ≡ records → AreRecordTexts rest records → Meets rest
meets_of rest [] some are none = absurd (omega (arith, ap length none))
meets_of rest (r ∷ others) some are texts =
    let begin = begins rest r others texts in
    record {
      r = r;
      others = others;
      records = are;
      begin = begin;
      decoded_is = decoded (take (length_said rest) rest) r begin.first;
      left = records_are (drop (length_said rest) rest) others begin.next;
    }

pub meets : (rest : List ℕ) (judged : List Record) → 0 < length rest → IsWalk rest judged → Meets rest
meets rest judged some walk = meets_of rest (records_in rest) some refl walk.texts

left_texts : (rest : List ℕ) (m : Meets rest) → AreRecordTexts (drop (length_said rest) rest) (records_in (drop (length_said rest) rest))
left_texts rest m = subst (AreRecordTexts (drop (length_said rest) rest)) (sym m.left) m.begin.next

pub sound_there : (rest : List ℕ) (m : Meets rest) → IsSoundText (take (length_said rest) rest)
sound_there rest m = is_sound (take (length_said rest) rest) m.r m.begin.first

kind_there : (rest : List ℕ) (m : Meets rest) → kind_of m.r ≡ kind_said (take (length_said rest) rest)
kind_there rest m = sym (said_kind (take (length_said rest) rest) m.r m.begin.first)

-- it is of another type
pub other_there : (rest : List ℕ) (m : Meets rest) → 2 < kind_said (take (length_said rest) rest) → records_in rest ≡ Other (other_of (take (length_said rest) rest)) ∷ records_in (drop (length_said rest) rest)
other_there rest m other =
    m.records ∙ ap (λ (x : Record). x ∷ m.others) (sym m.decoded_is ∙ of_other (take (length_said rest) rest) other) ∙ ap (λ (rs : List Record). Other (other_of (take (length_said rest) rest)) ∷ rs) (sym m.left)

pub walk_other : (rest : List ℕ) (judged : List Record) (m : Meets rest) → 2 < kind_said (take (length_said rest) rest) → IsWalk rest judged → IsWalk (drop (length_said rest) rest) judged
walk_other rest judged m other walk =
    let no : is_judged m.r ≡ false = lt-leb (kind_of m.r) 2 (omega (arith, kind_there rest m)) in
    let past : judged_of (m.r ∷ m.others) ≡ judged_of m.others = rw no refl in
    record { texts = left_texts rest m; judged_are = walk.judged_are ∙ ap judged_of m.records ∙ past ∙ ap judged_of (sym m.left) }

-- it is judged
pub judged_there : (rest : List ℕ) (judged : List Record) (m : Meets rest) → kind_said (take (length_said rest) rest) ≤ 2 → IsWalk rest judged → judged ≡ m.r ∷ judged_of m.others
judged_there rest judged m of_three walk =
    let yes : is_judged m.r ≡ true = le-leb (kind_of m.r) 2 (omega (arith, kind_there rest m)) in
    let first : judged_of (m.r ∷ m.others) ≡ m.r ∷ judged_of m.others = rw yes refl in
    walk.judged_are ∙ ap judged_of m.records ∙ first

pub walk_judged : (rest : List ℕ) (others : List Record) (m : Meets rest) → others ≡ judged_of m.others → IsWalk (drop (length_said rest) rest) others
walk_judged rest others m are = record { texts = left_texts rest m; judged_are = are ∙ ap judged_of (sym m.left) }

pub no_records : (rest : List ℕ) → eqb (length rest) 0 ≡ true → records_in rest ≡ []
no_records [] none = none_left 0
no_records (byte ∷ bytes) none = absurd (omega (arith, eqb-true (length (byte ∷ bytes)) 0 none))

some_left : (rest : List ℕ) → eqb (length rest) 0 ≡ false → 0 < length rest
some_left rest some = let ne : length rest ≡ 0 → ⊥ = eqb-false (length rest) 0 some in omega arith

pub meets_some : (rest : List ℕ) (judged : List Record) → eqb (length rest) 0 ≡ false → IsWalk rest judged → Meets rest
meets_some rest judged some walk = meets rest judged (some_left rest some) walk

-- the rest cut behind the first record
pub record Cut (rest : List ℕ) (judged : List Record) (text after : List ℕ) : Type 0 where
  pub m : Meets rest
  pub text_is : text ≡ take (length_said rest) rest
  pub after_is : after ≡ drop (length_said rest) rest
  pub walk : IsWalk rest judged

pub cut : (rest : List ℕ) (judged : List Record) (n : ℕ) (text after : List ℕ) → eqb (length rest) 0 ≡ false → IsWalk rest judged → n ≡ length_said rest → text ≡ take n rest → after ≡ drop n rest → Cut rest judged text after
cut rest judged n text after some walk said front back = record {
  m = meets_some rest judged some walk;
  text_is = front ∙ ap (λ (k : ℕ). take k rest) said;
  after_is = back ∙ ap (λ (k : ℕ). drop k rest) said;
  walk = walk;
}

module _ (rest : List ℕ) (judged : List Record) (text after : List ℕ) (c : Cut rest judged text after) where
  kind_as : kind_said text ≡ kind_said (take (length_said rest) rest)
  kind_as = ap kind_said c.text_is

  pub cut_sound : IsSoundText text
  cut_sound = subst IsSoundText (sym c.text_is) (sound_there rest c.m)

  pub cut_other : 2 < kind_said text → records_in rest ≡ Other (other_of text) ∷ records_in after
  cut_other other =
      other_there rest c.m (omega (arith, other, kind_as))
      ∙ ap (λ (t : List ℕ). Other (other_of t) ∷ records_in (drop (length_said rest) rest)) (sym c.text_is)
      ∙ ap (λ (t : List ℕ). Other (other_of text) ∷ records_in t) (sym c.after_is)

  pub cut_other_walk : 2 < kind_said text → IsWalk after judged
  cut_other_walk other = subst (λ (t : List ℕ). IsWalk t judged) (sym c.after_is) (walk_other rest judged c.m (omega (arith, other, kind_as)) c.walk)

  first_judged : kind_said text ≤ 2 → judged ≡ c.m.r ∷ judged_of c.m.others
  first_judged of_three = judged_there rest judged c.m (omega (arith, of_three, kind_as)) c.walk

  pub some_judged : kind_said text ≤ 2 → 0 < length judged
  some_judged of_three = omega (arith, ap length (first_judged of_three))

  pub cut_judged : (first : Record) (others : List Record) → kind_said text ≤ 2 → judged ≡ first ∷ others → records_in rest ≡ first ∷ records_in after
  cut_judged first others of_three are =
      let same : c.m.r ∷ judged_of c.m.others ≡ first ∷ others = sym (first_judged of_three) ∙ are in
      let r-is : c.m.r ≡ first = cc in
      c.m.records ∙ ap (λ (r : Record). r ∷ c.m.others) r-is ∙ ap (λ (rs : List Record). first ∷ rs) (sym c.m.left ∙ ap records_in (sym c.after_is))

  pub cut_judged_walk : (first : Record) (others : List Record) → kind_said text ≤ 2 → judged ≡ first ∷ others → IsWalk after others
  cut_judged_walk first others of_three are =
      let same : c.m.r ∷ judged_of c.m.others ≡ first ∷ others = sym (first_judged of_three) ∙ are in
      let others-are : others ≡ judged_of c.m.others = cc in
      subst (λ (t : List ℕ). IsWalk t others) (sym c.after_is) (walk_judged rest others c.m others-are)

-- ---- a table that is read and not copied

pub walk_begins : (bytes : List ℕ) (kept : KeptRecords) → IsTextOf bytes kept → IsWalk (drop 36 bytes) kept.records
unfolding table_in
walk_begins bytes kept h = record { texts = h.spells.texts; judged_are = h.judged_are.records }

pub records_begin : (bytes : List ℕ) → records_in (drop 36 bytes) ≡ (table_in bytes).records
unfolding table_in
records_begin bytes = refl

pub text_kept : (bytes : List ℕ) (kept : KeptRecords) → length bytes ≤ file_limit → header_fault bytes ≡ None → IsKeptIn PassedOver bytes kept → IsTextOf bytes kept
text_kept bytes kept short none h =
    let table = table_from bytes h.all (header_from bytes none) h.texts h.few in
    let all : h.all ≡ (table_in bytes).records = sym (records_are (drop 36 bytes) h.all h.texts) ∙ records_begin bytes in
    record {
      short = short;
      spells = text_is bytes table.0 table.1;
      judged_are = subst (λ (rs : List Record). AreKeptOf PassedOver rs kept) all h.kept_are;
    }
