-- Records at the front of a text: there is one way to read them.
use Rattle.std.proofs.Common.{◌≡◌, ℕ, ◌+◌, ◌*◌, ◌≤◌, false, List, [], ◌∷◌, ◌++◌, length, take, drop, Option, Some, None, refl, sym, ap, subst, ◌∙◌, ◌⊎◌, inl, inr, append_assoc, arith, length-append}
use Rattle.std.proofs.lemmas.List.{take_at, drop_at, take-append-drop, append-nil, length-take-le}
use Rattle.std.specs.Prelude.{unwrap_or}
use Rattle.cxl_enc.specs.Codes.{ways_of}
use Rattle.cxl_table.specs.declared.cedt.Record.{Record}
use Rattle.cxl_table.specs.Records.{kind_of, is_kind_full}
use Rattle.cxl_cedt.specs.Table.{field, IsRecordText, AreRecordTexts, kind_said, length_said, ways_said, record_fault}
use Rattle.cxl_cedt.specs.inner.Decoding.{known_ways, IsSoundText, record_of}
use Rattle.cxl_cedt.proofs.Places.{field_front}
use Rattle.cxl_cedt.proofs.RecordTests.{PassesTests, passes, no_fault, whole_from, not_cut, HasLength, length_from, not_short, ways_from, ways_known, size_from, no_other_length, gran_from, no_unknown_gran, arithmetic_from, arithmetic_known}
use Rattle.cxl_cedt.proofs.Sound.{spelled, decoded, said_kind, is_sound}

-- ---- a text and what follows it say the same of its record

kind_front : (text more : List ℕ) → 4 ≤ length text → kind_said (text ++ more) ≡ kind_said text
kind_front text more long = field_front text more 0 1 (omega arith)

length_front : (text more : List ℕ) → 4 ≤ length text → length_said (text ++ more) ≡ length_said text
length_front text more long = field_front text more 2 2 (omega arith)

ways_front : (text more : List ℕ) → 36 ≤ length text → ways_said (text ++ more) ≡ ways_said text
ways_front text more long = ap ways_of (field_front text more 24 1 (omega arith))

count_front : (text more : List ℕ) → 36 ≤ length text → known_ways (text ++ more) ≡ known_ways text
count_front text more long = ap (λ (o : Option ℕ). unwrap_or o 0) (ways_front text more long)

-- ---- a text without fault passes the tests, whatever follows it

at_least : (text : List ℕ) → IsSoundText text → HasLength (kind_said text) (length text)
at_least text h = record {
  frame = h.long;
  chbs = h.chbs;
  window = λ k. omega (arith, (h.window k).size);
  maps = λ k. omega (arith, (h.maps k).size);
}

pub passes_from_sound : (before : List Record) (text more : List ℕ) → IsSoundText text → is_kind_full (kind_said text) before ≡ false → PassesTests before (text ++ more)
passes_from_sound before text more h room =
    let long = h.long in
    let rest : List ℕ = text ++ more in
    let kind : kind_said rest ≡ kind_said text = kind_front text more long in
    let size : length_said rest ≡ length text = length_front text more long ∙ h.said in
    let window : kind_said rest ≡ 1 → 36 ≤ length text = λ k. (at_least text h).window (sym kind ∙ k) in
    let maps : kind_said rest ≡ 2 → 8 ≤ length text = λ k. (at_least text h).maps (sym kind ∙ k) in
    record {
      whole = not_cut rest (record { frame = omega (arith, length-append text more); within = omega (arith, length-append text more, size) });
      long = not_short (kind_said rest) (length_said rest) (rw (kind, size) (at_least text h));
      ways = ways_known (kind_said rest) (ways_said rest) (λ k. rw (ways_front text more (window k)) ((h.window (sym kind ∙ k)).ways));
      size = no_other_length (kind_said rest) rest (record {
        window = λ k. size ∙ (h.window (sym kind ∙ k)).size ∙ ap (λ (n : ℕ). 36 + 4 * n) (sym (count_front text more (window k)));
        maps = λ k. size ∙ (h.maps (sym kind ∙ k)).size ∙ ap (λ (n : ℕ). 8 + 8 * n) (sym (field_front text more 7 1 (maps k)));
      });
      gran = no_unknown_gran (kind_said rest) rest (record {
        window = λ k. rw (field_front text more 28 4 (omega (arith, window k))) ((h.window (sym kind ∙ k)).gran);
        maps = λ k. rw (field_front text more 6 1 (omega (arith, maps k))) ((h.maps (sym kind ∙ k)).gran);
      });
      arithmetic = arithmetic_known (kind_said rest) (field rest 25 1) (λ k. rw (field_front text more 25 1 (omega (arith, window k))) ((h.window (sym kind ∙ k)).arithmetic));
      room = rw kind room;
    }

-- ---- a text that passes the tests is without fault up to the length that it says

pub sound_from_passes : (before : List Record) (text more : List ℕ) → PassesTests before (text ++ more) → length_said (text ++ more) ≡ length text → IsSoundText text
sound_from_passes before text more p size =
    let rest : List ℕ = text ++ more in
    let least = length_from (kind_said rest) (length_said rest) p.long in
    let long : 4 ≤ length text = omega (arith, least.frame) in
    let kind : kind_said rest ≡ kind_said text = kind_front text more long in
    let sizes = size_from (kind_said rest) rest p.size in
    let grans = gran_from (kind_said rest) rest p.gran in
    record {
      said = sym (length_front text more long) ∙ size;
      long = long;
      chbs = λ k. sym size ∙ least.chbs (kind ∙ k);
      window = λ k.
          let k' : kind_said rest ≡ 1 = kind ∙ k in
          let room : 36 ≤ length text = omega (arith, least.window k') in
          record {
            ways = subst (λ (o : Option ℕ). o ≡ Some (unwrap_or o 0)) (ways_front text more room) (ways_from (kind_said rest) (ways_said rest) p.ways k');
            size = sym size ∙ sizes.window k' ∙ ap (λ (n : ℕ). 36 + 4 * n) (count_front text more room);
            gran = subst (λ (n : ℕ). n ≤ 6) (field_front text more 28 4 (omega arith)) (grans.window k');
            arithmetic = subst (λ (n : ℕ). n ≤ 1) (field_front text more 25 1 (omega arith)) (arithmetic_from (kind_said rest) (field rest 25 1) p.arithmetic k');
          };
      maps = λ k.
          let k' : kind_said rest ≡ 2 = kind ∙ k in
          let room : 8 ≤ length text = omega (arith, least.maps k') in
          record {
            size = sym size ∙ sizes.maps k' ∙ ap (λ (n : ℕ). 8 + 8 * n) (field_front text more 7 1 (omega arith));
            gran = subst (λ (n : ℕ). n ≤ 6) (field_front text more 6 1 (omega arith)) (grans.maps k');
          };
    }

-- what the tests let through: a record, and what follows it
pub record HasRecord (before : List Record) (rest : List ℕ) : Type 0 where
  pub long : 4 ≤ length_said rest
  pub within : length_said rest ≤ length rest
  pub sound : IsSoundText (take (length_said rest) rest)
  pub room : is_kind_full (kind_of (record_of (take (length_said rest) rest))) before ≡ false

pub has_record : (before : List Record) (rest : List ℕ) (at : ℕ) → record_fault before rest at ≡ None → HasRecord before rest
has_record before rest at e =
    let p = passes before rest at e in
    let n : ℕ = length_said rest in
    let within : n ≤ length rest = (whole_from rest p.whole).within in
    let text : List ℕ = take n rest in
    let parts : text ++ drop n rest ≡ rest = take-append-drop n rest in
    let size : length_said (text ++ drop n rest) ≡ length text = ap length_said parts ∙ sym (length-take-le n rest within) in
    let sound : IsSoundText text = sound_from_passes before text (drop n rest) (subst (PassesTests before) (sym parts) p) size in
    let kind : kind_said rest ≡ kind_of (record_of text) = sym (ap kind_said parts) ∙ kind_front text (drop n rest) sound.long ∙ said_kind text (record_of text) (spelled text sound) in
    record {
      long = (length_from (kind_said rest) n p.long).frame;
      within = within;
      sound = sound;
      room = subst (λ (k : ℕ). is_kind_full k before ≡ false) kind p.room;
    }

-- what begins with the text of a record that may still come has no fault there
pub no_fault_at_record : (before : List Record) (text more : List ℕ) (r : Record) (at : ℕ) → IsRecordText text r → is_kind_full (kind_of r) before ≡ false → record_fault before (text ++ more) at ≡ None
no_fault_at_record before text more r at h room =
    no_fault before (text ++ more) at (passes_from_sound before text more (is_sound text r h) (rw (said_kind text r h) room))

-- ---- one way to read

pub record SameStart (a b x y : List ℕ) (r s : Record) : Type 0 where
  pub text : a ≡ b
  pub rest : x ≡ y
  pub value : r ≡ s

pub length_seen : (text more : List ℕ) (r : Record) → IsRecordText text r → length_said (text ++ more) ≡ length text
length_seen text more r h = let sound = is_sound text r h in length_front text more sound.long ∙ sound.said

pub same_start : (a b x y : List ℕ) (r s : Record) → IsRecordText a r → IsRecordText b s → a ++ x ≡ b ++ y → SameStart a b x y r s
same_start a b x y r s of_r of_s whole =
    let size : length a ≡ length b = sym (length_seen a x r of_r) ∙ ap length_said whole ∙ length_seen b y s of_s in
    let text : a ≡ b = sym (take_at a x (length a) refl) ∙ ap (take (length a)) whole ∙ take_at b y (length a) (sym size) in
    record {
      text = text;
      rest = sym (drop_at a x (length a) refl) ∙ ap (drop (length a)) whole ∙ drop_at b y (length a) (sym size);
      value = sym (decoded a r of_r) ∙ ap record_of text ∙ decoded b s of_s;
    }

-- the text is those of the records, and then the rest
abbrev pub Leads : List ℕ → List Record → List ℕ → Type 0
Leads text [] rest = text ≡ rest
Leads text (r ∷ rs) rest = (first : List ℕ) × (next : List ℕ) × (text ≡ first ++ next) × IsRecordText first r × Leads next rs rest

pub leads_from : (front rest : List ℕ) (rs : List Record) → AreRecordTexts front rs → Leads (front ++ rest) rs rest
leads_from front rest [] h = ap (λ (t : List ℕ). t ++ rest) h
leads_from front rest (r ∷ rs) (first, next, whole, text, others) =
    (first, next ++ rest, ap (λ (t : List ℕ). t ++ rest) whole ∙ append_assoc first next rest, text, leads_from next rest rs others)

pub leads_to_end : (text : List ℕ) (rs : List Record) → AreRecordTexts text rs → Leads text rs []
leads_to_end text rs h = subst (λ (t : List ℕ). Leads t rs []) (append-nil text) (leads_from text [] rs h)

leads_along : (a b : List ℕ) (rs : List Record) (rest : List ℕ) → a ≡ b → Leads a rs rest → Leads b rs rest
leads_along a b rs rest e h = subst (λ (t : List ℕ). Leads t rs rest) e h

-- of two readings of one text the one goes on where the other stops
abbrev pub GoesOn : List Record → List ℕ → List Record → List ℕ → Type 0
GoesOn rs x ss y = (more : List Record) × (ss ≡ rs ++ more) × Leads x more y

pub one_goes_on : (text : List ℕ) (rs : List Record) (x : List ℕ) (ss : List Record) (y : List ℕ) → Leads text rs x → Leads text ss y → GoesOn rs x ss y ⊎ GoesOn ss y rs x
one_goes_on text [] x ss y h k = inl (ss, refl, leads_along text x ss y h k)
one_goes_on text (r ∷ rs) x [] y h k = inr (r ∷ rs, refl, leads_along text y (r ∷ rs) x k h)
one_goes_on text (r ∷ rs) x (s ∷ ss) y (a, next, whole, of_r, h) (b, next', whole', of_s, k) =
    let same = same_start a b next next' r s of_r of_s (sym whole ∙ whole') in
    elim (one_goes_on next rs x ss y h (leads_along next' next ss y (sym same.rest) k)) [
      | inl (more, is, leads) ↦ inl (more, ap (λ (z : Record). z ∷ ss) (sym same.value) ∙ ap (λ (l : List Record). r ∷ l) is, leads)
      | inr (more, is, leads) ↦ inr (more, ap (λ (z : Record). z ∷ rs) same.value ∙ ap (λ (l : List Record). s ∷ l) is, leads)
    ]
