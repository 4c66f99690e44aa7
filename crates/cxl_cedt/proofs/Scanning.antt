-- One record further, the first fault, and the end.
use Rattle.std.proofs.Common.{◌≡◌, ℕ, ◌+◌, ◌<◌, ◌≤◌, false, List, [], ◌∷◌, ◌++◌, length, take, drop, Some, refl, sym, ap, subst, ◌∙◌, append_assoc, arith, length-append, length-drop}
use Rattle.std.proofs.lemmas.List.{take-append-drop, append-nil, length-take-le}
use Rattle.cxl_table.specs.declared.cedt.Record.{Record}
use Rattle.cxl_cedt.specs.declared.fault.CedtFault.{CedtFault}
use Rattle.cxl_table.specs.Records.{kind_of, is_kind_full}
use Rattle.cxl_cedt.specs.Table.{IsRecordText, AreRecordTexts, length_said, record_fault, IsRecordFault}
use Rattle.cxl_cedt.specs.inner.Decoding.{IsSoundText, record_of}
use Rattle.cxl_cedt.specs.inner.Scan.{AreReadTo}
use Rattle.cxl_cedt.proofs.Counts.{few_push}
use Rattle.cxl_cedt.proofs.Sound.{spelled}
use Rattle.cxl_cedt.proofs.Fronts.{HasRecord}

pub texts_push : (front text : List ℕ) (rs : List Record) (r : Record) → AreRecordTexts front rs → IsRecordText text r → AreRecordTexts (front ++ text) (rs ++ r ∷ [])
texts_push front text [] r none h = (text, [], ap (λ (t : List ℕ). t ++ text) none ∙ sym (append-nil text), h, refl)
texts_push front text (s ∷ rs) r (first, next, whole, of_s, others) h =
    (first, next ++ text, ap (λ (t : List ℕ). t ++ text) whole ∙ append_assoc first next text, of_s, texts_push next text rs r others h)

pub read_none : (bytes : List ℕ) → AreReadTo bytes [] (drop 36 bytes) 36
read_none bytes = record {
  front = [];
  whole = refl;
  place = refl;
  texts = refl;
  few = record { chbs = omega arith; cfmws = omega arith; cxims = omega arith };
}

pub read_more : (bytes : List ℕ) (before : List Record) (rest : List ℕ) (at n : ℕ) (r : Record) → AreReadTo bytes before rest at → HasRecord before rest → n ≡ length_said rest
    → r ≡ record_of (take n rest) → AreReadTo bytes (before ++ r ∷ []) (drop n rest) (at + n)
read_more bytes before rest at n r so_far has said is =
    let text : List ℕ = take n rest in
    let len : length text ≡ n = length-take-le n rest (rw said has.within) in
    let sound : IsSoundText text = rw said has.sound in
    let room : is_kind_full (kind_of (record_of text)) before ≡ false = rw said has.room in
    record {
      front = so_far.front ++ text;
      whole = so_far.whole ∙ ap (λ (t : List ℕ). so_far.front ++ t) (sym (take-append-drop n rest)) ∙ sym (append_assoc so_far.front text (drop n rest));
      place = omega (arith, so_far.place, len, length-append so_far.front text);
      texts = texts_push so_far.front text before r so_far.texts (subst (IsRecordText text) (sym is) (spelled text sound));
      few = few_push before r (subst (λ (x : Record). is_kind_full (kind_of x) before ≡ false) (sym is) room) so_far.few;
    }

pub fault_there : (bytes : List ℕ) (before : List Record) (rest : List ℕ) (at : ℕ) (fault : CedtFault) → AreReadTo bytes before rest at → 0 < length rest → record_fault before rest at ≡ Some fault → IsRecordFault bytes fault
fault_there bytes before rest at fault so_far more is = record {
  before = before;
  front = so_far.front;
  rest = rest;
  whole = so_far.whole;
  sound = so_far.texts;
  few = so_far.few;
  more = more;
  fault_is = ap (record_fault before rest) (sym so_far.place) ∙ is;
}

pub all_read : (bytes : List ℕ) (records : List Record) (rest : List ℕ) (at : ℕ) → AreReadTo bytes records rest at → rest ≡ [] → AreRecordTexts (drop 36 bytes) records
all_read bytes records rest at so_far end =
    let whole : drop 36 bytes ≡ so_far.front = so_far.whole ∙ ap (λ (t : List ℕ). so_far.front ++ t) end ∙ append-nil so_far.front in
    subst (λ (t : List ℕ). AreRecordTexts t records) (sym whole) so_far.texts

-- how far the rest is
pub place_of : (bytes : List ℕ) (records : List Record) (rest : List ℕ) (at : ℕ) → 36 ≤ length bytes → AreReadTo bytes records rest at → at + length rest ≡ length bytes
place_of bytes records rest at long so_far = omega (arith, so_far.place, ap length so_far.whole, length-append so_far.front rest, length-drop 36 bytes)
