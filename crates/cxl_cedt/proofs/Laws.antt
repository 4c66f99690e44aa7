-- Bytes have one table or one first fault, and never both.
use Rattle.std.proofs.Common.{◌≡◌, ℕ, zero, suc, ◌+◌, ◌≤◌, true, false, eqb, not, ◌%◌, List, [], ◌∷◌, ◌++◌, length, take, drop, sum, sum_by, Option, Some, None, Result, Ok, Err, refl, sym, ap, subst, ◌∙◌, ◌⊎◌, inl, inr, arith, length-append, length-drop}
use Rattle.std.specs.Prelude.{IfOk, IfErr}
use Rattle.std.proofs.lemmas.List.{append-nil}
use Rattle.std.proofs.lemmas.List.Sums.{sum_by-cons}
use Rattle.std.proofs.lemmas.Option.{none-some, same_Some}
use Rattle.std.proofs.lemmas.Bool.{ltb-false, le-ltb, eqb-true, eq-eqb, not-false, not_from_true}
use Rattle.cxl_enc.specs.Limits.{file_limit}
use Rattle.cxl_table.specs.declared.cedt.Head.{Head}
use Rattle.cxl_table.specs.declared.cedt.Record.{Record}
use Rattle.cxl_cedt.specs.declared.fault.CedtFault.{CedtFault}
use Rattle.cxl_cedt.specs.declared.fault.CedtFault.TheVariants.{Memory}
use Rattle.cxl_table.specs.CedtFields.{CedtFields}
use Rattle.cxl_table.specs.Records.{kind_of, count_of, record_length, table_length, is_kind_full, HasFewOfEach}
use Rattle.cxl_cedt.specs.Table.{field, has_signature, AreRecordTexts, IsTableText, length_said, header_fault, record_fault, IsRecordFault, FirstTableFault, HasTable, HasFault, IsFaultOf, IsAnswer, IsReadAs}
use Rattle.cxl_cedt.specs.Reading.{head_in}
use Rattle.cxl_cedt.specs.inner.Decoding.{record_of}
use Rattle.cxl_cedt.specs.inner.Scan.{AreReadTo}
use Rattle.cxl_cedt.proofs.Counts.{one_of, one_of_same, count_of-push, count_of-append, room_from}
use Rattle.cxl_cedt.proofs.Sound.{is_sound, text_length}
use Rattle.cxl_cedt.proofs.Fronts.{no_fault_at_record, has_record, Leads, leads_from, leads_to_end, one_goes_on}
use Rattle.cxl_cedt.proofs.Scanning.{read_none, read_more, fault_there, all_read}
use Rattle.cxl_cedt.proofs.RecordTests.{no_fault_here}

-- ---- no fault where another record follows

few_each : (k : ℕ) (xs : List Record) → HasFewOfEach xs → k ≤ 2 → count_of k xs ≤ 64
few_each zero xs few le = few.chbs
few_each (suc zero) xs few le = few.cfmws
few_each (suc (suc zero)) xs few le = few.cxims
few_each (suc (suc (suc k))) xs few le = absurd (omega arith)

room_for : (before more : List Record) (r : Record) → HasFewOfEach (before ++ r ∷ more) → is_kind_full (kind_of r) before ≡ false
room_for before more r few =
    let k : ℕ = kind_of r in
    room_from k before (λ judged.
    let all : count_of k (before ++ r ∷ more) ≡ count_of k before + count_of k (r ∷ more) = count_of-append k before (r ∷ more) in
    let these : count_of k (r ∷ more) ≡ count_of k (r ∷ []) + count_of k more = count_of-append k (r ∷ []) more in
    let one : count_of k (r ∷ []) ≡ count_of k [] + one_of k r = count_of-push k [] r in
    let none : count_of k [] ≡ 0 = refl in
    omega (arith, few_each k (before ++ r ∷ more) few judged, all, these, one, none, one_of_same k r refl))

-- nothing follows a record's fault
no_record_there : (before more : List Record) (r : Record) (rest end : List ℕ) (at : ℕ) (fault : CedtFault) → HasFewOfEach (before ++ r ∷ more) → Leads rest (r ∷ more) end → record_fault before rest at ≡ Some fault → ⊥
no_record_there before more r rest end at fault few (first, next, whole, text, others) is =
    let none : record_fault before rest at ≡ None = ap (λ (t : List ℕ). record_fault before t at) whole ∙ no_fault_at_record before first next r at text (room_for before more r few) in
    none-some fault (sym none ∙ is)

-- no record begins where nothing is left
nothing_follows : (more : List Record) (end : List ℕ) → Leads [] more end → more ≡ []
nothing_follows [] end h = refl
nothing_follows (r ∷ more) end (first, next, whole, text, others) =
    let long = (is_sound first r text).long in
    absurd (omega (arith, ap length whole, length-append first next))

-- ---- one table

one_list : (text : List ℕ) (rs ss : List Record) → AreRecordTexts text rs → AreRecordTexts text ss → rs ≡ ss
one_list text rs ss h k =
    elim (one_goes_on text rs [] ss [] (leads_to_end text rs h) (leads_to_end text ss k)) [
      | inl (more, is, leads) ↦ sym (is ∙ ap (λ (l : List Record). rs ++ l) (nothing_follows more [] leads) ∙ append-nil rs)
      | inr (more, is, leads) ↦ is ∙ ap (λ (l : List Record). ss ++ l) (nothing_follows more [] leads) ∙ append-nil ss
    ]

pub same_head : {a a' d d' f f' : ℕ} {b b' c c' e e' : List ℕ} → a ≡ a' → b ≡ b' → c ≡ c' → d ≡ d' → e ≡ e' → f ≡ f'
    → ◌≡◌ {A = Head} (record { revision = a; oem_id = b; oem_table = c; oem_revision = d; creator = e; creator_revision = f })
    (record { revision = a'; oem_id = b'; oem_table = c'; oem_revision = d'; creator = e'; creator_revision = f' })
same_head p q r s t u = cc

pub same_table : {h h' : Head} {rs rs' : List Record} → h ≡ h' → rs ≡ rs' → ◌≡◌ {A = CedtFields} (record { head = h; records = rs }) (record { head = h'; records = rs' })
same_table p q = cc

pub one_table : (bytes : List ℕ) (c d : CedtFields) → IsTableText bytes c → IsTableText bytes d → c ≡ d
one_table bytes c d h k =
    same_table
    (same_head (sym h.revision ∙ k.revision) (sym h.oem_id ∙ k.oem_id) (sym h.oem_table ∙ k.oem_table) (sym h.oem_revision ∙ k.oem_revision) (sym h.creator ∙ k.creator) (sym h.creator_revision ∙ k.creator_revision))
    (one_list (drop 36 bytes) c.records d.records h.texts k.texts)

-- ---- the header

pub record HasHeader (bytes : List ℕ) : Type 0 where
  pub long : 36 ≤ length bytes
  pub signature : has_signature bytes ≡ true
  pub length_said : field bytes 4 4 ≡ length bytes
  pub checksum : sum bytes % 256 ≡ 0

pub header_from : (bytes : List ℕ) → header_fault bytes ≡ None → HasHeader bytes
unfolding header_fault
header_from bytes e =
    let a = no_fault_here _ _ _ e in
    let b = no_fault_here _ _ _ a.1 in
    let c = no_fault_here _ _ _ b.1 in
    let d = no_fault_here _ _ _ c.1 in
    record {
      long = ltb-false _ _ a.0;
      signature = not-false _ b.0;
      length_said = eqb-true _ _ (not-false _ c.0);
      checksum = eqb-true _ _ (not-false _ d.0);
    }

pub sound_header : (bytes : List ℕ) → HasHeader bytes → header_fault bytes ≡ None
unfolding header_fault
sound_header bytes h =
    let said : not (eqb (field bytes 4 4) (length bytes)) ≡ false = not_from_true _ (eq-eqb _ _ h.length_said) in
    let sum_is : not (eqb (sum bytes % 256) 0) ≡ false = not_from_true _ (eq-eqb _ _ h.checksum) in
    rw (le-ltb (length bytes) 36 h.long, not_from_true (has_signature bytes) h.signature, said, sum_is) refl

header_of : (bytes : List ℕ) (c : CedtFields) → IsTableText bytes c → HasHeader bytes
header_of bytes c h = record { long = h.long; signature = h.signature; length_said = h.length_said; checksum = h.checksum }

-- ---- a table or a fault, and not both

no_record_fault : (bytes : List ℕ) (c : CedtFields) (fault : CedtFault) → IsTableText bytes c → IsRecordFault bytes fault → ⊥
no_record_fault bytes c fault h k =
    let some = k.more in
    let there : Leads (drop 36 bytes) k.before k.rest = subst (λ (t : List ℕ). Leads t k.before k.rest) (sym k.whole) (leads_from k.front k.rest k.before k.sound) in
    elim (one_goes_on (drop 36 bytes) k.before k.rest c.records [] there (leads_to_end (drop 36 bytes) c.records h.texts)) [
      | inl ([], is, leads) ↦ absurd (omega (arith, ap length leads))
      | inl (r ∷ more, is, leads) ↦ no_record_there k.before more r k.rest [] (36 + length k.front) fault (subst HasFewOfEach is h.few) leads k.fault_is
      | inr ([], is, leads) ↦ absurd (omega (arith, ap length leads))
      | inr (r ∷ more, is, leads) ↦ absurd (omega (arith, ap length (nothing_follows (r ∷ more) k.rest leads)))
    ]

pub not_both : (bytes : List ℕ) (c : CedtFields) (fault : CedtFault) → IsTableText bytes c → FirstTableFault bytes fault → ⊥
not_both bytes c fault h (inl e) = none-some fault (sym (sound_header bytes (header_of bytes c h)) ∙ e)
not_both bytes c fault h (inr (none, k)) = no_record_fault bytes c fault h k

-- ---- one first fault

-- where the one reading of a front goes on, it is the other
same_fault_on : (before more before' : List Record) (front rest front' rest' : List ℕ) (f g : CedtFault) → front ++ rest ≡ front' ++ rest' → HasFewOfEach before'
    → before' ≡ before ++ more → Leads rest more rest' → record_fault before rest (36 + length front) ≡ Some f → record_fault before' rest' (36 + length front') ≡ Some g → f ≡ g
same_fault_on before [] before' front rest front' rest' f g whole few is leads e e' =
    let same : before' ≡ before = is ∙ append-nil before in
    let place : 36 + length front ≡ 36 + length front' = omega (arith, ap length whole, length-append front rest, length-append front' rest', ap length leads) in
    let e'' : record_fault before rest (36 + length front) ≡ Some g =
    ap (λ (l : List Record). record_fault l rest (36 + length front)) (sym same) ∙ ap (λ (t : List ℕ). record_fault before' t (36 + length front)) leads
    ∙ ap (record_fault before' rest') place ∙ e' in
    same_Some f g (sym e ∙ e'')
same_fault_on before (r ∷ more) before' front rest front' rest' f g whole few is leads e e' =
    absurd (no_record_there before more r rest rest' (36 + length front) f (subst HasFewOfEach is few) leads e)

one_record_fault : (bytes : List ℕ) (f g : CedtFault) → IsRecordFault bytes f → IsRecordFault bytes g → f ≡ g
one_record_fault bytes f g h k =
    let whole : h.front ++ h.rest ≡ k.front ++ k.rest = sym h.whole ∙ k.whole in
    let there : Leads (drop 36 bytes) h.before h.rest = subst (λ (t : List ℕ). Leads t h.before h.rest) (sym h.whole) (leads_from h.front h.rest h.before h.sound) in
    let here : Leads (drop 36 bytes) k.before k.rest = subst (λ (t : List ℕ). Leads t k.before k.rest) (sym k.whole) (leads_from k.front k.rest k.before k.sound) in
    elim (one_goes_on (drop 36 bytes) h.before h.rest k.before k.rest there here) [
      | inl (more, is, leads) ↦ same_fault_on h.before more k.before h.front h.rest k.front k.rest f g whole k.few is leads h.fault_is k.fault_is
      | inr (more, is, leads) ↦ sym (same_fault_on k.before more h.before k.front k.rest h.front h.rest g f (sym whole) h.few is leads k.fault_is h.fault_is)
    ]

pub one_fault : (bytes : List ℕ) (f g : CedtFault) → FirstTableFault bytes f → FirstTableFault bytes g → f ≡ g
one_fault bytes f g (inl e) (inl e') = same_Some f g (sym e ∙ e')
one_fault bytes f g (inl e) (inr (none, k)) = absurd (none-some f (sym none ∙ e))
one_fault bytes f g (inr (none, h)) (inl e) = absurd (none-some g (sym none ∙ e))
one_fault bytes f g (inr (none, h)) (inr (none', k)) = one_record_fault bytes f g h k

-- ---- some table or some fault

pub table_from : (bytes : List ℕ) (records : List Record) → HasHeader bytes → AreRecordTexts (drop 36 bytes) records → HasFewOfEach records → HasTable bytes
table_from bytes records h texts few = (
  record { head = head_in bytes; records = records },
  record {
    long = h.long;
    signature = h.signature;
    length_said = h.length_said;
    checksum = h.checksum;
    revision = refl;
    oem_id = refl;
    oem_table = refl;
    oem_revision = refl;
    creator = refl;
    creator_revision = refl;
    texts = texts;
    few = few;
  },
)

read_whole : (bytes : List ℕ) (records : List Record) (rest : List ℕ) (at : ℕ) → HasHeader bytes → AreReadTo bytes records rest at → rest ≡ [] → HasTable bytes
read_whole bytes records rest at h so_far end = table_from bytes records h (all_read bytes records rest at so_far end) so_far.few

-- n records more are enough
scanned : (n : ℕ) (bytes : List ℕ) (before : List Record) (rest : List ℕ) (at : ℕ) → HasHeader bytes → header_fault bytes ≡ None → length rest ≤ n → AreReadTo bytes before rest at → HasTable bytes ⊎ HasFault bytes
scanned n bytes before [] at h none enough so_far = inl (read_whole bytes before [] at h so_far refl)
scanned zero bytes before (b ∷ bs) at h none enough so_far = absurd (omega arith)
scanned (suc n) bytes before (b ∷ bs) at h none enough so_far =
    let rest : List ℕ = b ∷ bs in
    let next : (o : Option CedtFault) → record_fault before rest at ≡ o → HasTable bytes ⊎ HasFault bytes = λ o. elim o as (λ x. record_fault before rest at ≡ x → HasTable bytes ⊎ HasFault bytes) [
      | Some fault ↦ λ is. inr (fault, inr (none, fault_there bytes before rest at fault so_far (omega arith) is))
      | None ↦ λ is.
          let has = has_record before rest at is in
          let size : ℕ = length_said rest in
          scanned n bytes (before ++ record_of (take size rest) ∷ []) (drop size rest) (at + size) h none (omega (arith, has.long, length-drop size rest)) (read_more bytes before rest at size (record_of (take size rest)) so_far has refl refl)
    ] in
    next (record_fault before rest at) refl

pub some_reading : (bytes : List ℕ) → HasTable bytes ⊎ HasFault bytes
some_reading bytes =
    let first : (o : Option CedtFault) → header_fault bytes ≡ o → HasTable bytes ⊎ HasFault bytes = λ o. elim o as (λ x. header_fault bytes ≡ x → HasTable bytes ⊎ HasFault bytes) [
      | Some fault ↦ λ is. inr (fault, inl is)
      | None ↦ λ is. scanned (length bytes) bytes [] (drop 36 bytes) 36 (header_from bytes is) is (omega (arith, length-drop 36 bytes)) (read_none bytes)
    ] in
    first (header_fault bytes) refl

-- ---- what the reader answers

-- the table's text is as long as its bytes
pub texts_length : (text : List ℕ) (rs : List Record) → AreRecordTexts text rs → sum_by record_length rs ≡ length text
texts_length text [] h = ap length (sym h)
texts_length text (r ∷ rs) (first, next, whole, of_r, others) =
    sum_by-cons record_length r rs ∙ omega (arith, text_length first r of_r, texts_length next rs others, ap length whole, length-append first next)

pub size_from : (bytes : List ℕ) (rs : List Record) → 36 ≤ length bytes → AreRecordTexts (drop 36 bytes) rs → length bytes ≡ table_length rs
size_from bytes rs long h = omega (arith, texts_length (drop 36 bytes) rs h, length-drop 36 bytes)

pub fits_from : (bytes : List ℕ) (rs : List Record) → 36 ≤ length bytes → length bytes ≤ file_limit → AreRecordTexts (drop 36 bytes) rs → table_length rs ≤ file_limit
fits_from bytes rs long short h = omega (arith, texts_length (drop 36 bytes) rs h, length-drop 36 bytes)

pub only_table : (bytes : List ℕ) (result : Result CedtFields CedtFault) → IfOk result (λ c. IsTableText bytes c) → IfErr result (λ f. IsFaultOf bytes f)
    → (c : CedtFields) → IsTableText bytes c → IsAnswer result (Ok c)
only_table bytes (Ok d) table fault c h = inl (ap Ok (one_table bytes d c table h))
only_table bytes (Err f) table (inl memory) c h = inr (ap Err memory)
only_table bytes (Err f) table (inr first) c h = absurd (not_both bytes c f h first)

pub only_fault : (bytes : List ℕ) (result : Result CedtFields CedtFault) → IfOk result (λ c. IsTableText bytes c) → IfErr result (λ f. IsFaultOf bytes f)
    → (f : CedtFault) → FirstTableFault bytes f → IsAnswer result (Err f)
only_fault bytes (Ok d) table fault f h = absurd (not_both bytes d f table h)
only_fault bytes (Err g) table (inl memory) f h = inr (ap Err memory)
only_fault bytes (Err g) table (inr first) f h = inl (ap Err (one_fault bytes g f first h))

pub read_alike : (bytes : List ℕ) (one other : Result CedtFields CedtFault) → IsReadAs bytes one → IsReadAs bytes other → IsAnswer one other ⊎ (other ≡ Err Memory)
read_alike bytes one (Ok d) h k = inl (only_table bytes one h.table h.fault d k.table)
read_alike bytes one (Err g) h k =
    elim k.fault [
      | inl memory ↦ inr (ap Err memory)
      | inr first ↦ inl (only_fault bytes one h.table h.fault g first)
    ]
