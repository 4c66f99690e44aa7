-- A text without fault spells one record, and what spells a record is without fault.
use Rattle.std.proofs.Common.{◌≡◌, ℕ, zero, suc, ◌+◌, ◌*◌, ◌<◌, ◌≤◌, Bool, true, false, cond, eqb, List, length, drop, Option, Some, refl, sym, ap, subst, ◌∙◌, ◌⊎◌, inl, inr, arith, length-drop}
use Rattle.std.specs.Prelude.{unwrap_or}
use Rattle.std.proofs.lemmas.Bool.{eq-eqb, ne_eqb}
use Rattle.cxl_enc.specs.Codes.{ways_of}
use Rattle.cxl_table.specs.declared.chbs.Chbs as chbs
use Rattle.cxl_table.specs.declared.cedt.Record.{Record}
use Rattle.cxl_table.specs.declared.cedt.Record.TheVariants.{Chbs, Cfmws, Cxims, Other}
use Rattle.cxl_table.specs.Fields.{CfmwsFields, CximsFields, OtherFields}
use Rattle.cxl_table.specs.Records.{kind_of, record_length}
use Rattle.cxl_cedt.specs.Table.{field, fields, HasFrame, IsChbsText, IsCfmwsText, IsCximsText, IsOtherText, IsRecordText, kind_said, length_said, ways_said}
use Rattle.cxl_cedt.specs.inner.Decoding.{known_ways, IsSoundText, IsSoundWindow, chbs_of, cfmws_of, cxims_of, other_of, record_of}
use Rattle.cxl_cedt.proofs.Places.{length-fields}

-- ---- the type decides

kinds : (k : ℕ) → (k ≡ 0) ⊎ ((k ≡ 1) ⊎ ((k ≡ 2) ⊎ (2 < k)))
kinds zero = inl refl
kinds (suc zero) = inr (inl refl)
kinds (suc (suc zero)) = inr (inr (inl refl))
kinds (suc (suc (suc k))) = inr (inr (inr (omega arith)))

of_chbs : (text : List ℕ) → kind_said text ≡ 0 → record_of text ≡ Chbs (chbs_of text)
unfolding record_of
of_chbs text k = rw (eq-eqb (kind_said text) 0 k) refl

of_cfmws : (text : List ℕ) → kind_said text ≡ 1 → record_of text ≡ Cfmws (cfmws_of text)
unfolding record_of
of_cfmws text k = rw (ne_eqb (kind_said text) 0 (λ e. absurd (omega (arith, k, e))), eq-eqb (kind_said text) 1 k) refl

of_cxims : (text : List ℕ) → kind_said text ≡ 2 → record_of text ≡ Cxims (cxims_of text)
unfolding record_of
of_cxims text k = rw (ne_eqb (kind_said text) 0 (λ e. absurd (omega (arith, k, e))), ne_eqb (kind_said text) 1 (λ e. absurd (omega (arith, k, e))), eq-eqb (kind_said text) 2 k) refl

pub of_other : (text : List ℕ) → 2 < kind_said text → record_of text ≡ Other (other_of text)
unfolding record_of
of_other text k = rw (ne_eqb (kind_said text) 0 (λ e. absurd (omega (arith, k, e))), ne_eqb (kind_said text) 1 (λ e. absurd (omega (arith, k, e))), ne_eqb (kind_said text) 2 (λ e. absurd (omega (arith, k, e)))) refl

-- ---- a text without fault spells the record that is read of it

as_bit : (n : ℕ) → n ≤ 1 → n ≡ cond (eqb n 1) 1 0
as_bit zero h = refl
as_bit (suc zero) h = refl
as_bit (suc (suc n)) h = absurd (omega arith)

spelled_chbs : (text : List ℕ) → IsSoundText text → kind_said text ≡ 0 → IsChbsText text (chbs_of text)
unfolding chbs_of
spelled_chbs text h k = record {
  frame = record { kind_is = k; length_said = h.said ∙ h.chbs k; length_is = h.chbs k };
  uid = refl;
  version = refl;
  base = refl;
  register_length = refl;
}

spelled_cfmws : (text : List ℕ) → IsSoundText text → kind_said text ≡ 1 → IsCfmwsText text (cfmws_of text)
unfolding cfmws_of
spelled_cfmws text h k =
    let w = h.window k in
    let count : length (fields text 36 4 (known_ways text)) ≡ known_ways text = length-fields text 36 4 (known_ways text) in
    let size : length text ≡ 36 + 4 * length (fields text 36 4 (known_ways text)) = omega (arith, count, w.size) in
    record {
      frame = record { kind_is = k; length_said = h.said ∙ size; length_is = size };
      base = refl;
      size = refl;
      ways = refl;
      ways_known = w.ways ∙ ap Some (sym count);
      arithmetic = as_bit (field text 25 1) w.arithmetic;
      gran = refl;
      gran_known = w.gran;
      restrict = refl;
      qtg = refl;
      targets = ap (fields text 36 4) count;
    }

spelled_cxims : (text : List ℕ) → IsSoundText text → kind_said text ≡ 2 → IsCximsText text (cxims_of text)
unfolding cxims_of
spelled_cxims text h k =
    let m = h.maps k in
    let count : length (fields text 8 8 (field text 7 1)) ≡ field text 7 1 = length-fields text 8 8 (field text 7 1) in
    let size : length text ≡ 8 + 8 * length (fields text 8 8 (field text 7 1)) = m.size ∙ ap (λ (n : ℕ). 8 + 8 * n) (sym count) in
    record {
      frame = record { kind_is = k; length_said = h.said ∙ size; length_is = size };
      gran = refl;
      gran_known = m.gran;
      count = sym count;
      maps = ap (fields text 8 8) count;
    }

spelled_other : (text : List ℕ) → IsSoundText text → 2 < kind_said text → IsOtherText text (other_of text)
unfolding other_of
spelled_other text h k =
    let long = h.long in
    let size : length text ≡ 4 + length (drop 4 text) = omega (arith, length-drop 4 text) in
    record {
      frame = record { kind_is = refl; length_said = h.said ∙ size; length_is = size };
      other = k;
      reserved = refl;
      body = refl;
    }

pub spelled : (text : List ℕ) → IsSoundText text → IsRecordText text (record_of text)
spelled text h =
    elim (kinds (kind_said text)) [
      | inl k ↦ subst (IsRecordText text) (sym (of_chbs text k)) (spelled_chbs text h k)
      | inr (inl k) ↦ subst (IsRecordText text) (sym (of_cfmws text k)) (spelled_cfmws text h k)
      | inr (inr (inl k)) ↦ subst (IsRecordText text) (sym (of_cxims text k)) (spelled_cxims text h k)
      | inr (inr (inr k)) ↦ subst (IsRecordText text) (sym (of_other text k)) (spelled_other text h k)
    ]

-- ---- what spells a record spells the one that is read of it

from_bit : (b : Bool) (n : ℕ) → n ≡ cond b 1 0 → eqb n 1 ≡ b
from_bit true n e = eq-eqb n 1 e
from_bit false n e = ne_eqb n 1 (λ o. absurd (omega (arith, e, o)))

same_chbs : {a a' b b' c c' d d' : ℕ} → a ≡ a' → b ≡ b' → c ≡ c' → d ≡ d'
    → ◌≡◌ {A = chbs.Chbs} (record { uid = a; version = b; base = c; length = d }) (record { uid = a'; version = b'; base = c'; length = d' })
same_chbs p q r s = cc

pub same_cfmws : {a a' b b' c c' d d' e e' f f' : ℕ} {x x' : Bool} {t t' : List ℕ} → a ≡ a' → b ≡ b' → c ≡ c' → x ≡ x' → d ≡ d' → e ≡ e' → f ≡ f' → t ≡ t'
    → ◌≡◌ {A = CfmwsFields} (record { base = a; size = b; ways = c; xor = x; gran = d; restrict = e; qtg = f; targets = t })
    (record { base = a'; size = b'; ways = c'; xor = x'; gran = d'; restrict = e'; qtg = f'; targets = t' })
same_cfmws p q r s t u v w = cc

same_cxims : {a a' : ℕ} {t t' : List ℕ} → a ≡ a' → t ≡ t' → ◌≡◌ {A = CximsFields} (record { gran = a; maps = t }) (record { gran = a'; maps = t' })
same_cxims p q = cc

same_other : {a a' b b' : ℕ} {t t' : List ℕ} → a ≡ a' → b ≡ b' → t ≡ t' → ◌≡◌ {A = OtherFields} (record { kind = a; reserved = b; body = t }) (record { kind = a'; reserved = b'; body = t' })
same_other p q r = cc

-- the ways that a window's text says are as many as its targets
said_ways : (text : List ℕ) (c : CfmwsFields) → IsCfmwsText text c → ways_said text ≡ Some (length c.targets)
said_ways text c h = ap ways_of h.ways ∙ h.ways_known

count_ways : (text : List ℕ) (c : CfmwsFields) → IsCfmwsText text c → known_ways text ≡ length c.targets
count_ways text c h = ap (λ (o : Option ℕ). unwrap_or o 0) (said_ways text c h)

chbs_is : (text : List ℕ) (c : chbs.Chbs) → IsChbsText text c → chbs_of text ≡ c
unfolding chbs_of
chbs_is text c h = same_chbs h.uid h.version h.base h.register_length

cfmws_is : (text : List ℕ) (c : CfmwsFields) → IsCfmwsText text c → cfmws_of text ≡ c
unfolding cfmws_of
cfmws_is text c h =
    same_cfmws h.base h.size h.ways (from_bit c.xor (field text 25 1) h.arithmetic) h.gran h.restrict h.qtg
    (ap (fields text 36 4) (count_ways text c h) ∙ h.targets)

cxims_is : (text : List ℕ) (c : CximsFields) → IsCximsText text c → cxims_of text ≡ c
unfolding cxims_of
cxims_is text c h = same_cxims h.gran (ap (fields text 8 8) h.count ∙ h.maps)

other_is : (text : List ℕ) (c : OtherFields) → IsOtherText text c → other_of text ≡ c
unfolding other_of
other_is text c h = same_other h.frame.kind_is h.reserved h.body

pub decoded : (text : List ℕ) (r : Record) → IsRecordText text r → record_of text ≡ r
decoded text (Chbs c) h = of_chbs text h.frame.kind_is ∙ ap Chbs (chbs_is text c h)
decoded text (Cfmws c) h = of_cfmws text h.frame.kind_is ∙ ap Cfmws (cfmws_is text c h)
decoded text (Cxims c) h = of_cxims text h.frame.kind_is ∙ ap Cxims (cxims_is text c h)
decoded text (Other c) h = of_other text (rw h.frame.kind_is h.other) ∙ ap Other (other_is text c h)

-- ---- what spells a record is without fault

pub said_kind : (text : List ℕ) (r : Record) → IsRecordText text r → kind_said text ≡ kind_of r
said_kind text (Chbs c) h = h.frame.kind_is
said_kind text (Cfmws c) h = h.frame.kind_is
said_kind text (Cxims c) h = h.frame.kind_is
said_kind text (Other c) h = h.frame.kind_is

pub text_length : (text : List ℕ) (r : Record) → IsRecordText text r → length text ≡ record_length r
text_length text (Chbs c) h = h.frame.length_is
text_length text (Cfmws c) h = h.frame.length_is
text_length text (Cxims c) h = h.frame.length_is
text_length text (Other c) h = h.frame.length_is

said_length : (text : List ℕ) (kind size : ℕ) → HasFrame text kind size → length_said text ≡ length text
said_length text kind size h = h.length_said ∙ sym h.length_is

-- the type is not another one
other_kind : {A : Type 0} (text : List ℕ) (kind size k : ℕ) → HasFrame text kind size → (kind ≡ k → ⊥) → kind_said text ≡ k → A
other_kind text kind size k h ne e = absurd (ne (sym h.kind_is ∙ e))

bit_small : (b : Bool) (n : ℕ) → n ≡ cond b 1 0 → n ≤ 1
bit_small true n e = omega arith
bit_small false n e = omega arith

sound_window : (text : List ℕ) (c : CfmwsFields) → IsCfmwsText text c → IsSoundWindow text
sound_window text c h =
    let count = count_ways text c h in
    record {
      ways = said_ways text c h ∙ ap Some (sym count);
      size = h.frame.length_is ∙ ap (λ (n : ℕ). 36 + 4 * n) (sym count);
      gran = rw h.gran h.gran_known;
      arithmetic = bit_small c.xor (field text 25 1) h.arithmetic;
    }

pub is_sound : (text : List ℕ) (r : Record) → IsRecordText text r → IsSoundText text
is_sound text (Chbs c) h = record {
  said = said_length text _ _ h.frame;
  long = omega (arith, h.frame.length_is);
  chbs = λ k. h.frame.length_is;
  window = λ k. other_kind text _ _ 1 h.frame (λ e. absurd (omega (arith, e))) k;
  maps = λ k. other_kind text _ _ 2 h.frame (λ e. absurd (omega (arith, e))) k;
}
is_sound text (Cfmws c) h = record {
  said = said_length text _ _ h.frame;
  long = omega (arith, h.frame.length_is);
  chbs = λ k. other_kind text _ _ 0 h.frame (λ e. absurd (omega (arith, e))) k;
  window = λ k. sound_window text c h;
  maps = λ k. other_kind text _ _ 2 h.frame (λ e. absurd (omega (arith, e))) k;
}
is_sound text (Cxims c) h = record {
  said = said_length text _ _ h.frame;
  long = omega (arith, h.frame.length_is);
  chbs = λ k. other_kind text _ _ 0 h.frame (λ e. absurd (omega (arith, e))) k;
  window = λ k. other_kind text _ _ 1 h.frame (λ e. absurd (omega (arith, e))) k;
  maps = λ k. record {
    size = h.frame.length_is ∙ ap (λ (n : ℕ). 8 + 8 * n) (sym h.count);
    gran = rw h.gran h.gran_known;
  };
}
is_sound text (Other c) h = record {
  said = said_length text _ _ h.frame;
  long = omega (arith, h.frame.length_is);
  chbs = λ k. other_kind text _ _ 0 h.frame (λ e. absurd (omega (arith, e, h.other))) k;
  window = λ k. other_kind text _ _ 1 h.frame (λ e. absurd (omega (arith, e, h.other))) k;
  maps = λ k. other_kind text _ _ 2 h.frame (λ e. absurd (omega (arith, e, h.other))) k;
}
