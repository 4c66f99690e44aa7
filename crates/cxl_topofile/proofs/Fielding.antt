-- The slots of keys, and the values in them after one more entry.
use Rattle.std.proofs.Common.{◌≡◌, ◌≢◌, ℕ, ◌<◌, ◌==◌, Bool, true, false, not, ◌||◌, List, [], ◌∷◌, length, get_or, set, map, Option, Some, None, option_map, cond, Bor, Ordering, Less, Equal, Greater, nat_cmp, is_eq, refl, sym, ap, ◌∙◌}
use Rattle.std.specs.List.{list_any}
use Rattle.std.specs.Option.{option_or, unwrap_or}
use Rattle.std.specs.Ordering.{match_ordering}
use Rattle.std.specs.Str.{bytes_eq}
use Rattle.std.specs.Cmp.Lexicographic.{slice_cmp}
use Rattle.std.proofs.lemmas.Bool.{false≢true}
use Rattle.std.proofs.lemmas.List.{get_or-set_same, get_or-set_other}
use Rattle.std.proofs.lemmas.Bool.Decides.{same_from_decides, Decides-eqb, Decides-like}
use Rattle.std.proofs.lemmas.Map.Text.{is_eq-slice_cmp}
use Rattle.std.proofs.lemmas.Option.{same_Some}
use Rattle.std.proofs.lemmas.Slice.Eq.{bytes_eq-Decides}
use Rattle.toml.specs.Data.{Data, Members, member, get_member}
use Rattle.toml.specs.View.{view}
use Rattle.toml.specs.declared.value.Value.{Value}
use Rattle.cxl_topofile.specs.declared.key.Key.{Key}
use Rattle.cxl_topofile.specs.declared.key.Key.TheVariants as keys
use Rattle.cxl_topofile.specs.Keys.{key_text, is_key}
use Rattle.cxl_topofile.specs.inner.Fields.{all_keys, first_key, key_of, slot_of, slot_by, slot_at, value_in}

-- ---- a slot is of one text

own_slot : (key : Key) → slot_at (key_text key) ≡ slot_of key
own_slot keys.Frames = refl
own_slot keys.Bridge = refl
own_slot keys.Switch = refl
own_slot keys.Endpoint = refl
own_slot keys.Name = refl
own_slot keys.Uid = refl
own_slot keys.Parent = refl
own_slot keys.Port = refl
own_slot keys.Decoders = refl
own_slot keys.Targets = refl
own_slot keys.Low = refl
own_slot keys.High = refl
own_slot keys.Passthrough = refl
own_slot keys.Ways3 = refl
own_slot keys.Ways16 = refl
own_slot keys.Ram = refl
own_slot keys.Pmem = refl
own_slot keys.Unknown = refl

-- the text of a slot
abbrev text_in : ℕ → List ℕ → List ℕ
text_in slot other = get_or (map key_text all_keys) slot other

text_in-own : (key : Key) (other : List ℕ) → text_in (slot_of key) other ≡ key_text key
text_in-own keys.Frames other = refl
text_in-own keys.Bridge other = refl
text_in-own keys.Switch other = refl
text_in-own keys.Endpoint other = refl
text_in-own keys.Name other = refl
text_in-own keys.Uid other = refl
text_in-own keys.Parent other = refl
text_in-own keys.Port other = refl
text_in-own keys.Decoders other = refl
text_in-own keys.Targets other = refl
text_in-own keys.Low other = refl
text_in-own keys.High other = refl
text_in-own keys.Passthrough other = refl
text_in-own keys.Ways3 other = refl
text_in-own keys.Ways16 other = refl
text_in-own keys.Ram other = refl
text_in-own keys.Pmem other = refl
text_in-own keys.Unknown other = refl

spelled_if : (text : List ℕ) (k : Key) (b : Bool) (rest : Option Key) (key : Key) → bytes_eq text (key_text k) ≡ b → (rest ≡ Some key → text ≡ key_text key) → cond b (Some k) rest ≡ Some key → text ≡ key_text key
spelled_if text k true rest key same later is = (bytes_eq-Decides text (key_text k)).0 same ∙ ap key_text (same_Some k key is)
spelled_if text k false rest key differ later is = later is

spelled : (text : List ℕ) (ks : List Key) (key : Key) → first_key text ks ≡ Some key → text ≡ key_text key
spelled text [] key is = absurd cc
spelled text (k ∷ ks) key is = spelled_if text k (bytes_eq text (key_text k)) (first_key text ks) key refl (λ later. spelled text ks key later) is

text_in-at : (text : List ℕ) → text_in (slot_at text) text ≡ text
text_in-at text = go (key_of text) refl
  where
    go : (found : Option Key) → key_of text ≡ found → text_in (slot_by found) text ≡ text
    go None is = refl
    go (Some key) is = text_in-own key text ∙ sym (spelled text all_keys key is)

-- a text is that of a key where its slot is the key's
pub by_slot : (key : Key) (text : List ℕ) → bytes_eq (key_text key) text ≡ (slot_of key == slot_at text)
by_slot key text =
    let slots : key_text key ≡ text → slot_of key ≡ slot_at text = λ same. sym (own_slot key) ∙ ap slot_at same in
    let texts : slot_of key ≡ slot_at text → key_text key ≡ text = λ same. sym (text_in-own key text) ∙ ap (λ slot. text_in slot text) same ∙ text_in-at text in
    same_from_decides (bytes_eq (key_text key) text) (slot_of key == slot_at text) (bytes_eq-Decides (key_text key) text)
    (Decides-like (slot_of key == slot_at text) texts slots (Decides-eqb (slot_of key) (slot_at text)))

pub one_of : (text : List ℕ) (ks : List Key) → is_key text ks ≡ list_any (λ key. slot_of key == slot_at text) ks
one_of text [] = refl
one_of text (k ∷ ks) = ap (λ b. b || is_key text ks) (by_slot k text) ∙ ap (λ b. (slot_of k == slot_at text) || b) (one_of text ks)

-- ---- one more entry

at_member : (o : Ordering) (here rest : Option Data) → match_ordering o rest here rest ≡ cond (is_eq o) here rest
at_member Less here rest = refl
at_member Equal here rest = refl
at_member Greater here rest = refl

-- what a table with one more entry in front has at a key
pub more_members : (key : Key) (text : List ℕ) (datum : Data) (rest : Members)
    → get_member (key_text key) (member text datum rest) ≡ cond (slot_of key == slot_at text) (Some datum) (get_member (key_text key) rest)
more_members key text datum rest =
    at_member (slice_cmp nat_cmp (key_text key) text) (Some datum) (get_member (key_text key) rest)
    ∙ ap (λ b. cond b (Some datum) (get_member (key_text key) rest)) (is_eq-slice_cmp (key_text key) text ∙ by_slot key text)

abbrev seen : Option (Bor Value) → Option Data
seen = option_map (λ v. view v.now)

module _ (values : List (Option (Bor Value))) (slot : ℕ) (value first : Bor Value) (within : slot < length values) (first_is : first ≡ unwrap_or (get_or values slot None) value) where
  own_value : (o : Option (Bor Value)) → first ≡ unwrap_or o value → Some (view first.now) ≡ option_or (seen o) (Some (view value.now))
  own_value None is = ap (λ (v : Bor Value). Some (view v.now)) is
  own_value (Some v) is = ap (λ (v : Bor Value). Some (view v.now)) is

  or_none : (o : Option Data) → o ≡ option_or o None
  or_none None = refl
  or_none (Some datum) = refl

  entered_if : (key : Key) (b : Bool) → (slot_of key == slot) ≡ b → value_in (set values slot (Some first)) key ≡ option_or (value_in values key) (cond b (Some (view value.now)) None)
  entered_if key true e =
      let at : slot_of key ≡ slot = (Decides-eqb (slot_of key) slot).0 e in
      ap (λ n. seen (get_or (set values slot (Some first)) n None)) at
      ∙ ap seen (get_or-set_same values slot (Some first) None within)
      ∙ own_value (get_or values slot None) first_is
      ∙ ap (λ n. option_or (seen (get_or values n None)) (Some (view value.now))) (sym at)
  entered_if key false e =
      let apart : slot_of key ≢ slot = λ at. false≢true (sym e ∙ (Decides-eqb (slot_of key) slot).1 at) in
      ap seen (get_or-set_other values slot (slot_of key) (Some first) None apart) ∙ or_none (value_in values key)

  -- what stands in the slot of a key, once this value is in its slot
  entered : (key : Key) → value_in (set values slot (Some first)) key ≡ option_or (value_in values key) (cond (slot_of key == slot) (Some (view value.now)) None)
  entered key = entered_if key (slot_of key == slot) refl

  regroup : (o : Option Data) (b : Bool) (datum : Data) (rest : Option Data) → option_or (option_or o (cond b (Some datum) None)) rest ≡ option_or o (cond b (Some datum) rest)
  regroup None true datum rest = refl
  regroup None false datum rest = refl
  regroup (Some x) b datum rest = refl

  -- the slots and the other entries have what they had together
  pub keeps_each : (text : List ℕ) → slot ≡ slot_at text → (key : Key) (rest : Members) → option_or (value_in (set values slot (Some first)) key) (get_member (key_text key) rest)
      ≡ option_or (value_in values key) (get_member (key_text key) (member text (view value.now) rest))
  keeps_each text slot_is key rest =
      let behind = get_member (key_text key) rest in
      ap (λ o. option_or o behind) (entered key)
      ∙ regroup (value_in values key) (slot_of key == slot) (view value.now) behind
      ∙ ap (λ n. option_or (value_in values key) (cond (slot_of key == n) (Some (view value.now)) behind)) slot_is
      ∙ ap (option_or (value_in values key)) (sym (more_members key text (view value.now) rest))

-- whether there is another key, in this entry or behind it
pub keeps_others : (others unknown : Bool) (text : List ℕ) (ks : List Key)
    → ((others || not (list_any (λ key. slot_of key == slot_at text) ks)) || unknown) ≡ (others || (not (is_key text ks) || unknown))
keeps_others true unknown text ks = refl
keeps_others false unknown text ks = ap (λ b. not b || unknown) (sym (one_of text ks))

-- the test of a slot, as that of its text
pub other_slot : (ks : List Key) (slot : ℕ) (text : List ℕ) → slot ≡ slot_at text → list_any (λ key. slot_of key == slot) ks ≡ list_any (λ key. slot_of key == slot_at text) ks
other_slot ks slot text same = ap (λ n. list_any (λ key. slot_of key == n) ks) same
