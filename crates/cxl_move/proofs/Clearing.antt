-- The spans of a region are scrubbed, one after the other.
use Rattle.std.proofs.Common.{◌≡◌, ℕ, zero, suc, ◌+◌, ◌*◌, ◌<◌, ◌≤◌, ◌&&◌, ◌||◌, Bool, true, false, cond, not, eqb, leb, ltb, List, [], ◌∷◌, length, get_or, take, ◌++◌, Option, Some, None, refl, sym, ap, subst, ◌∙◌, inl, inr, arith}
use Rattle.std.specs.Prelude.{slice_get}
use Rattle.std.specs.List.{list_any}
use Rattle.std.specs.FinMap as map
use Rattle.std.proofs.lemmas.Bool.{and_parts, and_from, or_cases, or_left, or_right, eq-eqb, le-leb, lt-ltb, eqb-true, leb-true, ltb-true, cond-true, cond-false, false_from_ne_true, false≢true}
use Rattle.std.proofs.lemmas.List.{take_more, take_all}
use Rattle.std.proofs.lemmas.Option.{none-some, same_Some}
use Rattle.cxl_media.specs.Blocks.{Key, Blocks, is_between, scrubbed}
use Rattle.cxl_model.specs.declared.found.Found.{Found}
use Rattle.cxl_model.specs.declared.found.Place.{Place}
use Rattle.cxl_model.specs.Bytes.{slot_length}
use Rattle.cxl_move.specs.Sides.{IsCleared}
use Rattle.cxl_move.proofs.Steps.{get-scrubbed}

-- the block lies in the span of this length that begins at the place
abbrev pub is_in_span : ℕ → Key → Place → Bool
is_in_span len key place = is_between place.endpoint place.start (place.start + len) key

-- the blocks of these spans are gone
abbrev pub AreScrubbed : ℕ → List Place → Blocks → Blocks → Type 0
AreScrubbed len places old new = (key : Key) → map.get new key ≡ cond (list_any (is_in_span len key) places) None (map.get old key)

pub any-append : {X : Type 0} (p : X → Bool) (xs : List X) (x : X) → list_any p (xs ++ x ∷ []) ≡ (list_any p xs || p x)
any-append p [] x = or_false (p x)
  where
    or_false : (b : Bool) → (b || false) ≡ b
    or_false true = refl
    or_false false = refl
any-append p (y ∷ ys) x = ap (λ b. p y || b) (any-append p ys x) ∙ grouped (p y) (list_any p ys) (p x)
  where
    grouped : (a b c : Bool) → (a || (b || c)) ≡ ((a || b) || c)
    grouped true b c = refl
    grouped false b c = refl

one_more : (a b : Bool) (o : Option (List ℕ)) → cond (not b) (cond a None o) None ≡ cond (a || b) None o
one_more true true o = refl
one_more true false o = refl
one_more false true o = refl
one_more false false o = refl

pub scrubbed_more : (len : ℕ) (places : List Place) (i : ℕ) (d : Place) (old mid new : Blocks) → i < length places → AreScrubbed len (take i places) old mid
    → new ≡ scrubbed mid (get_or places i d).endpoint (get_or places i d).start ((get_or places i d).start + len) → AreScrubbed len (take (i + 1) places) old new
scrubbed_more len places i d old mid new within before scrub key =
    let place : Place = get_or places i d in
    ap (λ (m : Blocks). map.get m key) scrub
    ∙ get-scrubbed mid place.endpoint place.start (place.start + len) key
    ∙ ap (λ (o : Option (List ℕ)). cond (not (is_in_span len key place)) o None) (before key)
    ∙ one_more (list_any (is_in_span len key) (take i places)) (is_in_span len key place) (map.get old key)
    ∙ ap (λ b. cond b None (map.get old key)) (sym (ap (list_any (is_in_span len key)) (take_more places i d within) ∙ any-append (is_in_span len key) (take i places) place))

-- ---- all of them

any_at : (len endpoint block : ℕ) (places : List Place) (slot : ℕ) (place : Place) → slice_get places slot ≡ Some place → place.endpoint ≡ endpoint → place.start ≤ 256 * block → 256 * block < place.start + len
    → list_any (is_in_span len (endpoint, block)) places ≡ true
any_at len endpoint block [] slot place there here from below = absurd (none-some place there)
any_at len endpoint block (p ∷ ps) zero place there here from below =
    let same = same_Some p place there in
    let start = ap (λ (q : Place). q.start) same in
    or_left (is_in_span len (endpoint, block) p) (list_any (is_in_span len (endpoint, block)) ps)
    (and_from (eqb endpoint p.endpoint) (leb p.start (256 * block) && ltb (256 * block) (p.start + len)) (eq-eqb endpoint p.endpoint (sym (ap (λ (q : Place). q.endpoint) same ∙ here)))
    (and_from (leb p.start (256 * block)) (ltb (256 * block) (p.start + len)) (le-leb p.start (256 * block) (omega (arith, start, from))) (lt-ltb (256 * block) (p.start + len) (omega (arith, start, below)))))
any_at len endpoint block (p ∷ ps) (suc slot) place there here from below =
    or_right (is_in_span len (endpoint, block) p) (list_any (is_in_span len (endpoint, block)) ps) (any_at len endpoint block ps slot place there here from below)

-- a span in which the block lies
record SpanAt (len endpoint block : ℕ) (places : List Place) : Type 0 where
  slot : ℕ
  place : Place
  there : slice_get places slot ≡ Some place
  here : place.endpoint ≡ endpoint
  from : place.start ≤ 256 * block
  below : 256 * block < place.start + len

span_at : (len endpoint block : ℕ) (places : List Place) → list_any (is_in_span len (endpoint, block)) places ≡ true → SpanAt len endpoint block places
span_at len endpoint block [] any = absurd (false≢true any)
span_at len endpoint block (p ∷ ps) any =
    elim (or_cases (is_in_span len (endpoint, block) p) (list_any (is_in_span len (endpoint, block)) ps) any) [
      | inl is ↦
          let parts = and_parts (eqb endpoint p.endpoint) (leb p.start (256 * block) && ltb (256 * block) (p.start + len)) is in
          let inside = and_parts (leb p.start (256 * block)) (ltb (256 * block) (p.start + len)) parts.1 in
          record {
            slot = 0;
            place = p;
            there = refl;
            here = sym (eqb-true endpoint p.endpoint parts.0);
            from = leb-true p.start (256 * block) inside.0;
            below = ltb-true (256 * block) (p.start + len) inside.1;
          }
      | inr later ↦
          let rest = span_at len endpoint block ps later in
          record { slot = suc rest.slot; place = rest.place; there = rest.there; here = rest.here; from = rest.from; below = rest.below }
    ]

pub cleared_all : (found : Found) (len i : ℕ) (places : List Place) (old new : Blocks) → len ≡ slot_length found → places ≡ found.spans → length places ≤ i → AreScrubbed len (take i places) old new → IsCleared found old new
cleared_all found len i places old new long same past scrub = record {
  gone = λ endpoint block lies.
      whole (endpoint, block)
      ∙ cond-true _ None (map.get old (endpoint, block)) (any_at (slot_length found) endpoint block found.spans lies.slot lies.place lies.there lies.here lies.from lies.below);
  others = λ endpoint block beside.
      whole (endpoint, block)
      ∙ cond-false _ None (map.get old (endpoint, block)) (false_from_ne_true (list_any (is_in_span (slot_length found) (endpoint, block)) found.spans) (λ any.
      let at = span_at (slot_length found) endpoint block found.spans any in
      beside (record { slot = at.slot; place = at.place; there = at.there; here = at.here; from = at.from; below = at.below })));
}
  where
    whole : AreScrubbed (slot_length found) found.spans old new
    whole = subst (λ (n : ℕ). AreScrubbed n found.spans old new) long (subst (λ (ps : List Place). AreScrubbed len ps old new) (take_all i places past ∙ same) scrub)
