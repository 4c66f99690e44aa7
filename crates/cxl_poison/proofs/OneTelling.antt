-- What a poison record touches is told in one way.
use Rattle.std.proofs.Common.{◌≡◌, ℕ, zero, suc, ◌+◌, ◌-◌, ◌<◌, ◌⊎◌, List, [], ◌∷◌, ◌++◌, length, map, get_or, Option, Some, None, refl, sym, ap, subst, ◌∙◌, inl, inr, arith}
use Rattle.std.specs.Prelude.{slice_get, AllPairs, Contains, IsSomeAnd}
use Rattle.std.proofs.lemmas.Option.{same_Some}
use Rattle.cxl_window.specs.Fields.{WindowFields}
use Rattle.cxl_model.specs.declared.found.Found.{Found}
use Rattle.cxl_model.specs.declared.poison.Entry.{Entry}
use Rattle.cxl_model.specs.declared.poison.Part.{Part}
use Rattle.cxl_model.specs.declared.poison.Part.TheVariants as parts
use Rattle.cxl_model.specs.declared.poison.Run.{Run}
use Rattle.cxl_model.specs.declared.poison.Wide.{Wide}
use Rattle.cxl_model.specs.declared.poison.Poisoned.{Poisoned}
use Rattle.cxl_model.specs.System.{System, IsSystem}
use Rattle.cxl_model.specs.Regions.{IsRegionIn, Carries}
use Rattle.cxl_poison.specs.declared.live.LiveSpan.{LiveSpan}
use Rattle.cxl_poison.specs.Live.{AreLive, IsLiveSpan, AreLiveSpans}
use Rattle.cxl_poison.specs.Pieces.{Cut, cuts_of, BeginsCut, IsRunOf, AreRunsOf, none, next, IsWideOf, ArePartsOf, few, many, ArePartsIn, ArePartsInAll, unmapped_count, ArePoisonedPieces}
use Rattle.cxl_poison.proofs.Pieced.{WindowsThere, region_in}

-- ---- the spans in order

abbrev pub Rises : List LiveSpan → Type 0
Rises spans = AllPairs (λ a b. a.start < b.start) spans

pub rest_rises : (x : LiveSpan) (xs : List LiveSpan) → Rises (x ∷ xs) → Rises xs
rest_rises x xs rises i j d less within = rises (suc i) (suc j) d (omega arith) (omega arith)

pub first_below : (x : LiveSpan) (xs : List LiveSpan) (z : LiveSpan) → Rises (x ∷ xs) → Contains xs z → x.start < z.start
first_below x xs z rises at = subst (λ (y : LiveSpan). x.start < y.start) at.2 (rises 0 (suc at.0) z (omega arith) (let within = at.1 in omega arith))

pub in_either : (x : LiveSpan) (xs : List LiveSpan) (z : LiveSpan) → Contains (x ∷ xs) z → (x ≡ z) ⊎ Contains xs z
in_either x xs z at = go at.0 at.1 at.2
  where
    go : (k : ℕ) → k < length (x ∷ xs) → get_or (x ∷ xs) k z ≡ z → (x ≡ z) ⊎ Contains xs z
    go zero within is = inl is
    go (suc k) within is = inr (k, omega arith, is)

pub at_first : (x : LiveSpan) (xs : List LiveSpan) → Contains (x ∷ xs) x
at_first x xs = (0, omega arith, refl)

pub in_rest : (x : LiveSpan) (xs : List LiveSpan) (z : LiveSpan) → Contains xs z → Contains (x ∷ xs) z
in_rest x xs z at = let within = at.1 in (suc at.0, omega arith, at.2)

-- the first spans of two lists of the same spans are one
same_first : (x y : LiveSpan) (xs ys : List LiveSpan) → Rises (x ∷ xs) → Rises (y ∷ ys) → Contains (y ∷ ys) x → Contains (x ∷ xs) y → x ≡ y
same_first x y xs ys x_rises y_rises x_in y_in = elim (in_either y ys x x_in) [
  | inl same ↦ sym same
  | inr later ↦ elim (in_either x xs y y_in) [
    | inl same ↦ same
    | inr other ↦
        let one = first_below y ys x y_rises later in
        let two = first_below x xs y x_rises other in
        absurd (omega (arith, one, two))
  ]
]

-- a span of the rest is none of the first
pub rest_in : (x y : LiveSpan) (xs ys : List LiveSpan) → x ≡ y → Rises (x ∷ xs) → ((z : LiveSpan) → Contains (x ∷ xs) z → Contains (y ∷ ys) z) → (z : LiveSpan) → Contains xs z → Contains ys z
rest_in x y xs ys same rises to z at = elim (in_either y ys z (to z (in_rest x xs z at))) [
  | inr there ↦ there
  | inl first ↦
      let below = first_below x xs z rises at in
      let start : x.start ≡ z.start = ap (λ (s : LiveSpan). s.start) (same ∙ first) in
      absurd (omega (arith, below, start))
]

one_order : (xs ys : List LiveSpan) → Rises xs → Rises ys → ((z : LiveSpan) → Contains xs z → Contains ys z) → ((z : LiveSpan) → Contains ys z → Contains xs z) → xs ≡ ys
one_order [] [] x_rises y_rises to back = refl
one_order [] (y ∷ ys) x_rises y_rises to back = absurd (let at = back y (at_first y ys) in let within = at.1 in omega arith)
one_order (x ∷ xs) [] x_rises y_rises to back = absurd (let at = to x (at_first x xs) in let within = at.1 in omega arith)
one_order (x ∷ xs) (y ∷ ys) x_rises y_rises to back =
    let same : x ≡ y = same_first x y xs ys x_rises y_rises (to x (at_first x xs)) (back y (at_first y ys)) in
    let rest : xs ≡ ys = one_order xs ys (rest_rises x xs x_rises) (rest_rises y ys y_rises) (rest_in x y xs ys same x_rises to) (rest_in y x ys xs (sym same) y_rises back) in
    ap (λ (z : LiveSpan). z ∷ xs) same ∙ ap (λ (zs : List LiveSpan). y ∷ zs) rest

one_listing : (live : List Found) (endpoint : ℕ) (spans others : List LiveSpan) → AreLiveSpans live endpoint spans → AreLiveSpans live endpoint others → spans ≡ others
one_listing live endpoint spans others a b =
    one_order spans others a.rising b.rising
    (λ z at. b.all z (subst (IsLiveSpan live endpoint) at.2 (a.each at.0 z at.1)))
    (λ z at. a.all z (subst (IsLiveSpan live endpoint) at.2 (b.each at.0 z at.1)))

-- ---- runs and parts

-- a region carries one host byte to a device byte
abbrev pub CarriesOne : Type 0
CarriesOne =
    (s : System) (w : WindowFields) (found : Found) (h other endpoint dpa : ℕ) → IsSystem s → IsRegionIn s w found → Carries found w h endpoint dpa → Carries found w other endpoint dpa → h ≡ other

run : ℕ → ℕ → ℕ → Run
run h len region = record { h = h; len = len; region = region }

wide : ℕ → ℕ → ℕ → ℕ → Wide
wide first last count region = record { first = first; last = last; count = count; region = region }

both : (o : Option Cut) (P Q : Cut → Type 0) → IsSomeAnd o P → IsSomeAnd o Q → (cut : Cut) × P cut × Q cut
both None P Q p q = absurd p
both (Some cut) P Q p q = (cut, p, q)

module _ (found : Found) (w : WindowFields) (endpoint : ℕ) (span : LiveSpan) (one : (h other dpa : ℕ) → Carries found w h endpoint dpa → Carries found w other endpoint dpa → h ≡ other) where
  one_run : (cut : Cut) (a b : Run) → IsRunOf found w endpoint span cut a → IsRunOf found w endpoint span cut b → a ≡ b
  unfolding run
  one_run cut a b p q =
      ap (λ (n : ℕ). run n a.len a.region) (one a.h b.h (span.start + cut.from) p.first q.first) ∙ ap (λ (n : ℕ). run b.h n a.region) (p.len ∙ sym q.len)
      ∙ ap (run b.h b.len) (p.region ∙ sym q.region)

  one_runs : (cuts : List Cut) (runs others : List Run) → AreRunsOf found w endpoint span cuts runs → AreRunsOf found w endpoint span cuts others → runs ≡ others
  one_runs [] [] [] none none = refl
  one_runs [] [] (b ∷ others) p q = elim q [ ]
  one_runs [] (a ∷ runs) others p q = elim p [ ]
  one_runs (c ∷ cuts) [] others p q = elim p [ ]
  one_runs (c ∷ cuts) (a ∷ runs) [] p q = elim q [ ]
  one_runs (c ∷ cuts) (a ∷ runs) (b ∷ others) (next _ _ _ _ p p_rest) (next _ _ _ _ q q_rest) =
      ap (λ (r : Run). r ∷ runs) (one_run c a b p q) ∙ ap (λ (rs : List Run). b ∷ rs) (one_runs cuts runs others p_rest q_rest)

  one_wide : (cuts : List Cut) (a b : Wide) → IsWideOf found w endpoint span cuts a → IsWideOf found w endpoint span cuts b → a ≡ b
  unfolding wide
  one_wide cuts a b p q =
      let first = both (slice_get cuts 0) (λ cut. BeginsCut found w endpoint span cut a.first) (λ cut. BeginsCut found w endpoint span cut b.first) p.first q.first in
      let last = both (slice_get cuts (length cuts - 1)) (λ cut. BeginsCut found w endpoint span cut a.last) (λ cut. BeginsCut found w endpoint span cut b.last) p.last q.last in
      ap (λ (n : ℕ). wide n a.last a.count a.region) (one a.first b.first (span.start + first.0.from) first.1 first.2)
      ∙ ap (λ (n : ℕ). wide b.first n a.count a.region) (one a.last b.last (span.start + last.0.from) last.1 last.2)
      ∙ ap (λ (n : ℕ). wide b.first b.last n a.region) (p.count ∙ sym q.count) ∙ ap (wide b.first b.last b.count) (p.region ∙ sym q.region)

  pub one_parts : (cuts : List Cut) (own others : List Part) → ArePartsOf found w endpoint span cuts own → ArePartsOf found w endpoint span cuts others → own ≡ others
  one_parts cuts own others (few runs short p) (few runs' short' q) = ap (map parts.Run) (one_runs cuts runs runs' p q)
  one_parts cuts own others (few runs short p) (many wide' long' q) = absurd (omega (arith, short, long'))
  one_parts cuts own others (many wide long p) (few runs' short' q) = absurd (omega (arith, long, short'))
  one_parts cuts own others (many wide long p) (many wide' long' q) = ap (λ (x : Wide). parts.Wide x ∷ []) (one_wide cuts wide wide' p q)

-- ---- a whole record

told : List Part → ℕ → Poisoned
told parts unmapped = record { parts = parts; unmapped = unmapped }

module _ (carries : CarriesOne) (there : WindowsThere) (entry : Entry) (endpoint : ℕ) (live : List Found) (windows : List WindowFields) (are : AreLive windows live) where
  one_in : (span : LiveSpan) (own others : List Part) → ArePartsIn entry endpoint live windows span own → ArePartsIn entry endpoint live windows span others → own ≡ others
  one_in span own others p q =
      let found : q.found ≡ p.found = same_Some q.found p.found (sym q.there ∙ p.there) in
      let window : q.w ≡ p.w = same_Some q.w p.w (sym q.window ∙ ap (λ (f : Found). slice_get windows f.window) found ∙ p.window) in
      let moved : ArePartsOf p.found p.w endpoint span (cuts_of entry p.found span) others =
      subst (λ (w : WindowFields). ArePartsOf p.found w endpoint span (cuts_of entry p.found span) others) window
      (subst (λ (f : Found). ArePartsOf f q.w endpoint span (cuts_of entry f span) others) found q.are) in
      let region = region_in there windows live are span.region p.found p.w p.there p.window in
      one_parts p.found p.w endpoint span (λ h other dpa. carries are.s p.w p.found h other endpoint dpa are.system region) (cuts_of entry p.found span) own others p.are moved

  one_in_all : (spans : List LiveSpan) (own others : List Part) → ArePartsInAll entry endpoint live windows spans own → ArePartsInAll entry endpoint live windows spans others → own ≡ others
  one_in_all [] own others none none = refl
  one_in_all (span ∷ spans) own others (next _ _ a as' p p_rest) (next _ _ b bs q q_rest) =
      ap (λ (xs : List Part). xs ++ as') (one_in span a b p q) ∙ ap (λ (xs : List Part). b ++ xs) (one_in_all spans as' bs p_rest q_rest)

  pub one_telling : (one other : Poisoned) → ArePoisonedPieces entry endpoint live windows one → ArePoisonedPieces entry endpoint live windows other → one ≡ other
  unfolding told
  one_telling one other p q =
      let spans : q.spans ≡ p.spans = one_listing live endpoint q.spans p.spans q.listed p.listed in
      let parts : one.parts ≡ other.parts =
      one_in_all p.spans one.parts other.parts p.are (subst (λ (xs : List LiveSpan). ArePartsInAll entry endpoint live windows xs other.parts) spans q.are) in
      let unmapped : one.unmapped ≡ other.unmapped = p.unmapped ∙ ap (unmapped_count entry) (sym spans) ∙ sym q.unmapped in
      ap (λ (xs : List Part). told xs one.unmapped) parts ∙ ap (told other.parts) unmapped
