-- The regions of an accepted image as one list by rising base.
use Rattle.std.proofs.Common.{◌≡◌, ◌≢◌, ℕ, zero, suc, ◌<◌, true, false, List, [], ◌∷◌, length, get_or, Some, refl, sym, ap, ◌∙◌, subst, inl, inr, arith, ◌⊎◌}
use Rattle.std.specs.Prelude.{slice_get, All, AllPairs, Contains}
use Rattle.std.proofs.lemmas.Bool.{cases_lt, cases_order, cases_Bool, false≢true}
use Rattle.std.proofs.lemmas.Option.{slice_get_within, slice_get-get_or, same_Some}
use Rattle.std.proofs.lemmas.List.Elements.{All-head, All-tail, All-nil, All-cons, All-contains}
use Rattle.std.proofs.lemmas.Map.Keys.{any_passes_from_place}
use Rattle.cxl_enc.proofs.Lists.{contains_head, contains_tail, contains_cases, contains_none, contains_at}
use Rattle.cxl_regs.specs.declared.decoder.Decoder.{Decoder}
use Rattle.cxl_window.specs.Fields.{WindowFields}
use Rattle.cxl_topo.proofs.Trees.{KnownTree}
use Rattle.cxl_model.specs.declared.found.Found.{Found}
use Rattle.cxl_model.specs.System.{System, IsSystem, decoders_at}
use Rattle.cxl_regs.specs.Reading.{range_of, has_range}
use Rattle.cxl_regs.specs.declared.reading.Range.{Range}
use Rattle.cxl_regs.proofs.DecoderRanges.{has_parts, same_range, has_own_range}
use Rattle.cxl_model.specs.Ranges.{serves, IsCommittedRange}
use Rattle.cxl_model.specs.Accepted.{IsAccepted, IsWhole}
use Rattle.cxl_model.specs.Regions.{region_range, IsRegionIn, IsRegion}
use Rattle.cxl_model.specs.Listed.{AreRegions, AreRegionsByBase}
use Rattle.cxl_model.proofs.BreachesOfRanges.{accepted_where_whole}
use Rattle.cxl_model.proofs.RangeRules.{RangesRise, served}
use Rattle.cxl_model.proofs.RangeCounts.{serves_within}
use Rattle.cxl_model.proofs.SpansRegions.{HasRegion, has_region, one_region}
use Rattle.cxl_model.proofs.SpansShared.{one_base}

-- ---- lists by rising base

abbrev IsRising : List Found → Type 0
IsRising [] = Unit {0}
IsRising (x ∷ xs) = All (λ y. x.base < y.base) xs × IsRising xs

rising_pairs : (xs : List Found) → IsRising xs → AllPairs (λ a b. a.base < b.base) xs
rising_pairs [] rising i j d less within = absurd (omega arith)
rising_pairs (x ∷ xs) rising zero zero d less within = absurd (omega arith)
rising_pairs (x ∷ xs) rising (suc i) zero d less within = absurd (omega arith)
rising_pairs (x ∷ xs) rising zero (suc j) d less within = rising.0 j d (omega arith)
rising_pairs (x ∷ xs) rising (suc i) (suc j) d less within = rising_pairs xs rising.1 i j d (omega arith) (omega arith)

rising_from : (xs : List Found) → AllPairs (λ a b. a.base < b.base) xs → IsRising xs
rising_from [] pairs = tt
rising_from (x ∷ xs) pairs = (
  (λ k d within. pairs 0 (suc k) d (omega arith) (omega arith)),
  rising_from xs (λ i j d less within. pairs (suc i) (suc j) d (omega arith) (omega arith)),
)

pairs_differ : (xs : List Found) → AllPairs (λ a b. a.base < b.base) xs → AllPairs (λ a b. a ≢ b) xs
pairs_differ xs pairs = λ i j d less within same.
    let below = pairs i j d less within in
    let base : (get_or xs i d).base ≡ (get_or xs j d).base = ap (λ (f : Found). f.base) same in
    omega (arith, below, base)

-- ---- one more region in its place

-- a list with one region more: those of the old list, and the region
record Inserted (s : System) (f : Found) (xs : List Found) : Type 0 where
  all : List Found
  each : All (IsRegion s) all
  rising : IsRising all
  old : (g : Found) → Contains xs g → Contains all g
  own : Contains all f
  -- and nothing else
  only : (g : Found) → Contains all g → (f ≡ g) ⊎ Contains xs g

record OneBase (s : System) : Type 0 where
  same : (f g : Found) → IsRegion s f → IsRegion s g → f.base ≡ g.base → f ≡ g

insert : (s : System) → OneBase s → (f : Found) → IsRegion s f → (xs : List Found) → All (IsRegion s) xs → IsRising xs → Inserted s f xs
insert s one f is [] each rising = record {
  all = f ∷ [];
  each = All-cons (IsRegion s) f [] is (All-nil (IsRegion s));
  rising = (All-nil (λ y. f.base < y.base), tt);
  old = λ g there. absurd (contains_none g there);
  own = contains_head f [];
  only = λ g there. contains_cases f g [] there;
}
insert s one f is (x ∷ xs) each rising =
    elim (cases_order f.base x.base) [
      | inl same ↦
          let here : f ≡ x = one.same f x is (All-head (IsRegion s) x xs each) same in
          record { all = x ∷ xs; each = each; rising = rising; old = λ g there. there; own = subst (Contains (x ∷ xs)) (sym here) (contains_head x xs); only = λ g there. inr there }
      | inr apart ↦ elim apart [
        | inl below ↦ record {
          all = f ∷ (x ∷ xs);
          each = All-cons (IsRegion s) f (x ∷ xs) is each;
          rising = (All-cons (λ y. f.base < y.base) x xs below (λ k d within. let up = rising.0 k d within in omega (arith, below, up)), rising);
          old = λ g there. contains_tail f g (x ∷ xs) there;
          own = contains_head f (x ∷ xs);
          only = λ g there. contains_cases f g (x ∷ xs) there;
        }
        | inr above ↦
            let rest = insert s one f is xs (All-tail (IsRegion s) x xs each) rising.1 in
            record {
              all = x ∷ rest.all;
              each = All-cons (IsRegion s) x rest.all (All-head (IsRegion s) x xs each) rest.each;
              rising = (behind f x xs rest.all rest.only above rising.0, rest.rising);
              old = λ g there. elim (contains_cases x g xs there) [
                | inl here ↦ subst (Contains (x ∷ rest.all)) here (contains_head x rest.all)
                | inr later ↦ contains_tail x g rest.all (rest.old g later)
              ];
              own = contains_tail x f rest.all rest.own;
              only = λ g there. elim (contains_cases x g rest.all there) [
                | inl here ↦ inr (subst (Contains (x ∷ xs)) here (contains_head x xs))
                | inr later ↦ elim (rest.only g later) [
                  | inl own ↦ inl own
                  | inr before ↦ inr (contains_tail x g xs before)
                ]
              ];
            }
      ]
    ]
  where
    behind : (f x : Found) (xs all : List Found) → ((g : Found) → Contains all g → (f ≡ g) ⊎ Contains xs g) → x.base < f.base → All (λ y. x.base < y.base) xs → All (λ y. x.base < y.base) all
    behind f x xs all only above rising = λ k d within.
        let g : Found = get_or all k d in
        elim (only g (contains_at all k g (slice_get-get_or all k d within))) [
          | inl own ↦ subst (λ (y : Found). x.base < y.base) own above
          | inr before ↦ All-contains (λ y. x.base < y.base) xs g rising before
        ]

-- ---- one region for each range

-- the list has a region of the range
abbrev Has : List Found → Range → Type 0
Has regions r = (found : Found) × Contains regions found × (region_range found ≡ r)

record Listed (s : System) : Type 0 where
  all : List Found
  each : All (IsRegion s) all
  rising : IsRising all

-- a list with all of the old one's regions
record Grown (s : System) (old : Listed s) : Type 0 where
  new : Listed s
  more : (r : Range) → Has old.all r → Has new.all r

-- each committed range has a region
abbrev Regions : System → Type 0
Regions s = (r : Range) → IsCommittedRange s r → HasRegion s r

record With (s : System) (old : Listed s) (r : Range) : Type 0 where
  grown : Grown s old
  has : Has (grown.new).all r

with_range : (s : System) → OneBase s → Regions s → (old : Listed s) (r : Range) → IsCommittedRange s r → With s old r
with_range s one regions old r committed =
    let own = regions r committed in
    let with_own = insert s one own.found (own.window, own.region) old.all old.each old.rising in
    record {
      grown = record {
        new = record { all = with_own.all; each = with_own.each; rising = with_own.rising };
        more = λ q has. (has.0, with_own.old has.0 has.1, has.2);
      };
      has = (own.found, with_own.own, own.range);
    }

-- ---- the ranges of a node's decoders

record WithDecoders (s : System) (old : Listed s) (ds : List Decoder) : Type 0 where
  grown : Grown s old
  has : (i : ℕ) (d : Decoder) → slice_get ds i ≡ Some d → d.committed ≡ true → Has (grown.new).all (range_of d)

with_decoders : (s : System) → OneBase s → Regions s → (old : Listed s) (ds : List Decoder) → ((i : ℕ) (d : Decoder) → slice_get ds i ≡ Some d → d.committed ≡ true → IsCommittedRange s (range_of d)) → WithDecoders s old ds
with_decoders s one regions old [] ranges = record {
  grown = record { new = old; more = λ r has. has };
  has = λ i d at committed. let within = slice_get_within [] i d at in absurd (omega arith);
}
with_decoders s one regions old (d ∷ ds) ranges =
    let rest = with_decoders s one regions old ds (λ i e at committed. ranges (suc i) e at committed) in
    elim (cases_Bool d.committed) [
      | inl is ↦
          let now = with_range s one regions (rest.grown).new (range_of d) (ranges 0 d refl is) in
          record {
            grown = record { new = (now.grown).new; more = λ r has. (now.grown).more r ((rest.grown).more r has) };
            has = λ i e at committed. first d ds (λ r. Has ((now.grown).new).all r) now.has (λ j x there known. (now.grown).more (range_of x) (rest.has j x there known)) i e at committed;
          }
      | inr other ↦ record {
        grown = rest.grown;
        has = λ i e at committed. others d ds other (λ r. Has ((rest.grown).new).all r) (λ j x there known. rest.has j x there known) i e at committed;
      }
    ]
  where
    first : (d : Decoder) (ds : List Decoder) (P : Range → Type 0) → P (range_of d) → ((j : ℕ) (x : Decoder) → slice_get ds j ≡ Some x → x.committed ≡ true → P (range_of x))
        → (i : ℕ) (e : Decoder) → slice_get (d ∷ ds) i ≡ Some e → e.committed ≡ true → P (range_of e)
    first d ds P own rest zero e at committed = subst (λ (x : Decoder). P (range_of x)) (same_Some d e at) own
    first d ds P own rest (suc i) e at committed = rest i e at committed

    others : (d : Decoder) (ds : List Decoder) → d.committed ≡ false → (P : Range → Type 0) → ((j : ℕ) (x : Decoder) → slice_get ds j ≡ Some x → x.committed ≡ true → P (range_of x))
        → (i : ℕ) (e : Decoder) → slice_get (d ∷ ds) i ≡ Some e → e.committed ≡ true → P (range_of e)
    others d ds other P rest zero e at committed = absurd (false≢true (sym other ∙ ap (λ (x : Decoder). x.committed) (same_Some d e at) ∙ committed))
    others d ds other P rest (suc i) e at committed = rest i e at committed

-- ---- the ranges of all nodes

record Below (s : System) (k : ℕ) : Type 0 where
  all : Listed s
  has : (n : ℕ) (r : Range) → n < k → serves s r n ≡ true → Has all.all r

below : (s : System) → OneBase s → Regions s → (k : ℕ) → Below s k
below s one regions zero = record {
  all = record { all = []; each = All-nil (IsRegion s); rising = tt };
  has = λ n r less is. absurd (omega arith);
}
below s one regions (suc k) =
    let rest = below s one regions k in
    let now = with_decoders s one regions rest.all (decoders_at s k) (λ i d at committed. (k, any_passes_from_place (has_range (range_of d)) (decoders_at s k) i d at (has_own_range d committed))) in
    record {
      all = (now.grown).new;
      has = λ n r less is. elim (cases_lt n k) [
        | inl lower ↦ (now.grown).more r (rest.has n r lower is)
        | inr past ↦
            let here : n ≡ k = omega arith in
            let at = served s r k (ap (serves s r) (sym here) ∙ is) in
            let own = has_parts r at.d at.has in
            subst (Has ((now.grown).new).all) (same_range r at.d own) (now.has at.i at.d at.there own.committed)
      ];
    }

-- ---- the list

pub listed : RangesRise → (s : System) → IsSystem s → KnownTree s.nodes → IsAccepted s → (regions : List Found) × AreRegionsByBase s regions
listed rise s system known accepted =
    let one : OneBase s = record { same = λ f g is also base. one_base rise s is.0 also.0 f g system known is.1 also.1 base } in
    let whole : (r : Range) → IsCommittedRange s r → IsWhole s r = ((accepted_where_whole s).0 accepted).1 in
    let regions : Regions s = λ r committed. has_region rise s r system known (whole r committed) committed in
    let all = below s one regions (length s.nodes) in
    let list : Listed s = all.all in
    let pairs = rising_pairs list.all list.rising in (
      list.all,
      record {
        listed = record {
          each = list.each;
          all = λ r committed. all.has committed.0 r (serves_within s r committed.0 system committed.1) committed.1;
          once = pairs_differ list.all pairs;
        };
        rising = pairs;
      },
    )

-- ---- one list

-- each region of the image is in it
pub each_listed : (s : System) (w : WindowFields) (found : Found) (regions : List Found) → KnownTree s.nodes → AreRegions s regions → IsRegionIn s w found → Contains regions found
each_listed s w found regions known are is =
    let there = are.all (region_range found) is.committed in
    let own : IsRegion s there.0 = All-contains (IsRegion s) regions there.0 are.each there.1 in
    subst (Contains regions) (one_region s own.0 w there.0 found known own.1 is there.2) there.1

-- lists by rising base with the same elements are the same
same_rising : (xs ys : List Found) → IsRising xs → IsRising ys → ((f : Found) → Contains xs f → Contains ys f) → ((f : Found) → Contains ys f → Contains xs f) → xs ≡ ys
same_rising [] [] xs_rise ys_rise to from = refl
same_rising [] (y ∷ ys) xs_rise ys_rise to from = absurd (contains_none y (from y (contains_head y ys)))
same_rising (x ∷ xs) [] xs_rise ys_rise to from = absurd (contains_none x (to x (contains_head x xs)))
same_rising (x ∷ xs) (y ∷ ys) xs_rise ys_rise to from =
    let first : x ≡ y = elim (contains_cases y x ys (to x (contains_head x xs))) [
      | inl same ↦ sym same
      | inr later ↦ elim (contains_cases x y xs (from y (contains_head y ys))) [
        | inl same ↦ same
        | inr other ↦
            let up = All-contains (λ z. y.base < z.base) ys x ys_rise.0 later in
            let down = All-contains (λ z. x.base < z.base) xs y xs_rise.0 other in
            absurd (omega (arith, up, down))
      ]
    ] in
    let rest : xs ≡ ys =
    same_rising xs ys xs_rise.1 ys_rise.1 (λ f there. beyond x f y ys (All-contains (λ z. x.base < z.base) xs f xs_rise.0 there) first (to f (contains_tail x f xs there)))
    (λ f there. beyond y f x xs (All-contains (λ z. y.base < z.base) ys f ys_rise.0 there) (sym first) (from f (contains_tail y f ys there))) in
    λ k. first k ∷ rest k
  where
    beyond : (x f y : Found) (ys : List Found) → x.base < f.base → x ≡ y → Contains (y ∷ ys) f → Contains ys f
    beyond x f y ys above same there =
        elim (contains_cases y f ys there) [
          | inl here ↦ let base : x.base ≡ f.base = ap (λ (g : Found). g.base) (same ∙ here) in absurd (omega (arith, above, base))
          | inr later ↦ later
        ]

pub one_list : (s : System) (xs ys : List Found) → KnownTree s.nodes → AreRegionsByBase s xs → AreRegionsByBase s ys → xs ≡ ys
one_list s xs ys known one other =
    same_rising xs ys (rising_from xs one.rising) (rising_from ys other.rising)
    (λ f there. let own = All-contains (IsRegion s) xs f one.listed.each there in each_listed s own.0 f ys known other.listed own.1)
    (λ f there. let own = All-contains (IsRegion s) ys f other.listed.each there in each_listed s own.0 f xs known one.listed own.1)
