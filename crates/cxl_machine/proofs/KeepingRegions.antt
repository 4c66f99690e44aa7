-- The regions of an image, and those that a machine keeps: in another order, without the last of them, and with one more.
use Rattle.std.proofs.Common.{◌≡◌, ◌≢◌, ◌⊎◌, ℕ, ◌<◌, List, [], ◌∷◌, ◌++◌, length, get_or, refl, sym, ap, ◌∙◌, subst, inl, inr, arith}
use Rattle.std.specs.Prelude.{All, Contains}
use Rattle.std.specs.List.Sorted.{IsPermutation}
use Rattle.std.proofs.lemmas.List.{length-append, map-append, append-nil, get_or_append_left, get_or_push}
use Rattle.std.proofs.lemmas.List.Elements.{All-push, Contains-append_left, Contains-push, Contains-push_cases}
use Rattle.std.proofs.lemmas.List.Quantifiers.{all_pairs_push}
use Rattle.std.proofs.lemmas.List.Sorted.{All-permutation, Contains-permutation, IsPermutation-map, length_permutation}
use Rattle.cxl_window.specs.Fields.{WindowFields}
use Rattle.cxl_regs.specs.declared.reading.Range.{Range}
use Rattle.cxl_model.specs.declared.found.Found.{Found}
use Rattle.cxl_model.specs.Listed.{AreRegions, region_limit}
use Rattle.cxl_model.specs.Ranges.{IsCommittedRange}
use Rattle.cxl_model.specs.Regions.{region_range, IsRegion, IsRegionIn}
use Rattle.cxl_model.specs.System.{System, IsSystem}
use Rattle.cxl_machine.specs.Machine.{Live, Machine}
use Rattle.cxl_machine.specs.Sound.{AreKept}
use Rattle.cxl_machine.proofs.KeepingBytes.{HoldsOwn}
use Rattle.cxl_machine.proofs.KeepingLists.{founds}
use Rattle.cxl_machine.proofs.KeepingOrder.{pairs_again, all_front, pairs_front}

-- ---- in another order

regions_again : (s : System) (xs ys : List Found) → IsPermutation xs ys → AreRegions s xs → AreRegions s ys
regions_again s xs ys moved are = record {
  each = All-permutation (IsRegion s) xs ys moved are.each;
  all = λ r committed. let own = are.all r committed in (own.0, Contains-permutation xs ys own.0 moved own.1, own.2);
  once = pairs_again (λ (a b : Found). a ≢ b) (λ a b differ same. differ (sym same)) xs ys moved are.once;
}

pub kept_again : (m n : Machine) (xs ys : List Live) → m.settled ≡ n.settled → IsPermutation xs ys → AreKept m xs → AreKept n ys
kept_again m n xs ys same moved kept = record {
  all = subst (λ (s : System). AreRegions s (founds ys)) same (regions_again m.settled (founds xs) (founds ys) (IsPermutation-map (λ (r : Live). r.found) xs ys moved) kept.all);
  names = pairs_again (λ (a b : Live). a.name ≢ b.name) (λ a b differ alike. differ (sym alike)) xs ys moved kept.names;
  contents = All-permutation HoldsOwn xs ys moved kept.contents;
  few = let few = kept.few in omega (arith, length_permutation xs ys moved, few);
}

-- ---- without the last

-- regions of which the range is one are one
abbrev pub OneLaw : Type 0
OneLaw =
    (s : System) (w v : WindowFields) (found other : Found) → IsSystem s → IsRegionIn s w found → IsRegionIn s v other → region_range found ≡ region_range other → found ≡ other

-- what an image is after another in which a region stood
pub record IsWithout (s t : System) (found : Found) : Type 0 where
  pub region : (w : WindowFields) (other : Found) → region_range other ≢ region_range found → IsRegionIn s w other → IsRegionIn t w other
  pub ranges : (r : Range) → IsCommittedRange t r → (r ≢ region_range found) × IsCommittedRange s r

pub last_is : (s : System) (fs : List Found) (found : Found) → AreRegions s (fs ++ found ∷ []) → IsRegion s found
last_is s fs found are = subst (IsRegion s) (get_or_push fs found found (length fs) refl) (are.each (length fs) found (omega (arith, length-append fs (found ∷ []))))

-- a region before the last has another range
pub last_apart : OneLaw → (s : System) (fs : List Found) (found : Found) → IsSystem s → AreRegions s (fs ++ found ∷ []) → (k : ℕ) (d : Found) → k < length fs → region_range (get_or fs k d) ≢ region_range found
last_apart one s fs found system are k d within same =
    let own : IsRegion s (get_or fs k d) = all_front (IsRegion s) fs (found ∷ []) are.each k d within in
    let last : IsRegion s found = last_is s fs found are in
    are.once k (length fs) d within (omega (arith, length-append fs (found ∷ [])))
    (get_or_append_left fs (found ∷ []) d k within ∙ one s own.0 last.0 (get_or fs k d) found system own.1 last.1 same ∙ sym (get_or_push fs found d (length fs) refl))

regions_without : OneLaw → (s t : System) (fs : List Found) (found : Found) → IsSystem s → IsWithout s t found → AreRegions s (fs ++ found ∷ []) → AreRegions t fs
regions_without one s t fs found system after are = record { each = each; all = all; once = pairs_front (λ (a b : Found). a ≢ b) fs (found ∷ []) are.once }
  where
    each : All (IsRegion t) fs
    each k d within =
        let own : IsRegion s (get_or fs k d) = all_front (IsRegion s) fs (found ∷ []) are.each k d within in
        (own.0, after.region own.0 (get_or fs k d) (last_apart one s fs found system are k d within) own.1)

    all : (r : Range) → IsCommittedRange t r → (other : Found) × Contains fs other × (region_range other ≡ r)
    all r committed =
        let before = after.ranges r committed in
        let own = are.all r before.1 in
        elim (Contains-push_cases fs found own.0 own.1) [
          | inl there ↦ (own.0, there, own.2)
          | inr is ↦ absurd (before.0 (sym own.2 ∙ sym (ap region_range is)))
        ]

pub kept_without : OneLaw → (m n : Machine) (xs : List Live) (region : Live) → IsSystem m.settled → IsWithout m.settled n.settled region.found → AreKept m (xs ++ region ∷ []) → AreKept n xs
kept_without one m n xs region system after kept = record {
  all = regions_without one m.settled n.settled (founds xs) region.found system after (subst (AreRegions m.settled) (map-append (λ (r : Live). r.found) xs (region ∷ [])) kept.all);
  names = pairs_front (λ (a b : Live). a.name ≢ b.name) xs (region ∷ []) kept.names;
  contents = all_front HoldsOwn xs (region ∷ []) kept.contents;
  few = let few = kept.few in omega (arith, length-append xs (region ∷ []), few);
}

-- ---- with one more

-- what an image is after another in which the region did not stand
pub record IsWith (s t : System) (found : Found) : Type 0 where
  pub new : IsCommittedRange s (region_range found) → ⊥
  pub is : IsRegion t found
  pub region : (w : WindowFields) (other : Found) → IsRegionIn s w other → IsRegionIn t w other
  pub ranges : (r : Range) → IsCommittedRange t r → (r ≡ region_range found) ⊎ IsCommittedRange s r

regions_with : (s t : System) (fs : List Found) (found : Found) → IsWith s t found → AreRegions s fs → AreRegions t (fs ++ found ∷ [])
regions_with s t fs found after are = record { each = All-push (IsRegion t) fs found each after.is; all = all; once = all_pairs_push (λ (a b : Found). a ≢ b) fs found are.once apart }
  where
    each : All (IsRegion t) fs
    each k d within = let own = are.each k d within in (own.0, after.region own.0 (get_or fs k d) own.1)

    apart : (k : ℕ) (d : Found) → k < length fs → get_or fs k d ≢ found
    apart k d within same =
        let own = are.each k d within in
        after.new (subst (λ (f : Found). IsCommittedRange s (region_range f)) same own.1.committed)

    all : (r : Range) → IsCommittedRange t r → (other : Found) × Contains (fs ++ found ∷ []) other × (region_range other ≡ r)
    all r committed =
        elim (after.ranges r committed) [
          | inl own ↦ (found, Contains-push fs found, sym own)
          | inr before ↦ let own = are.all r before in (own.0, Contains-append_left fs (found ∷ []) own.0 own.1, own.2)
        ]

pub kept_with : (m n : Machine) (xs : List Live) (region : Live) → IsWith m.settled n.settled region.found → All (λ (r : Live). r.name ≢ region.name) xs → HoldsOwn region → length xs < region_limit
    → AreKept m xs → AreKept n (xs ++ region ∷ [])
kept_with m n xs region after unnamed holds room kept = record {
  all = subst (AreRegions n.settled) (sym (map-append (λ (r : Live). r.found) xs (region ∷ []))) (regions_with m.settled n.settled (founds xs) region.found after kept.all);
  names = all_pairs_push (λ (a b : Live). a.name ≢ b.name) xs region kept.names unnamed;
  contents = All-push HoldsOwn xs region kept.contents holds;
  few = omega (arith, length-append xs (region ∷ []));
}

-- ---- no region under release

pub kept_alone : (m : Machine) (xs : List Live) → AreKept m (xs ++ []) → AreKept m xs
kept_alone m xs kept = subst (AreKept m) (append-nil xs) kept

pub kept_beside : (m : Machine) (xs : List Live) → AreKept m xs → AreKept m (xs ++ [])
kept_beside m xs kept = subst (AreKept m) (sym (append-nil xs)) kept
