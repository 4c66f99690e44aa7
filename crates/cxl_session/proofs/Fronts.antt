-- Live regions at the front of a list in some order, and one of them with other bytes.
use Rattle.std.proofs.Common.{◌≡◌, ◌≢◌, suc, Bool, true, false, if◌then◌else◌, List, [], ◌∷◌, map, refl, sym, ap, ◌∙◌, subst, inl, inr, arith}
use Rattle.std.specs.Prelude.{All, Contains, remove}
use Rattle.std.specs.Str.{bytes_eq}
use Rattle.std.specs.List.Sorted.{IsPermutation}
use Rattle.std.proofs.lemmas.Bool.{false≢true}
use Rattle.std.proofs.lemmas.List.Sorted.{IsPermutation-cons, IsPermutation-trans, IsPermutation-middle, IsPermutation-remove, IsPermutation-map, Contains-permutation}
use Rattle.std.proofs.lemmas.Slice.Eq.{bytes_eq-Decides}
use Rattle.cxl_model.specs.Contents.{Contents}
use Rattle.cxl_enc.proofs.Lists.{contains_cases}
use Rattle.cxl_machine.specs.Machine.{Live}
use Rattle.cxl_machine.proofs.KeepingLists.{changed, HaveOwnNames, own_names, all_unchanged}
use Rattle.cxl_machine.proofs.KeepingOrder.{pairs_again}

-- ---- lists

pub at_front : {X : Type 0} (xs : List X) (x : X) → Contains xs x → (rest : List X) × IsPermutation xs (x ∷ rest)
at_front xs x (k, below, read) = (remove xs k, IsPermutation-remove xs k x below (sym read))

pub two_at_front : {X : Type 0} (xs : List X) (x y : X) → x ≢ y → Contains xs x → Contains xs y → (rest : List X) × IsPermutation xs (x ∷ y ∷ rest)
two_at_front xs x y apart here there =
    let one = at_front xs x here in
    elim (contains_cases x y one.0 (Contains-permutation xs (x ∷ one.0) y one.1 there)) [
      | inl same ↦ absurd (apart same)
      | inr later ↦
          let two = at_front one.0 y later in
          (two.0, IsPermutation-trans xs (x ∷ one.0) (x ∷ y ∷ two.0) one.1 (IsPermutation-cons x one.0 (y ∷ two.0) two.1))
    ]

pub turned : {X : Type 0} (x y : X) (rest : List X) → IsPermutation (x ∷ y ∷ rest) (y ∷ x ∷ rest)
turned x y rest = IsPermutation-middle (x ∷ []) y rest

-- ---- one region with other bytes

pub own_again : (xs ys : List Live) → IsPermutation xs ys → HaveOwnNames xs → HaveOwnNames ys
own_again xs ys same own = pairs_again (λ (a b : Live). a.name ≢ b.name) (λ a b apart e. apart (sym e)) xs ys same own

pub own_changed : (contents : Contents) (region : Live) → changed region.name contents region ≡ record region { contents = contents }
own_changed contents region = go (bytes_eq region.name region.name) ((bytes_eq-Decides region.name region.name).1 refl)
  where
    go : (b : Bool) → b ≡ true → (if b then record region { contents = contents } else region) ≡ record region { contents = contents }
    go true same = refl
    go false differ = absurd (false≢true differ)

others_named : (region : Live) (rest : List Live) → HaveOwnNames (region ∷ rest) → All (λ (r : Live). r.name ≢ region.name) rest
others_named region rest own = λ k d low same. own 0 (suc k) d (omega arith) (omega (arith, low)) (sym same)

front_changed : (region : Live) (rest : List Live) (contents : Contents) → HaveOwnNames (region ∷ rest)
    → map (changed region.name contents) (region ∷ rest) ≡ record region { contents = contents } ∷ rest
front_changed region rest contents own =
    ap (λ (r : Live). r ∷ map (changed region.name contents) rest) (own_changed contents region)
    ∙ ap (λ (rs : List Live). record region { contents = contents } ∷ rs) (all_unchanged region.name contents rest (others_named region rest own))

pub front_with : (regions : List Live) (region : Live) (rest : List Live) (contents : Contents) → HaveOwnNames (region ∷ rest) → IsPermutation regions (region ∷ rest)
    → IsPermutation (map (changed region.name contents) regions) (record region { contents = contents } ∷ rest)
front_with regions region rest contents own same =
    subst (IsPermutation (map (changed region.name contents) regions)) (front_changed region rest contents own)
    (IsPermutation-map (changed region.name contents) regions (region ∷ rest) same)

-- ---- two regions with other bytes

module _ (live : List Live) (own : HaveOwnNames live) (from to : Live) (rest : List Live) (same : IsPermutation live (from ∷ to ∷ rest)) where
  second_first : IsPermutation live (to ∷ from ∷ rest)
  second_first = IsPermutation-trans live (from ∷ to ∷ rest) (to ∷ from ∷ rest) same (turned from to rest)

  -- the second one has other bytes
  pub second_with : (bytes : Contents) → IsPermutation (map (changed to.name bytes) live) (from ∷ record to { contents = bytes } ∷ rest)
  second_with bytes =
      let after : Live = record to { contents = bytes } in
      IsPermutation-trans (map (changed to.name bytes) live) (after ∷ from ∷ rest) (from ∷ after ∷ rest)
      (front_with live to (from ∷ rest) bytes (own_again live (to ∷ from ∷ rest) second_first own) second_first) (turned after from rest)

  -- and then the first one, too
  pub both_with : (bytes left : Contents) → IsPermutation (map (changed from.name left) (map (changed to.name bytes) live)) (record from { contents = left } ∷ record to { contents = bytes } ∷ rest)
  both_with bytes left =
      let after : Live = record to { contents = bytes } in
      let names : HaveOwnNames (from ∷ after ∷ rest) = own_names (from ∷ after ∷ rest) (from ∷ to ∷ rest) refl (own_again live (from ∷ to ∷ rest) same own) in
      front_with (map (changed to.name bytes) live) from (after ∷ rest) left names (second_with bytes)
