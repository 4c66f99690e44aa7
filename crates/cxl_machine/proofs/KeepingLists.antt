-- Lists of regions of which one has other bytes.
use Rattle.std.proofs.Common.{◌≡◌, ◌≢◌, ℕ, ◌<◌, Bool, true, false, if◌then◌else◌, List, [], ◌∷◌, ◌++◌, map, length, get_or, refl, sym, ap, ◌∙◌, inl, inr, arith}
use Rattle.std.specs.Prelude.{AllPairs, Contains, All}
use Rattle.std.specs.Str.{bytes_eq}
use Rattle.std.proofs.lemmas.Bool.{cases_lt}
use Rattle.std.proofs.lemmas.List.{get_or-map, get_or_default, length-map}
use Rattle.std.proofs.lemmas.List.Elements.{All-head, All-tail}
use Rattle.std.proofs.lemmas.Slice.Eq.{bytes_eq-Decides}
use Rattle.cxl_model.specs.declared.found.Found.{Found}
use Rattle.cxl_model.specs.Contents.{Contents}
use Rattle.cxl_machine.specs.Machine.{Live}

-- the region, with these bytes where it has the name
abbrev pub changed : List ℕ → Contents → Live → Live
changed name contents region = if bytes_eq region.name name then record region { contents = contents } else region

found_by : (b : Bool) (region : Live) (contents : Contents) → (if b then record region { contents = contents } else region).found ≡ region.found
found_by true region contents = refl
found_by false region contents = refl

name_by : (b : Bool) (region : Live) (contents : Contents) → (if b then record region { contents = contents } else region).name ≡ region.name
name_by true region contents = refl
name_by false region contents = refl

pub changed-found : (name : List ℕ) (contents : Contents) (region : Live) → (changed name contents region).found ≡ region.found
changed-found name contents region = found_by (bytes_eq region.name name) region contents

pub changed-name : (name : List ℕ) (contents : Contents) (region : Live) → (changed name contents region).name ≡ region.name
changed-name name contents region = name_by (bytes_eq region.name name) region contents

-- a region of another name stays as it is
pub unchanged : (name : List ℕ) (contents : Contents) (region : Live) → region.name ≢ name → changed name contents region ≡ region
unchanged name contents region other = go (bytes_eq region.name name) refl
  where
    go : (b : Bool) → bytes_eq region.name name ≡ b → (if b then record region { contents = contents } else region) ≡ region
    go true same = absurd (other ((bytes_eq-Decides region.name name).0 same))
    go false differ = refl

pub all_unchanged : (name : List ℕ) (contents : Contents) (regions : List Live) → All (λ (region : Live). region.name ≢ name) regions → map (changed name contents) regions ≡ regions
all_unchanged name contents [] others = refl
all_unchanged name contents (region ∷ regions) others =
    ap (λ (r : Live). r ∷ map (changed name contents) regions) (unchanged name contents region (All-head (λ (r : Live). r.name ≢ name) region regions others))
    ∙ ap (λ (rs : List Live). region ∷ rs) (all_unchanged name contents regions (All-tail (λ (r : Live). r.name ≢ name) region regions others))

abbrev pub founds : List Live → List Found
founds regions = map (λ (r : Live). r.found) regions

abbrev pub names : List Live → List (List ℕ)
names regions = map (λ (r : Live). r.name) regions

pub same_founds : (name : List ℕ) (contents : Contents) (live under : List Live) → founds (map (changed name contents) live ++ under) ≡ founds (live ++ under)
same_founds name contents [] under = refl
same_founds name contents (region ∷ live) under =
    ap (λ (f : Found). f ∷ founds (map (changed name contents) live ++ under)) (changed-found name contents region)
    ∙ ap (λ (fs : List Found). region.found ∷ fs) (same_founds name contents live under)

pub same_names : (name : List ℕ) (contents : Contents) (live under : List Live) → names (map (changed name contents) live ++ under) ≡ names (live ++ under)
same_names name contents [] under = refl
same_names name contents (region ∷ live) under =
    ap (λ (n : List ℕ). n ∷ names (map (changed name contents) live ++ under)) (changed-name name contents region)
    ∙ ap (λ (ns : List (List ℕ)). region.name ∷ ns) (same_names name contents live under)

-- ---- names that differ

abbrev pub HaveOwnNames : List Live → Type 0
HaveOwnNames regions = AllPairs (λ (region other : Live). region.name ≢ other.name) regions

names_at : (regions : List Live) (region : Live) (i : ℕ) (d : List ℕ) → i < length regions → get_or (names regions) i d ≡ (get_or regions i region).name
names_at regions region i d below = get_or-map (λ (r : Live). r.name) regions i region d below

pub own_names : (regions others : List Live) → names regions ≡ names others → HaveOwnNames others → HaveOwnNames regions
own_names regions others same own i j d before below alike =
    let long : length regions ≡ length others = sym (length-map regions (λ (r : Live). r.name)) ∙ ap length same ∙ length-map others (λ (r : Live). r.name) in
    let first : (get_or regions i d).name ≡ (get_or others i d).name =
    sym (names_at regions d i [] (omega arith)) ∙ ap (λ (ns : List (List ℕ)). get_or ns i []) same ∙ names_at others d i [] (omega (arith, long)) in
    let second : (get_or regions j d).name ≡ (get_or others j d).name =
    sym (names_at regions d j [] below) ∙ ap (λ (ns : List (List ℕ)). get_or ns j []) same ∙ names_at others d j [] (omega (arith, long, below)) in
    own i j d before (omega (arith, long, below)) (sym first ∙ alike ∙ second)

-- regions of one name are one
pub one_named : (regions : List Live) → HaveOwnNames regions → (region other : Live) → Contains regions region → Contains regions other → region.name ≡ other.name → region ≡ other
one_named regions own region other (i, low, one) (j, high, two) same =
    let other_one : get_or regions i other ≡ region = get_or_default regions i other region low ∙ one in
    let region_two : get_or regions j region ≡ other = get_or_default regions j region other high ∙ two in
    elim (cases_lt i j) [
      | inl before ↦ absurd (own i j region before high (ap (λ (r : Live). r.name) one ∙ same ∙ sym (ap (λ (r : Live). r.name) region_two)))
      | inr past ↦
          elim (cases_lt j i) [
            | inl behind ↦ absurd (own j i other behind low (ap (λ (r : Live). r.name) two ∙ sym same ∙ sym (ap (λ (r : Live). r.name) other_one)))
            | inr upto ↦
                let here : i ≡ j = omega arith in
                sym other_one ∙ ap (λ (n : ℕ). get_or regions n other) here ∙ two
          ]
    ]
