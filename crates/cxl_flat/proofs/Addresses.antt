-- The live region of a host address, and the bytes at each address where a region holds others.
use Rattle.std.proofs.Common.{◌≡◌, ◌≢◌, ℕ, zero, suc, ◌+◌, ◌<◌, ◌≤◌, Bool, true, false, cond, if◌then◌else◌, List, [], ◌∷◌, map, length, get_or, Option, Some, None, inl, inr, refl, sym, ap, ◌∙◌, arith}
use Rattle.std.specs.Prelude.{Contains, find, nat_le, nat_lt, ◌&&◌, option_map}
use Rattle.std.specs.Str.{bytes_eq}
use Rattle.std.proofs.lemmas.Bool.{and_parts, and_from, leb-true, ltb-true, le-leb, lt-ltb, lt-leb, le-ltb, false≢true}
use Rattle.std.proofs.lemmas.List.{get_or-map, length-map}
use Rattle.std.proofs.lemmas.Option.{none-some}
use Rattle.std.proofs.lemmas.Slice.Eq.{bytes_eq-Decides}
use Rattle.cxl_model.specs.declared.found.Found.{Found}
use Rattle.cxl_model.specs.Contents.{Contents, content_at}
use Rattle.cxl_model.proofs.ImageLaws.{ShareLaw}
use Rattle.cxl_machine.specs.Machine.{Live, Machine, has_host, live_at, region_window, kept_regions, with_contents}
use Rattle.cxl_machine.specs.Accesses.{offset_in}
use Rattle.cxl_machine.specs.Sound.{IsMachine}
use Rattle.cxl_machine.proofs.KeepingLists.{changed, changed-found, changed-name, one_named, unchanged}
use Rattle.cxl_machine.proofs.KeepingMachines.{live_there, kept_there}
use Rattle.cxl_machine.proofs.LiveRegions.{live_is_region, same_live}
use Rattle.cxl_flat.specs.Memory.{byte_of, LiesBeside}

-- ---- finding in a list

-- where an item passes, one is found
none_by : (first : Live) (b : Bool) (found : Option Live) → (found ≡ None → ⊥) → cond b (Some first) found ≡ None → ⊥
none_by first true found more is = none-some first (sym is)
none_by first false found more is = more is

none_passes : (p : Live → Bool) (regions : List Live) (region : Live) → Contains regions region → p region ≡ true → find p regions ≡ None → ⊥
none_passes p [] region (k, below, read) has none = omega (arith, below)
none_passes p (first ∷ rest) region (zero, below, read) has none =
    none-some first (sym none ∙ ap (λ (b : Bool). cond b (Some first) (find p rest)) (ap p read ∙ has))
none_passes p (first ∷ rest) region (suc k, below, read) has none =
    none_by first (p first) (find p rest) (none_passes p rest region (k, omega (arith, below), read) has) none

-- in a list whose items are changed the changed item is found
found_changed : (p : Live → Bool) (f : Live → Live) → ((region : Live) → p (f region) ≡ p region) → (regions : List Live) → find p (map f regions) ≡ option_map f (find p regions)
found_changed p f same [] = refl
found_changed p f same (region ∷ rest) =
    ap (λ (b : Bool). cond b (Some (f region)) (find p (map f rest))) (same region)
    ∙ ap (λ (o : Option Live). cond (p region) (Some (f region)) o) (found_changed p f same rest)
    ∙ by_test (p region)
  where
    by_test : (b : Bool) → cond b (Some (f region)) (option_map f (find p rest)) ≡ option_map f (cond b (Some region) (find p rest))
    by_test true = refl
    by_test false = refl

-- each item of such a list is a changed one
from_changed : (f : Live → Live) (regions : List Live) (region : Live) → Contains (map f regions) region → (own : Live) × Contains regions own × (f own ≡ region)
from_changed f regions region (k, below, read) =
    let low : k < length regions = omega (arith, below, length-map regions f) in
    let here : f (get_or regions k region) ≡ region = sym (get_or-map f regions k region region low) ∙ read in
    (get_or regions k region, (k, low, still regions k region low), here)
  where
    still : (regions : List Live) (k : ℕ) (d : Live) → k < length regions → get_or regions k (get_or regions k d) ≡ get_or regions k d
    still [] k d low = absurd (omega (arith, low))
    still (first ∷ rest) zero d low = refl
    still (first ∷ rest) (suc k) d low = still rest k d (omega (arith, low))

pub to_changed : (f : Live → Live) (regions : List Live) (region : Live) → Contains regions region → Contains (map f regions) (f region)
to_changed f regions region (k, below, read) =
    (k, omega (arith, below, length-map regions f), get_or-map f regions k region (f region) below ∙ ap f read)

-- ---- bounds

pub host_bounds : (found : Found) (h : ℕ) → has_host found h ≡ true → (found.base ≤ h) × (h < found.base + found.size)
host_bounds found h has =
    let bounds = and_parts (nat_le found.base h) (nat_lt h (found.base + found.size)) has in
    (leb-true found.base h bounds.0, ltb-true h (found.base + found.size) bounds.1)

pub has_between : (found : Found) (h : ℕ) → found.base ≤ h → h < found.base + found.size → has_host found h ≡ true
has_between found h from below = and_from (nat_le found.base h) (nat_lt h (found.base + found.size)) (le-leb found.base h from) (lt-ltb h (found.base + found.size) below)

pub has_not : (found : Found) (h : ℕ) → LiesBeside h found.base found.size → has_host found h ≡ false
has_not found h (inl before) = ap (λ (b : Bool). b && nat_lt h (found.base + found.size)) (lt-leb found.base h before)
has_not found h (inr past) =
    ap (λ (b : Bool). b && nat_lt h (found.base + found.size)) (le-leb found.base h (omega (arith, past))) ∙ le-ltb h (found.base + found.size) past

-- ---- live regions that are apart

-- two live regions that share a host byte or a name are one
pub record AreApart (m : Machine) : Type 0 where
  pub host : (region other : Live) (h : ℕ) → Contains m.live region → Contains m.live other → has_host region.found h ≡ true → has_host other.found h ≡ true → region ≡ other
  pub name : (region other : Live) → Contains m.live region → Contains m.live other → region.name ≡ other.name → region ≡ other

pub live_apart : ShareLaw → (m : Machine) → IsMachine m → AreApart m
live_apart law m is = record {
  host = λ region other h there here one two.
      let own = host_bounds region.found h one in
      let its = host_bounds other.found h two in
      same_live m is region other there here
      (law m.settled (region_window m.settled region.found) (region_window m.settled other.found) region.found other.found h is.settled.system (live_is_region m is region there) (live_is_region m is other here)
      own.0 own.1 its.0 its.1);
  name = λ region other there here same. one_named (kept_regions m) is.regions.names region other (kept_there m region there) (kept_there m other here) same;
}

-- they are apart, too, where a region holds other bytes
pub changed_apart : (m : Machine) (name : List ℕ) (contents : Contents) → AreApart m → AreApart (with_contents name contents m)
changed_apart m name contents apart = record {
  host = λ region other h there here one two.
      let own = from_changed (changed name contents) m.live region there in
      let its = from_changed (changed name contents) m.live other here in
      let first : has_host own.0.found h ≡ true = ap (λ (f : Found). has_host f h) (sym (changed-found name contents own.0) ∙ ap (λ (r : Live). r.found) own.2) ∙ one in
      let second : has_host its.0.found h ≡ true = ap (λ (f : Found). has_host f h) (sym (changed-found name contents its.0) ∙ ap (λ (r : Live). r.found) its.2) ∙ two in
      sym own.2 ∙ ap (changed name contents) (apart.host own.0 its.0 h own.1 its.1 first second) ∙ its.2;
  name = λ region other there here same.
      let own = from_changed (changed name contents) m.live region there in
      let its = from_changed (changed name contents) m.live other here in
      let first : own.0.name ≡ region.name = sym (changed-name name contents own.0) ∙ ap (λ (r : Live). r.name) own.2 in
      let second : its.0.name ≡ other.name = sym (changed-name name contents its.0) ∙ ap (λ (r : Live). r.name) its.2 in
      sym own.2 ∙ ap (changed name contents) (apart.name own.0 its.0 own.1 its.1 (first ∙ same ∙ sym second)) ∙ its.2;
}

module _ (m : Machine) (apart : AreApart m) where
  -- a live region is found at each of its addresses
  pub found_at : (region : Live) (h : ℕ) → Contains m.live region → has_host region.found h ≡ true → live_at m h ≡ Some region
  found_at region h there has = go (live_at m h) refl
    where
      go : (o : Option Live) → live_at m h ≡ o → o ≡ Some region
      go None at = absurd (none_passes (λ (r : Live). has_host r.found h) m.live region there has at)
      go (Some other) at =
          let its = live_there m (λ (r : Live). has_host r.found h) other at in
          ap Some (apart.host other region h its.0 there its.1 has)

  pub byte_at : (region : Live) (h : ℕ) → Contains m.live region → has_host region.found h ≡ true → byte_of m h ≡ Some (content_at region.contents (offset_in region h))
  byte_at region h there has = ap (λ (o : Option Live). option_map (λ (r : Live). content_at r.contents (offset_in r h)) o) (found_at region h there has)

-- ---- a region that holds other bytes

module _ (m : Machine) (apart : AreApart m) (region : Live) (there : Contains m.live region) (contents : Contents) where
  abbrev after : Machine
  after = with_contents region.name contents m

  abbrev byte_in : ℕ → Option Live → Option ℕ
  byte_in h o = option_map (λ (r : Live). content_at r.contents (offset_in r h)) o

  found_after : (h : ℕ) → live_at after h ≡ option_map (changed region.name contents) (live_at m h)
  found_after h =
      found_changed (λ (r : Live). has_host r.found h) (changed region.name contents) (λ r. ap (λ (f : Found). has_host f h) (changed-found region.name contents r)) m.live

  named : changed region.name contents region ≡ record region { contents = contents }
  named = go (bytes_eq region.name region.name) ((bytes_eq-Decides region.name region.name).1 refl)
    where
      go : (b : Bool) → b ≡ true → (if b then record region { contents = contents } else region) ≡ record region { contents = contents }
      go true is = refl
      go false differ = absurd (false≢true differ)

  -- at its addresses these are the bytes
  pub byte_inside : (h : ℕ) → has_host region.found h ≡ true → byte_of after h ≡ Some (content_at contents (offset_in region h))
  byte_inside h has = ap (byte_in h) (found_after h ∙ ap (λ (o : Option Live). option_map (changed region.name contents) o) (found_at m apart region h there has) ∙ ap Some named)

  -- and at each other one the byte is as it was
  pub byte_outside : (h : ℕ) → has_host region.found h ≡ false → byte_of after h ≡ byte_of m h
  byte_outside h none = ap (byte_in h) (found_after h) ∙ go (live_at m h) refl
    where
      other_name : (other : Live) → live_at m h ≡ Some other → other.name ≢ region.name
      other_name other at same =
          let its = live_there m (λ (r : Live). has_host r.found h) other at in
          false≢true (sym none ∙ ap (λ (r : Live). has_host r.found h) (sym (apart.name other region its.0 there same)) ∙ its.1)

      go : (o : Option Live) → live_at m h ≡ o → byte_in h (option_map (changed region.name contents) o) ≡ byte_in h o
      go None at = refl
      go (Some other) at = ap (λ (r : Live). byte_in h (Some r)) (unchanged region.name contents other (other_name other at))
