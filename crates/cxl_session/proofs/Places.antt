-- A live region stands at one place of all lists that a session keeps.
use Rattle.std.proofs.Common.{◌≡◌, ℕ, ◌+◌, ◌<◌, ◌≤◌, Bool, not, cond, ltb, List, [], ◌∷◌, map, length, Option, Some, None, MatchOption, inl, inr, refl, sym, ap, ◌∙◌, subst}
use Rattle.std.specs.Prelude.{slice_get, find, position, option_map, IsSomeAnd}
use Rattle.std.specs.List.{position_or_len}
use Rattle.std.specs.Str.{bytes_eq}
use Rattle.std.proofs.lemmas.Bool.{cases_lt, lt-ltb, le-ltb}
use Rattle.std.proofs.lemmas.List.{length-map}
use Rattle.std.proofs.lemmas.List.Folds.{find_at}
use Rattle.std.proofs.lemmas.Option.{slice_get-map, slice_get_past}
use Rattle.std.proofs.lemmas.Slice.Zip.{AllZip-left}
use Rattle.cxl_enc.proofs.Lists.{item}
use Rattle.cxl_model.specs.declared.found.Found.{Found}
use Rattle.cxl_machine.specs.Machine.{Live, Machine, has_host}
use Rattle.cxl_session.specs.State.{SessionState}
use Rattle.cxl_session.specs.Standing.{IsKeptIn, StandsFor}
use Rattle.cxl_session.specs.inner.Places.{StandsAt, FindsAt, HoldsAt, IsNamedAt}

-- ---- lists

-- the place among the images of a list is that among its items
pub position_or_len-map : {A B : Type 0} (f : A → B) (p : B → Bool) (xs : List A) → position_or_len p (map f xs) ≡ position_or_len (λ x. p (f x)) xs
position_or_len-map f p [] = refl
position_or_len-map f p (x ∷ xs) = ap (λ (n : ℕ). cond (not (p (f x))) (1 + n) 0) (position_or_len-map f p xs)

-- ---- a session

kept_at : (session : SessionState) (m : Machine) (place : ℕ) (region : Live) → StandsFor session m → slice_get m.live place ≡ Some region
    → IsSomeAnd (slice_get session.kept place) (IsKeptIn m.settled region.found)
kept_at session m place region stands there =
    let Q = λ (r : Live). IsKeptIn m.settled r.found in
    let P = λ (o : Option Live). MatchOption o (Unit {0}) (λ x. IsSomeAnd (slice_get session.kept place) (Q x)) in
    subst P there (AllZip-left Q m.live session.kept stands.kept place)

pub stands_at : (session : SessionState) (m : Machine) (place : ℕ) (region : Live) → StandsFor session m → slice_get m.live place ≡ Some region → StandsAt session m place region
stands_at session m place region stands there = record {
  there = there;
  name = ap (λ (xs : List (List ℕ)). slice_get xs place) stands.names ∙ slice_get-map (λ (r : Live). r.name) m.live place ∙ ap (option_map (λ (r : Live). r.name)) there;
  found = ap (λ (xs : List Found). slice_get xs place) stands.founds ∙ slice_get-map (λ (r : Live). r.found) m.live place ∙ ap (option_map (λ (r : Live). r.found)) there;
  kept = kept_at session m place region stands there;
}

-- as many regions are kept as are live
pub as_many : (session : SessionState) (m : Machine) → StandsFor session m → length session.founds ≡ length m.live
as_many session m stands = ap length stands.founds ∙ length-map m.live (λ (r : Live). r.found)

module _ {B : Type 0} (session : SessionState) (m : Machine) (stands : StandsFor session m) (f : Live → B) (test : B → Bool) (items : List B) (are : items ≡ map f m.live) where
  -- how many live regions stand before the first one that passes the test
  passed : ℕ
  passed = position_or_len (λ (r : Live). test (f r)) m.live

  passed_is : position_or_len test items ≡ passed
  unfolding passed
  passed_is = ap (position_or_len test) are ∙ position_or_len-map f test m.live

  same_count : length items ≡ length m.live
  same_count = ap length are ∙ length-map m.live f

  found_there : find (λ (r : Live). test (f r)) m.live ≡ slice_get m.live passed
  unfolding passed
  found_there = find_at (λ (r : Live). test (f r)) m.live

  -- the place that a search gives
  answer : position test items ≡ cond (ltb passed (length m.live)) (Some passed) None
  answer = cc (passed_is, same_count)

  at_place : passed < length m.live → position test items ≡ Some passed
  at_place low = answer ∙ ap (λ (b : Bool). cond b (Some passed) None) (lt-ltb passed (length m.live) low)

  at_none : length m.live ≤ passed → position test items ≡ None
  at_none past = answer ∙ ap (λ (b : Bool). cond b (Some passed) None) (le-ltb passed (length m.live) past)

  held : passed < length m.live → FindsAt session m (λ (r : Live). test (f r)) (Some passed)
  held low =
      let at = item m.live passed low in
      (at.0, found_there ∙ at.1, stands_at session m passed at.0 stands at.1)

  unheld : length m.live ≤ passed → FindsAt session m (λ (r : Live). test (f r)) None
  unheld past = found_there ∙ slice_get_past m.live passed past

  finds_at : (place : Option ℕ) → place ≡ position test items → FindsAt session m (λ (r : Live). test (f r)) place
  finds_at place is =
      elim (cases_lt passed (length m.live)) [
        | inl low ↦
            let some : place ≡ Some passed = is ∙ at_place low in
            subst (FindsAt session m (λ (r : Live). test (f r))) (sym some) (held low)
        | inr past ↦
            let none : place ≡ None = is ∙ at_none past in
            subst (FindsAt session m (λ (r : Live). test (f r))) (sym none) (unheld past)
      ]

-- by host address, among the spans
pub holds_at : (session : SessionState) (m : Machine) (h : ℕ) → StandsFor session m → (place : Option ℕ) → place ≡ position (λ found. has_host found h) session.founds → HoldsAt session m h place
holds_at session m h stands place is = finds_at session m stands (λ (r : Live). r.found) (λ (found : Found). has_host found h) session.founds stands.founds place is

-- by name, among the names
pub named_at : (session : SessionState) (m : Machine) (name : List ℕ) → StandsFor session m → (place : Option ℕ) → place ≡ position (λ own. bytes_eq own name) session.names → IsNamedAt session m name place
named_at session m name stands place is = finds_at session m stands (λ (r : Live). r.name) (λ (own : List ℕ). bytes_eq own name) session.names stands.names place is
