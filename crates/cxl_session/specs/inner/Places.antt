-- A live region at its place among what a session keeps.
use Rattle.std.specs.Prelude.{◌≡◌, ℕ, Bool, List, Option, Some, None, find, slice_get, Contains, IsSomeAnd}
use Rattle.std.specs.Str.{bytes_eq}
use Rattle.cxl_model.specs.Bytes.{LiesInSpan}
use Rattle.cxl_machine.specs.Machine.{Live, Machine, has_host}
use Rattle.cxl_session.specs.State.{SessionState}
use Rattle.cxl_session.specs.Standing.{IsKeptIn}

-- the session keeps the name, the spans and the routes of a live region at this place
pub record StandsAt (session : SessionState) (m : Machine) (place : ℕ) (region : Live) : Type 0 where
  pub there : slice_get m.live place ≡ Some region
  pub name : slice_get session.names place ≡ Some region.name
  pub found : slice_get session.founds place ≡ Some region.found
  pub kept : IsSomeAnd (slice_get session.kept place) (IsKeptIn m.settled region.found)

-- the first live region that passes a test stands at this place, or none passes it
abbrev pub FindsAt : SessionState → Machine → (Live → Bool) → Option ℕ → Type 0
FindsAt session m test None = find test m.live ≡ None
FindsAt session m test (Some place) = (region : Live) × (find test m.live ≡ Some region) × StandsAt session m place region

-- the region that holds a host address stands at this place, or none holds it
abbrev pub HoldsAt : SessionState → Machine → ℕ → Option ℕ → Type 0
HoldsAt session m h place = FindsAt session m (λ (region : Live). has_host region.found h) place

-- the region of a name stands at this place, or none has it
abbrev pub IsNamedAt : SessionState → Machine → List ℕ → Option ℕ → Type 0
IsNamedAt session m name place = FindsAt session m (λ (region : Live). bytes_eq region.name name) place

-- no live region of this base has the byte of the endpoint's device in a span
abbrev pub HasNoneOf : Machine → ℕ → ℕ → ℕ → Type 0
HasNoneOf m base endpoint dpa =
    (region : Live) → Contains m.live region → region.found.base ≡ base → LiesInSpan region.found endpoint dpa → ⊥
