-- There is room for the region of a pending job among the live ones, and its place is one of theirs.
use Rattle.std.proofs.Common.{◌≡◌, ℕ, ◌<◌, ◌≤◌, [], ◌∷◌, ◌++◌, length, Option, Some, sym, ap, ◌∙◌, subst, arith}
use Rattle.std.specs.Prelude.{IfSome}
use Rattle.std.proofs.lemmas.List.{length-append, length-map}
use Rattle.cxl_machine.specs.Machine.{Live, RegionJob, JobKind, Creates, Releases, Machine, region_released}
use Rattle.cxl_model.specs.Listed.{region_limit}
use Rattle.cxl_machine.specs.Sound.{IsMachine, IsJobOf, AreKept}
use Rattle.cxl_machine.proofs.KeepingJobs.{job_of, kept_of}
use Rattle.cxl_session.specs.State.{JobFields, SessionState}
use Rattle.cxl_session.specs.Standing.{released_place, IsJobFor, StandsFor}

room_by : (m : Machine) (job : RegionJob) (kind : JobKind) → IsJobOf m job kind → AreKept m (m.live ++ region_released job kind) → length m.live < region_limit
room_by m job (Creates rows) create kept = create.room
room_by m job (Releases place) release kept =
    let few = kept.few in
    omega (arith, few, length-append m.live (job.region ∷ []))

place_by : (m : Machine) (job : RegionJob) (kind : JobKind) → IsJobOf m job kind → IfSome (released_place kind) (λ place. place ≤ length m.live)
place_by m job (Creates rows) create = tt
place_by m job (Releases place) release = release.there

module _ (session : SessionState) (m : Machine) (own : JobFields) (job : RegionJob) (stands : StandsFor session m) (is : IsMachine m) (pending : m.job ≡ Some job) (same : IsJobFor m own job) where
  as_many : length session.names ≡ length m.live
  as_many = ap length stands.names ∙ length-map m.live (λ (r : Live). r.name)

  pub has_room : length session.names < region_limit
  has_room =
      let room = room_by m job job.kind (job_of m job is pending).kind (kept_of m job is pending) in
      let many = as_many in
      omega (arith, room, many)

  pub has_place : IfSome own.place (λ place. place ≤ length session.names)
  has_place =
      subst (λ (o : Option ℕ). IfSome o (λ place. place ≤ length session.names)) (sym same.place)
      (subst (λ (n : ℕ). IfSome (released_place job.kind) (λ place. place ≤ n)) (sym as_many) (place_by m job job.kind (job_of m job is pending).kind))
