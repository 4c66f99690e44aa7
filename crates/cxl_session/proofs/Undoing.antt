-- A job that was begun with no write made, and is undone, leaves the session as it was.
use Rattle.std.proofs.Common.{◌≡◌, ℕ, zero, suc, List, [], ◌∷◌, Option, Some, None, refl, sym, ap, ◌∙◌, subst}
use Rattle.std.specs.Prelude.{slice_get, insert, remove}
use Rattle.std.proofs.lemmas.Option.{none-some, same_Some}
use Rattle.cxl_bus.specs.RegsState.{RegsState}
use Rattle.cxl_media.specs.MediaState.{MediaState}
use Rattle.cxl_model.specs.declared.found.Found.{Found}
use Rattle.cxl_walk.specs.Keeping.{KeptFields}
use Rattle.cxl_machine.specs.Machine.{RegionJob, Machine}
use Rattle.cxl_session.specs.State.{JobFields, SessionState}
use Rattle.cxl_session.specs.Standing.{HasSameJob}
use Rattle.cxl_session.specs.inner.Regions.{taken_out, taken_in, session_begun, session_undone, LeavesUndone}

-- ---- lists

pub insert-remove : {X : Type 0} (xs : List X) (i : ℕ) (x : X) → slice_get xs i ≡ Some x → insert (remove xs i) i x ≡ xs
insert-remove [] i x at = absurd (none-some x at)
insert-remove {X = X} (y ∷ ys) zero x at = ap (λ (z : X). z ∷ ys) (sym (same_Some y x at))
insert-remove {X = X} (y ∷ ys) (suc i) x at = ap (λ (zs : List X). y ∷ zs) (insert-remove ys i x at)

-- what stands at the place of a release
abbrev pub IsAtPlace : {X : Type 0} → Option ℕ → X → List X → Type 0
IsAtPlace None x xs = Unit {0}
IsAtPlace (Some i) x xs = slice_get xs i ≡ Some x

back_in : {X : Type 0} (place : Option ℕ) (x : X) (xs : List X) → IsAtPlace place x xs → taken_in place x (taken_out place xs) ≡ xs
back_in None x xs at = refl
back_in (Some i) x xs at = insert-remove xs i x at

-- ---- sessions

-- no job is pending where the machine has none
pub no_own_job : (m : Machine) (own : Option JobFields) (job : Option RegionJob) → job ≡ None → HasSameJob m own job → own ≡ None
no_own_job m None job none same = refl
no_own_job m (Some own) job none same = absurd (subst (λ (o : Option RegionJob). HasSameJob m (Some own) o) none same)

-- no job is pending, and what the job keeps of its region is what the session keeps at the place of the release
pub record IsBegunFrom (session : SessionState) (own : JobFields) : Type 0 where
  pub idle : session.job ≡ None
  pub name : IsAtPlace own.place own.name session.names
  pub found : IsAtPlace own.place own.found session.founds
  pub kept : IsAtPlace own.place own.kept session.kept

pub undone_again : (session : SessionState) (own : JobFields) → IsBegunFrom session own → session_undone own (session_begun own session) ≡ session
undone_again session own is =
    ap (λ (names : List (List ℕ)). record session {
      names = names;
      founds = taken_in own.place own.found (taken_out own.place session.founds);
      kept = taken_in own.place own.kept (taken_out own.place session.kept);
      job = None;
    }) (back_in own.place own.name session.names is.name)
    ∙ ap (λ (founds : List Found). record session { founds = founds; kept = taken_in own.place own.kept (taken_out own.place session.kept); job = None })
    (back_in own.place own.found session.founds is.found)
    ∙ ap (λ (kept : List KeptFields). record session { kept = kept; job = None }) (back_in own.place own.kept session.kept is.kept)
    ∙ ap (λ (job : Option JobFields). record session { job = job }) (sym is.idle)

pub refused_again : (session pending next : SessionState) (own : JobFields) (old new : RegsState) (media left : MediaState) → IsBegunFrom session own → pending ≡ session_begun own session → own.done ≡ 0
    → LeavesUndone pending next old new media left → (next ≡ session) × (new.blocks ≡ old.blocks) × (left ≡ media)
refused_again session pending next own old new media left is begun fresh leaves =
    let all = leaves own (ap (λ (s : SessionState). s.job) begun) fresh in
    (all.0 ∙ ap (session_undone own) begun ∙ undone_again session own is, all.1, all.2)
