-- A session from whose lists the region at a place is taken.
use Rattle.std.proofs.Common.{◌≡◌, ℕ, List, get_or, Some, sym, ap, ◌∙◌}
use Rattle.std.specs.Prelude.{slice_get, remove}
use Rattle.std.proofs.lemmas.Option.{get_or_from_slice_get, same_Some}
use Rattle.cxl_model.specs.declared.found.Found.{Found}
use Rattle.cxl_walk.specs.Keeping.{KeptFields}
use Rattle.cxl_apply.specs.Steps.{JobState}
use Rattle.cxl_session.specs.declared.session.Session.TheInside.{Inside}
use Rattle.cxl_session.specs.Inside.{session_view}
use Rattle.cxl_session.specs.State.{JobFields, SessionState}
use Rattle.cxl_session.specs.inner.Regions.{session_begun, own_job}

abbrev removed : SessionState → List (List ℕ) → List Found → List KeptFields → JobFields → SessionState
removed session names founds kept own = record session { names = names; founds = founds; kept = kept; job = Some own }

one : {X : Type 0} (xs : List X) (place : ℕ) (x taken : X) → slice_get xs place ≡ Some x → taken ≡ get_or xs place taken → taken ≡ x
one xs place x taken at is = is ∙ get_or_from_slice_get xs place x taken at

module _ (session : SessionState) (place : ℕ) (job : JobState) (names : List (List ℕ)) (founds : List Found) (kepts : List KeptFields) (name : List ℕ) (found : Found) (kept : KeptFields) where
  pub begun_as_removed : (inside : Inside) → session_view inside ≡ session
      → names ≡ remove inside.names.items place → founds ≡ remove inside.founds place → kepts ≡ remove inside.kepts.items place
      → name ≡ get_or inside.names.items place name → slice_get inside.founds place ≡ Some found → kept ≡ get_or inside.kepts.items place kept
      → (own : List ℕ) (spans : Found) (routes : KeptFields) → slice_get session.names place ≡ Some own → slice_get session.founds place ≡ Some spans → slice_get session.kept place ≡ Some routes
      → removed (session_view inside) names founds kepts (own_job place name found kept job) ≡ session_begun (own_job place own spans routes job) session
  begun_as_removed inside view named there routed is_name is_found is_kept own spans routes at_name at_found at_kept =
      let same_name : name ≡ own = one inside.names.items place own name (ap (λ (s : SessionState). slice_get s.names place) view ∙ at_name) is_name in
      let same_found : found ≡ spans = same_Some found spans (sym is_found ∙ ap (λ (s : SessionState). slice_get s.founds place) view ∙ at_found) in
      let same_kept : kept ≡ routes = one inside.kepts.items place routes kept (ap (λ (s : SessionState). slice_get s.kept place) view ∙ at_kept) is_kept in
      ap (λ (ns : List (List ℕ)). removed (session_view inside) ns founds kepts (own_job place name found kept job)) named
      ∙ ap (λ (fs : List Found). removed (session_view inside) (remove inside.names.items place) fs kepts (own_job place name found kept job)) there
      ∙ ap (λ (ks : List KeptFields). removed (session_view inside) (remove inside.names.items place) (remove inside.founds place) ks (own_job place name found kept job)) routed
      ∙ ap (λ (n : List ℕ). session_begun (own_job place n found kept job) (session_view inside)) same_name
      ∙ ap (λ (f : Found). session_begun (own_job place own f kept job) (session_view inside)) same_found
      ∙ ap (λ (k : KeptFields). session_begun (own_job place own spans k job) (session_view inside)) same_kept
      ∙ ap (session_begun (own_job place own spans routes job)) view
