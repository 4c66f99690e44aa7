-- A session stands for a machine also where a live region has other bytes.
use Rattle.std.proofs.Common.{◌≡◌, ℕ, List, [], ◌∷◌, map, Option, Some, None, refl, sym, ap, ◌∙◌, subst}
use Rattle.std.specs.List.{AllZip}
use Rattle.cxl_model.specs.declared.found.Found.{Found}
use Rattle.cxl_model.specs.Contents.{Contents}
use Rattle.cxl_walk.specs.Keeping.{KeptFields}
use Rattle.cxl_machine.specs.Machine.{Live, RegionJob, Machine, with_contents}
use Rattle.cxl_machine.proofs.KeepingLists.{changed, changed-name, changed-found}
use Rattle.cxl_session.specs.State.{JobFields, SessionState}
use Rattle.cxl_session.specs.Standing.{IsKeptIn, HasSameJob, StandsFor}

module _ (name : List ℕ) (contents : Contents) where
  names_stay : (live : List Live) → map (λ (region : Live). region.name) (map (changed name contents) live) ≡ map (λ (region : Live). region.name) live
  names_stay [] = refl
  names_stay (region ∷ live) =
      ap (λ (n : List ℕ). n ∷ map (λ (r : Live). r.name) (map (changed name contents) live)) (changed-name name contents region)
      ∙ ap (λ (ns : List (List ℕ)). region.name ∷ ns) (names_stay live)

  founds_stay : (live : List Live) → map (λ (region : Live). region.found) (map (changed name contents) live) ≡ map (λ (region : Live). region.found) live
  founds_stay [] = refl
  founds_stay (region ∷ live) =
      ap (λ (f : Found). f ∷ map (λ (r : Live). r.found) (map (changed name contents) live)) (changed-found name contents region)
      ∙ ap (λ (fs : List Found). region.found ∷ fs) (founds_stay live)

  module _ (m : Machine) where
    abbrev IsKeptFor : Live → KeptFields → Type 0
    IsKeptFor region kept = IsKeptIn m.settled region.found kept

    kept_stays : (live : List Live) (kept : List KeptFields) → AllZip IsKeptFor live kept → AllZip IsKeptFor (map (changed name contents) live) kept
    kept_stays [] [] all = tt
    kept_stays [] (k ∷ ks) all = all
    kept_stays (region ∷ live) [] all = all
    kept_stays (region ∷ live) (k ∷ ks) all = (subst (λ (f : Found). IsKeptIn m.settled f k) (sym (changed-found name contents region)) all.0, kept_stays live ks all.1)

    job_stays : (own : Option JobFields) (job : Option RegionJob) → HasSameJob m own job → HasSameJob (with_contents name contents m) own job
    job_stays None None same = tt
    job_stays None (Some job) same = same
    job_stays (Some own) None same = same
    job_stays (Some own) (Some job) same = record {
      place = same.place;
      name = same.name;
      found = same.found;
      writes = same.writes;
      done = same.done;
      kept = same.kept;
    }

    pub stands_with : (session : SessionState) → StandsFor session m → StandsFor session (with_contents name contents m)
    stands_with session stands = record {
      nodes = stands.nodes;
      windows = stands.windows;
      frames = stands.frames;
      image = stands.image;
      names = stands.names ∙ sym (names_stay m.live);
      founds = stands.founds ∙ sym (founds_stay m.live);
      kept = kept_stays m.live session.kept stands.kept;
      job = job_stays session.job m.job stands.job;
    }
