-- A machine stays one where a live region holds other bytes.
use Rattle.std.proofs.Common.{◌≡◌, ◌≢◌, ℕ, ◌+◌, ◌<◌, Bool, true, false, if◌then◌else◌, List, ◌++◌, map, length, get_or, Option, Some, None, refl, sym, ◌∙◌, subst, arith, ◌≤◌}
use Rattle.std.specs.Prelude.{All, Contains, IfSome}
use Rattle.std.specs.Str.{bytes_eq}
use Rattle.std.proofs.lemmas.Slice.Eq.{bytes_eq-Decides}
use Rattle.std.proofs.lemmas.List.{get_or_append_left, get_or-append-add, length-map, length-append}
use Rattle.std.proofs.lemmas.List.Elements.{All-append, All-map, Contains-get_or}
use Rattle.cxl_model.specs.Contents.{Contents, AreContents}
use Rattle.cxl_model.specs.Listed.{AreRegions}
use Rattle.cxl_machine.specs.Machine.{Live, RegionJob, JobKind, Creates, Releases, Machine, under_release, with_contents, kept_regions, pieces_held}
use Rattle.cxl_machine.specs.Sound.{IsMachine, IsJob, IsJobOf, IsSettled, AreKept}
use Rattle.cxl_machine.proofs.KeepingLists.{changed, changed-name, same_founds, same_names, own_names}
use Rattle.cxl_enc.specs.Limits.{frame_limit}

pub same_bytes : (a b : List ℕ) → bytes_eq a b ≡ true → a ≡ b
same_bytes a b is = (bytes_eq-Decides a b).0 is

-- ---- the machine

-- the bytes that a region holds are some of its own
abbrev pub HoldsOwn : Live → Type 0
HoldsOwn region = AreContents region.found region.contents

-- all that a machine is, but that there is a frame for each piece
pub record IsUncounted (m : Machine) : Type 0 where
  pub settled : IsSettled m.settled
  pub regions : AreKept m (kept_regions m)
  pub job : IfSome m.job (IsJob m)
  pub frames : (1 ≤ m.frames) × (m.frames ≤ frame_limit)

pub uncounted : (m : Machine) → IsMachine m → IsUncounted m
uncounted m is = record { settled = is.settled; regions = is.regions; job = is.job; frames = is.frames }

pub counted : (m : Machine) → IsUncounted m → pieces_held m ≤ m.frames → IsMachine m
counted m is held = record { settled = is.settled; regions = is.regions; job = is.job; frames = is.frames; held = held }

module _ (m : Machine) (is : IsUncounted m) (name : List ℕ) (contents : Contents)
    (can : (region : Live) → Contains m.live region → bytes_eq region.name name ≡ true → AreContents region.found contents) where
  kept_at : (k : ℕ) (d : Live) → k < length m.live → HoldsOwn (get_or m.live k d)
  kept_at k d below =
      subst HoldsOwn (get_or_append_left m.live (under_release m.job) d k below)
      (is.regions.contents k d (omega (arith, below, length-append m.live (under_release m.job))))

  holds_by : (b : Bool) (region : Live) → (b ≡ true → AreContents region.found contents) → HoldsOwn region → HoldsOwn (if b then record region { contents = contents } else region)
  holds_by true region other own = other refl
  holds_by false region other own = own

  changed_hold : All (λ region. HoldsOwn (changed name contents region)) m.live
  changed_hold k d below =
      holds_by (bytes_eq (get_or m.live k d).name name) (get_or m.live k d) (can (get_or m.live k d) (Contains-get_or m.live k d below)) (kept_at k d below)

  released_hold : All HoldsOwn (under_release m.job)
  released_hold k d below =
      subst HoldsOwn (get_or-append-add m.live (under_release m.job) k d)
      (is.regions.contents (length m.live + k) d (omega (arith, below, length-append m.live (under_release m.job))))

  all_hold : All HoldsOwn (map (changed name contents) m.live ++ under_release m.job)
  all_hold = All-append HoldsOwn _ _ (All-map HoldsOwn (changed name contents) m.live changed_hold) released_hold

  as_many : length (map (changed name contents) m.live) ≡ length m.live
  as_many = length-map m.live (changed name contents)

  unnamed : (job : RegionJob) → All (λ (region : Live). region.name ≢ job.region.name) m.live
      → All (λ (region : Live). region.name ≢ job.region.name) (map (changed name contents) m.live)
  unnamed job own =
      All-map (λ (region : Live). region.name ≢ job.region.name) (changed name contents) m.live
      (λ k d below same. own k d below (sym (changed-name name contents (get_or m.live k d)) ∙ same))

  job_of : (job : RegionJob) (kind : JobKind) → IsJobOf m job kind → IsJobOf (with_contents name contents m) job kind
  job_of job (Creates rows) create = record {
    plan = create.plan;
    request = create.request;
    legal = create.legal;
    made = create.made;
    unnamed = unnamed job create.unnamed;
    room = let room = create.room in omega (arith, room, as_many);
  }
  job_of job (Releases place) release = record {
    made = release.made;
    unlocked = release.unlocked;
    last = release.last;
    there = let there = release.there in omega (arith, there, as_many);
  }

  job_kept : (o : Option RegionJob) → IfSome o (IsJob m) → IfSome o (IsJob (with_contents name contents m))
  job_kept None own = tt
  job_kept (Some job) own = record { kind = job_of job job.kind own.kind; part = own.part }

  pub stays_uncounted : IsUncounted (with_contents name contents m)
  stays_uncounted = record {
    settled = is.settled;
    regions = record {
      all = subst (AreRegions m.settled) (sym (same_founds name contents m.live (under_release m.job))) is.regions.all;
      names = own_names _ _ (same_names name contents m.live (under_release m.job)) is.regions.names;
      contents = all_hold;
      few = let few = is.regions.few in omega (arith, few, as_many, length-append m.live (under_release m.job), length-append (map (changed name contents) m.live) (under_release m.job));
    };
    job = job_kept m.job is.job;
    frames = is.frames;
  }
