-- What is refused before a release begins, in its order.
use Rattle.std.proofs.Common.{◌≡◌, ℕ, ◌<◌, Bool, true, List, [], ◌∷◌, map, length, Result, Ok, Err, Option, Some, None, refl, sym, ap, ◌∙◌, arith, inl, inr, cond, ltb}
use Rattle.std.specs.Prelude.{slice_get, find, position, option_map, option_and_then, is_none, if◌then◌else◌}
use Rattle.std.specs.Option.{option_map_or}
use Rattle.std.specs.List.{position_or_len}
use Rattle.std.specs.Str.{bytes_eq}
use Rattle.std.proofs.lemmas.Bool.{false≢true, cases_lt, lt-ltb, ltb-true}
use Rattle.std.proofs.lemmas.List.{length-map}
use Rattle.std.proofs.lemmas.List.Folds.{find_at}
use Rattle.std.proofs.lemmas.List.Quantifiers.{position-Some}
use Rattle.std.proofs.lemmas.Option.{none-some, same_Some, cond_some, slice_get_past}
use Rattle.std.proofs.lemmas.Slice.Eq.{bytes_eq-Decides}
use Rattle.cxl_topo.specs.declared.node.Node.{Node}
use Rattle.cxl_model.specs.declared.found.Found.{Found}
use Rattle.cxl_model.specs.declared.plan.Row.{Row}
use Rattle.cxl_model.specs.System.{system_of, blocks_alone}
use Rattle.cxl_regs.specs.Registers.{Registers}
use Rattle.cxl_apply.specs.Releases.{rows_of, first_locked, first_not_last}
use Rattle.cxl_reply.specs.declared.reply.Reply.{Reply}
use Rattle.cxl_reply.specs.declared.reply.Reply.TheVariants as replies
use Rattle.cxl_machine.specs.Regions.{begin_answer}
use Rattle.cxl_machine.specs.Replies.{is_refusal}
use Rattle.cxl_legal.specs.Firsts.{first_there}
use Rattle.cxl_enc.proofs.Lists.{find_passes, item}
use Rattle.cxl_machine.specs.Machine.{Live, RegionJob, Machine, live_named, place_named, blocks_with}
use Rattle.cxl_machine.specs.Jobs.{release_job}
use Rattle.cxl_machine.specs.Requests.{busy, no_region, locked, not_last, spot_of, release_at, job_unless, asked_release}
use Rattle.cxl_session.specs.declared.requests.Release.{Release}
use Rattle.cxl_session.specs.declared.session.Session.TheInside.{Inside}
use Rattle.cxl_session.specs.Inside.{job_fields, session_view}
use Rattle.cxl_session.specs.State.{SessionState}
use Rattle.cxl_session.specs.Standing.{StandsFor}
use Rattle.cxl_session.specs.inner.Requests.{IsNamedRelease}
use Rattle.cxl_session.specs.inner.Rows.{is_locked, is_not_last}
use Rattle.cxl_session.proofs.PendingJobs.{no_job}
use Rattle.cxl_session.proofs.Places.{position_or_len-map, stands_at}

-- ---- a region by its name

position-map : {A B : Type 0} (f : A → B) (p : B → Bool) (xs : List A) → position p (map f xs) ≡ position (λ x. p (f x)) xs
position-map f p xs =
    ap (λ (n : ℕ). cond (ltb n (length (map f xs))) (Some n) None) (position_or_len-map f p xs)
    ∙ ap (λ (n : ℕ). cond (ltb (position_or_len (λ x. p (f x)) xs) n) (Some (position_or_len (λ x. p (f x)) xs)) None) (length-map xs f)

-- the place among the names that a session keeps is that among the live regions
pub place_is : (session : SessionState) (m : Machine) (name : List ℕ) → StandsFor session m → (place : Option ℕ) → place ≡ position (λ own. bytes_eq own name) session.names → place_named m name ≡ place
place_is session m name stands place is =
    sym (position-map (λ (r : Live). r.name) (λ (own : List ℕ). bytes_eq own name) m.live)
    ∙ sym (ap (position (λ (own : List ℕ). bytes_eq own name)) stands.names) ∙ sym is

module _ (m : Machine) (name : List ℕ) where
  abbrev has_name : Live → Bool
  has_name region = bytes_eq region.name name

  -- the region at that place is the one of the name
  pub region_at : (place : ℕ) → place_named m name ≡ Some place → (region : Live) × (slice_get m.live place ≡ Some region) × (live_named m name ≡ Some region)
  region_at place is =
      let first = cond_some _ (position_or_len has_name m.live) place is in
      let low : place < length m.live = (let test = ltb-true (position_or_len has_name m.live) (length m.live) first.0 in let same = first.1 in omega (arith, test, same)) in
      let at = item m.live place low in
      (at.0, at.1, find_at has_name m.live ∙ ap (slice_get m.live) first.1 ∙ at.1)

  -- it has the name
  pub name_at : (region : Live) → live_named m name ≡ Some region → region.name ≡ name
  name_at region named = (bytes_eq-Decides region.name name).0 (find_passes has_name m.live region named)

  -- where there is none, no region has the name
  pub no_region_at : place_named m name ≡ None → live_named m name ≡ None
  no_region_at none =
      elim (cases_lt (position_or_len has_name m.live) (length m.live)) [
        | inl low ↦
            absurd (none-some (position_or_len has_name m.live)
            (sym none ∙ ap (λ (b : Bool). cond b (Some (position_or_len has_name m.live)) None) (lt-ltb (position_or_len has_name m.live) (length m.live) low)))
        | inr past ↦ find_at has_name m.live ∙ slice_get_past m.live (position_or_len has_name m.live) past
      ]

-- ---- the refusals, in their order

module _ (m : Machine) (name : List ℕ) where
  -- the first of four that holds
  asked_by : (a b c d : Option Reply) → busy m ≡ a → no_region m name ≡ b → locked m name ≡ c → not_last m name ≡ d → asked_release m name ≡ job_unless m name (first_there (a ∷ b ∷ c ∷ d ∷ []))
  asked_by a b c d one two three four =
      ap (λ (o : Option Reply). job_unless m name (first_there (o ∷ no_region m name ∷ locked m name ∷ not_last m name ∷ []))) one
      ∙ ap (λ (o : Option Reply). job_unless m name (first_there (a ∷ o ∷ locked m name ∷ not_last m name ∷ []))) two
      ∙ ap (λ (o : Option Reply). job_unless m name (first_there (a ∷ b ∷ o ∷ not_last m name ∷ []))) three
      ∙ ap (λ (o : Option Reply). job_unless m name (first_there (a ∷ b ∷ c ∷ o ∷ []))) four

  pub busy_refused : (job : RegionJob) → m.job ≡ Some job → asked_release m name ≡ Err (replies.Busy job.region.name)
  busy_refused job pending = asked_by (Some (replies.Busy job.region.name)) _ _ _ (ap (option_map (λ (j : RegionJob). replies.Busy j.region.name)) pending) refl refl refl

  module _ (idle : m.job ≡ None) where
    not_busy : busy m ≡ None
    not_busy = ap (option_map (λ (j : RegionJob). replies.Busy j.region.name)) idle

    pub unnamed_refused : live_named m name ≡ None → asked_release m name ≡ Err (replies.NoRegion name)
    unnamed_refused none =
        asked_by None (Some (replies.NoRegion name)) _ _ not_busy (ap (λ (o : Option Live). if is_none o then Some (replies.NoRegion name) else None) none) refl refl

    module _ (place : ℕ) (region : Live) (named : live_named m name ≡ Some region) (at : place_named m name ≡ Some place) (there : slice_get m.live place ≡ Some region) where
      is_named : no_region m name ≡ None
      is_named = ap (λ (o : Option Live). if is_none o then Some (replies.NoRegion name) else None) named

      locked_is : (o : Option Row) → first_locked m.settled region.found ≡ o → locked m name ≡ option_map (λ (row : Row). replies.Locked (spot_of row)) o
      locked_is o is =
          ap (λ (l : Option Live). option_map (λ (row : Row). replies.Locked (spot_of row)) (option_and_then (λ (r : Live). first_locked m.settled r.found) l)) named
          ∙ ap (option_map (λ (row : Row). replies.Locked (spot_of row))) is

      last_is : (o : Option Row) → first_not_last m.settled region.found ≡ o → not_last m name ≡ option_map (λ (row : Row). replies.NotLast (spot_of row)) o
      last_is o is =
          ap (λ (l : Option Live). option_map (λ (row : Row). replies.NotLast (spot_of row)) (option_and_then (λ (r : Live). first_not_last m.settled r.found) l)) named
          ∙ ap (option_map (λ (row : Row). replies.NotLast (spot_of row))) is

      pub locked_refused : (row : Row) → first_locked m.settled region.found ≡ Some row → asked_release m name ≡ Err (replies.Locked (spot_of row))
      locked_refused row is = asked_by None None (Some (replies.Locked (spot_of row))) _ not_busy is_named (locked_is (Some row) is) refl

      module _ (unlocked : first_locked m.settled region.found ≡ None) where
        pub last_refused : (row : Row) → first_not_last m.settled region.found ≡ Some row → asked_release m name ≡ Err (replies.NotLast (spot_of row))
        last_refused row is = asked_by None None None (Some (replies.NotLast (spot_of row))) not_busy is_named (locked_is None unlocked) (last_is (Some row) is)

        pub release_asked : first_not_last m.settled region.found ≡ None → asked_release m name ≡ Ok (release_job m.settled place region)
        release_asked last =
            asked_by None None None None not_busy is_named (locked_is None unlocked) (last_is None last)
            ∙ ap (λ (o : Option ℕ). option_map_or Ok (option_and_then (release_at m) o) (Err (replies.NoRegion name))) at
            ∙ ap (λ (o : Option Live). option_map_or Ok (option_map (release_job m.settled place) o) (Err (replies.NoRegion name))) there

        pub is_release : region.name ≡ name → (release : Release) → release.place ≡ place → release.rows.items ≡ rows_of m.settled region.found → first_not_last m.settled region.found ≡ None → IsNamedRelease m name release
        is_release own_name release same rows last = record {
          idle = idle;
          region = region;
          there = ap (slice_get m.live) same ∙ there;
          named = own_name;
          rows = rows;
          unlocked = unlocked;
          last = last;
          asked = release_asked last ∙ ap (λ (n : ℕ). Ok (release_job m.settled n region)) (sym same);
        }

-- a release that is asked for is not refused
pub released_unrefused : (m : Machine) (name : List ℕ) (job : RegionJob) → asked_release m name ≡ Ok job → is_refusal (begin_answer m (asked_release m name)).reply ≡ true → ⊥
released_unrefused m name job asked refused =
    false≢true (ap (λ (a : Result RegionJob Reply). is_refusal (begin_answer m a).reply) (sym asked) ∙ refused)

-- ---- what a session finds out

-- no job is pending, a region has the name, and these are its rows
pub record IsFound (session : SessionState) (name : List ℕ) (place : ℕ) (found : Found) (are : List Row) : Type 0 where
  pub idle : session.job ≡ None
  pub named : Some place ≡ position (λ own. bytes_eq own name) session.names
  pub there : slice_get session.founds place ≡ Some found
  pub rows : are ≡ rows_of (system_of session.image session.topo []) found

module _ (session : SessionState) (m : Machine) (name : List ℕ) (place : ℕ) (found : Found) (rows : List Row) (stands : StandsFor session m) (finds : IsFound session name place found rows) where
  idle : m.job ≡ None
  idle = no_job m session.job finds.idle m.job stands.job

  at : place_named m name ≡ Some place
  at = place_is session m name stands (Some place) finds.named

  own : (region : Live) × (slice_get m.live place ≡ Some region) × (live_named m name ≡ Some region)
  own = region_at m name place at

  same_found : own.0.found ≡ found
  same_found = same_Some own.0.found found (sym (stands_at session m place own.0 stands own.1).found ∙ finds.there)

  image_is : m.settled.blocks ≡ session.image
  image_is = sym (stands.image ∙ ap (blocks_with m.settled.blocks) idle)

  rows_are : rows ≡ rows_of m.settled own.0.found
  rows_are =
      finds.rows ∙ sym (ap (λ (blocks : List Registers). rows_of (system_of blocks session.topo []) found) image_is)
      ∙ sym (ap (λ (nodes : List Node). rows_of (record { nodes = nodes; blocks = m.settled.blocks; windows = [] }) found) stands.nodes)
      ∙ ap (rows_of m.settled) (sym same_found)

  locked_is_found : first_locked m.settled own.0.found ≡ find is_locked rows
  locked_is_found = ap (find is_locked) (sym rows_are)

  last_is_found : first_not_last m.settled own.0.found ≡ find (is_not_last (blocks_alone session.image)) rows
  last_is_found =
      ap (λ (blocks : List Registers). find (is_not_last (blocks_alone blocks)) (rows_of m.settled own.0.found)) image_is
      ∙ ap (find (is_not_last (blocks_alone session.image))) (sym rows_are)

  pub found_locked : (row : Row) → find is_locked rows ≡ Some row → asked_release m name ≡ Err (replies.Locked (spot_of row))
  found_locked row first = locked_refused m name idle place own.0 own.2 at own.1 row (locked_is_found ∙ first)

  module _ (free : find is_locked rows ≡ None) where
    -- nothing stands against it
    pub found_asked : find (is_not_last (blocks_alone session.image)) rows ≡ None → (job : RegionJob) × (asked_release m name ≡ Ok job)
    found_asked top = (release_job m.settled place own.0, release_asked m name idle place own.0 own.2 at own.1 (locked_is_found ∙ free) (last_is_found ∙ top))

    pub found_below : (row : Row) → find (is_not_last (blocks_alone session.image)) rows ≡ Some row → asked_release m name ≡ Err (replies.NotLast (spot_of row))
    found_below row first = last_refused m name idle place own.0 own.2 at own.1 (locked_is_found ∙ free) row (last_is_found ∙ first)

    pub found_release : (release : Release) → release.place ≡ place → release.rows.items ≡ rows → find (is_not_last (blocks_alone session.image)) rows ≡ None → IsNamedRelease m name release
    found_release release same items top =
        is_release m name idle place own.0 own.2 at own.1 (locked_is_found ∙ free) (name_at m name own.0 own.2) release same (items ∙ rows_are) (last_is_found ∙ top)

pub found_unnamed : (session : SessionState) (m : Machine) (name : List ℕ) → StandsFor session m → session.job ≡ None → None ≡ position (λ own. bytes_eq own name) session.names
    → asked_release m name ≡ Err (replies.NoRegion name)
found_unnamed session m name stands none past =
    unnamed_refused m name (no_job m session.job none m.job stands.job) (no_region_at m name (place_is session m name stands None past))

-- the same by the fields of a session
-- the region at a name's place
pub found_among : (session : SessionState) (inside : Inside) → session_view inside ≡ session → length inside.founds ≡ length inside.names.items → (name : List ℕ) (place : ℕ) (names : List (List ℕ))
    → Some place ≡ position (λ own. bytes_eq own name) names → names ≡ inside.names.items → (found : Found) × (slice_get session.founds place ≡ Some found)
found_among session inside view long name place names named same =
    let p = λ (own : List ℕ). bytes_eq own name in
    let at : Some place ≡ position p inside.names.items = named ∙ ap (position p) same in
    let low = (position-Some p inside.names.items place [] (sym at)).0 in
    let count : length inside.founds ≡ length session.founds = ap (λ (s : SessionState). length s.founds) view in
    item session.founds place (omega (arith, low, long, count))

pub found_inside : (session : SessionState) (inside : Inside) → session_view inside ≡ session → inside.job ≡ None → (name : List ℕ) (place : ℕ) (names : List (List ℕ))
    → Some place ≡ position (λ own. bytes_eq own name) names → names ≡ inside.names.items → (found : Found) → slice_get session.founds place ≡ Some found
    → (rows : List Row) → rows ≡ rows_of (system_of inside.image inside.topo []) found → IsFound session name place found rows
found_inside session inside view none name place names named same found there rows are =
    let at : Some place ≡ position (λ own. bytes_eq own name) inside.names.items = named ∙ ap (position (λ (own : List ℕ). bytes_eq own name)) same in
    let p = λ (own : List ℕ). bytes_eq own name in
    record {
      idle = ap (λ (s : SessionState). s.job) (sym view) ∙ ap (option_map job_fields) none;
      named = at ∙ ap (λ (s : SessionState). position p s.names) view;
      there = there;
      rows = are ∙ ap (λ (s : SessionState). rows_of (system_of s.image s.topo []) found) view;
    }
