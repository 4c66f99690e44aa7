-- What is refused before a create begins, in its order, and the create that is asked for.
use Rattle.std.proofs.Common.{◌≡◌, ◌⊎◌, ℕ, ◌<◌, ◌≤◌, Bool, true, false, List, [], ◌∷◌, length, Result, Ok, Err, Option, Some, None, is_some, refl, sym, ap, ◌∙◌, subst, inl, inr}
use Rattle.std.specs.Prelude.{find, position, option_map, is_none, nat_le, if◌then◌else◌}
use Rattle.std.specs.Str.{bytes_eq}
use Rattle.std.proofs.lemmas.Bool.{false≢true, le-leb, lt-leb}
use Rattle.std.proofs.lemmas.List.{length-map}
use Rattle.cxl_topo.specs.declared.node.Node.{Node}
use Rattle.cxl_regs.specs.Registers.{Registers}
use Rattle.cxl_window.specs.Fields.{WindowFields}
use Rattle.cxl_script.specs.declared.command.Create.{Create}
use Rattle.cxl_model.specs.declared.found.Found.{Found}
use Rattle.cxl_model.specs.declared.plan.Plan.{Plan}
use Rattle.cxl_model.specs.declared.plan.Row.{Row}
use Rattle.cxl_model.specs.declared.request.Request.{Request}
use Rattle.cxl_model.specs.Plans.{IsLegalPlan}
use Rattle.cxl_model.specs.System.{System}
use Rattle.cxl_reply.specs.declared.reply.Reply.{Reply}
use Rattle.cxl_reply.specs.declared.reply.Reply.TheVariants as replies
use Rattle.cxl_legal.specs.Firsts.{first_there}
use Rattle.cxl_machine.specs.Machine.{Live, RegionJob, JobKind, Creates, Releases, Machine, blocks_with}
use Rattle.cxl_model.specs.Listed.{region_limit}
use Rattle.cxl_machine.specs.Creating.{AsksLegally}
use Rattle.cxl_machine.specs.Jobs.{create_job}
use Rattle.cxl_machine.specs.Replies.{endpoint_named}
use Rattle.cxl_request.specs.Endpoints.{first_unknown}
use Rattle.cxl_machine.specs.Requests.{busy, name_taken, no_endpoint, regions_full, refusal_of_create, job_of_plan, AsksUnrefused, AsksUnless, AsksCreate}
use Rattle.cxl_machine.proofs.KeepingBegun.{idle}
use Rattle.cxl_session.specs.State.{JobFields, SessionState, image_in}
use Rattle.cxl_session.specs.Standing.{StandsFor}
use Rattle.cxl_session.specs.inner.Creating.{IsSought, IsAskedPlan, IsPrepared, IsKeptCreate}
use Rattle.cxl_session.proofs.AskedReleases.{place_is, region_at, no_region_at}
use Rattle.cxl_session.proofs.PendingJobs.{no_job, same_job}

-- ---- the refusals, in their order

-- the first of four that holds
pub refused_by : (m : Machine) (create : Create) (a b c d : Option Reply) → busy m ≡ a → name_taken m create.name ≡ b → no_endpoint m create.endpoints ≡ c → regions_full m ≡ d
    → first_there (a ∷ b ∷ c ∷ d ∷ []) ≡ refusal_of_create m create
refused_by m create a b c d one two three four =
    sym
    (ap (λ (o : Option Reply). first_there (o ∷ name_taken m create.name ∷ no_endpoint m create.endpoints ∷ regions_full m ∷ [])) one
    ∙ ap (λ (o : Option Reply). first_there (a ∷ o ∷ no_endpoint m create.endpoints ∷ regions_full m ∷ [])) two
    ∙ ap (λ (o : Option Reply). first_there (a ∷ b ∷ o ∷ regions_full m ∷ [])) three
    ∙ ap (λ (o : Option Reply). first_there (a ∷ b ∷ c ∷ o ∷ [])) four)

module _ (session : SessionState) (m : Machine) (stands : StandsFor session m) where
  pub busy_is : (own : JobFields) → session.job ≡ Some own → busy m ≡ Some (replies.Busy own.name)
  busy_is own some =
      let pending = same_job m own session.job some m.job stands.job in
      ap (option_map (λ (j : RegionJob). replies.Busy j.region.name)) pending.1
      ∙ ap (λ (name : List ℕ). Some (replies.Busy name)) (sym pending.2.name)

  pub idle_is : session.job ≡ None → busy m ≡ None
  idle_is none = ap (option_map (λ (j : RegionJob). replies.Busy j.region.name)) (no_job m session.job none m.job stands.job)

  module _ (name : List ℕ) (place : Option ℕ) (is : place ≡ position (λ own. bytes_eq own name) session.names) where
    pub taken_is : is_some place ≡ true → name_taken m name ≡ Some (replies.NameTaken name)
    taken_is some = go place refl some
      where
        go : (o : Option ℕ) → place ≡ o → is_some o ≡ true → name_taken m name ≡ Some (replies.NameTaken name)
        go None same has = absurd (false≢true has)
        go (Some i) same has = ap (option_map (λ (region : Live). replies.NameTaken name)) (region_at m name i (place_is session m name stands place is ∙ same)).2

    pub free_is : is_some place ≡ false → name_taken m name ≡ None
    free_is none = go place refl none
      where
        go : (o : Option ℕ) → place ≡ o → is_some o ≡ false → name_taken m name ≡ None
        go None same has = ap (option_map (λ (region : Live). replies.NameTaken name)) (no_region_at m name (place_is session m name stands place is ∙ same))
        go (Some i) same has = absurd (false≢true (sym has))

  pub unknown_is : (names : List (List ℕ)) (o : Option (List ℕ)) → o ≡ find (λ name. is_none (endpoint_named session.topo.nodes name)) names → no_endpoint m names ≡ option_map replies.NoEndpoint o
  unknown_is names o is =
      ap (λ (nodes : List Node). option_map replies.NoEndpoint (find (λ name. is_none (endpoint_named nodes name)) names)) stands.nodes
      ∙ ap (option_map replies.NoEndpoint) (sym is)

  as_many : length m.live ≡ length session.names
  as_many = sym (ap length stands.names ∙ length-map m.live (λ (r : Live). r.name))

  pub full_is : region_limit ≤ length session.names → regions_full m ≡ Some replies.RegionsFull
  full_is full =
      ap (λ (n : ℕ). if nat_le region_limit n then Some replies.RegionsFull else None) as_many
      ∙ ap (λ (b : Bool). if b then Some replies.RegionsFull else None) (le-leb region_limit (length session.names) full)

  pub room_is : length session.names < region_limit → regions_full m ≡ None
  room_is room =
      ap (λ (n : ℕ). if nat_le region_limit n then Some replies.RegionsFull else None) as_many
      ∙ ap (λ (b : Bool). if b then Some replies.RegionsFull else None) (lt-leb region_limit (length session.names) room)

  -- ---- where none holds

  abbrev host : List Node → List Registers → List WindowFields → System
  host nodes blocks windows = record { nodes = nodes; blocks = blocks; windows = windows }

  -- the image of an idle machine is the settled one
  pub settled_is : m.job ≡ None → image_in session ≡ m.settled
  settled_is none =
      ap (λ (nodes : List Node). host nodes session.image session.windows) (sym stands.nodes)
      ∙ ap (λ (blocks : List Registers). host m.settled.nodes blocks session.windows) (stands.image ∙ ap (blocks_with m.settled.blocks) none)
      ∙ ap (host m.settled.nodes m.settled.blocks) (sym stands.windows)

  pub unrefused : (create : Create) → IsSought m create → image_in session ≡ m.settled
  unrefused create first = settled_is (idle m first.idle)

-- ---- the plan that is sought

-- nothing is refused before
none_refused : (m : Machine) (create : Create) → IsSought m create → refusal_of_create m create ≡ None
none_refused m create first = sym (refused_by m create None None None None first.idle first.free first.known first.room)

-- what is answered is what the create asks for
pub asked_as : (m : Machine) (create : Create) (asked : Result RegionJob Reply) → IsSought m create → AsksUnrefused m create asked → AsksCreate m create asked
asked_as m create asked first asks = subst (λ (r : Option Reply). AsksUnless m create r asked) (sym (none_refused m create first)) asks

-- so it is not refused outright
pub sought_unrefused : (m : Machine) (create : Create) → IsSought m create → is_some (refusal_of_create m create) ≡ true → ⊥
sought_unrefused m create first refused = false≢true (sym (ap is_some (none_refused m create first)) ∙ refused)

rows_in : JobKind → List Row
rows_in (Creates rows) = rows
rows_in (Releases place) = []

-- a job tells its plan
same_plan : (s : System) (plan other : Plan) → create_job s plan ≡ create_job s other → plan ≡ other
unfolding rows_in
same_plan s plan other same =
    ap (λ (name : List ℕ). made name plan.found plan.rows) (ap (λ (job : RegionJob). job.region.name) same)
    ∙ ap (λ (found : Found). made other.name found plan.rows) (ap (λ (job : RegionJob). job.region.found) same)
    ∙ ap (made other.name other.found) (ap (λ (job : RegionJob). rows_in job.kind) same)
  where
    made : List ℕ → Found → List Row → Plan
    made name found rows = record { name = name; found = found; rows = rows }

pub asks_legal : (m : Machine) (create : Create) (plan : Plan) → AsksLegally m create → AsksCreate m create (Ok (create_job m.settled plan)) → (request : Request) × IsLegalPlan m.settled request plan
asks_legal m create plan legally asks =
    let own = legally (create_job m.settled plan) asks in
    (own.request, subst (IsLegalPlan m.settled own.request) (same_plan m.settled own.plan plan (sym own.made)) own.legal)

-- the create of the plan is ready
pub is_create : (m : Machine) (create : Create) (plan : Plan) (own : JobFields) → AsksCreate m create (Ok (create_job m.settled plan)) → IsPrepared m.settled plan own → IsKeptCreate m create own
is_create m create plan own asks is = record {
  plan = plan;
  asked = asks;
  same = record { place = is.place; name = is.name; found = is.found; writes = is.writes; done = is.done; kept = is.kept };
}

-- the create that a line asks for of an idle session
module _ (session : SessionState) (m : Machine) (stands : StandsFor session m) (create : Create) (first : IsSought m create) where
  module _ (plan : Plan) (sought : IsAskedPlan m create (Ok plan)) (legally : AsksLegally m create) where
    asks : AsksCreate m create (Ok (create_job m.settled plan))
    asks = asked_as m create (Ok (create_job m.settled plan)) first sought

    -- it is that of a legal plan over the session's image
    pub legal_here : (request : Request) × IsLegalPlan (image_in session) request plan
    legal_here =
        let legal = asks_legal m create plan legally asks in
        (legal.0, subst (λ (s : System). IsLegalPlan s legal.0 plan) (sym (unrefused session m stands create first)) legal.1)

    pub create_here : (own : JobFields) → IsPrepared (image_in session) plan own → IsKeptCreate m create own
    create_here own is = is_create m create plan own asks (subst (λ (s : System). IsPrepared s plan own) (unrefused session m stands create first) is)

  pub refused_here : (refusal : Reply) → IsAskedPlan m create (Err refusal) → AsksCreate m create (Err refusal)
  refused_here refusal sought = asked_as m create (Err refusal) first sought
