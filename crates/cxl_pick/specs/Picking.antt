-- Which endpoints are picked for a number of ways (this project's rules).
use Rattle.std.specs.Prelude.{◌≡◌, ℕ, zero, suc, ◌+◌, ◌-◌, ◌*◌, ◌/◌, ◌%◌, ◌<◌, ◌==◌, nat_le, ◌&&◌, ◌||◌, ◌↔◌, not, max, Bool, true, false, if◌then◌else◌, List, [], ◌∷◌, ◌++◌, length, map, take, find, slice_get, Contains, AllPairs, Option, Some, None, option_map, option_and_then}
use Rattle.std.specs.Option.{option_map_or}
use Rattle.std.specs.List.{filter_map, flat_map, range_with_len}
use Rattle.cxl_enc.specs.Bits.{window_fixed}
use Rattle.cxl_enc.specs.Codes.{third_of, bits_of, log2_of, code_in_table, is_ways}
use Rattle.cxl_enc.specs.Caps.{targets_of}
use Rattle.cxl_topo.specs.Tree.{is_endpoint_at, child_of, bridge_with}
use Rattle.cxl_regs.specs.Words.{has_bit}
use Rattle.cxl_regs.specs.Rules.{endpoint_ways_ok, select_ok}
use Rattle.cxl_span.specs.Allotting.{all_committed, cursor_of}
use Rattle.cxl_span.specs.Partitions.{partition_start, partition_end}
use Rattle.cxl_window.specs.Fields.{WindowFields}
use Rattle.cxl_window.specs.Position.{is_usable}
use Rattle.cxl_model.specs.declared.request.Request.{Request}
use Rattle.cxl_model.specs.System.{System, decoders_at, ram_at, pmem_at}
use Rattle.cxl_model.specs.Rules.{permits}
use Rattle.cxl_model.specs.declared.plan.Plan.{Plan}
use Rattle.cxl_model.specs.Plans.{plan_code, IsLegalPlanIn}
use Rattle.cxl_legal.specs.Used.{AreEndpoints}
use Rattle.cxl_legal.specs.Endpoints.{cap_at}
use Rattle.cxl_legal.specs.Sizes.{IsSizeFor}
use Rattle.cxl_legal.specs.Windows.{agrees_on_gran}
use Rattle.cxl_legal.specs.Bases.{last_end, base_step}
use Rattle.cxl_legal.specs.Stated.{Fits}
use Rattle.cxl_pick.specs.declared.want.Want.{Want}
use Rattle.cxl_pick.specs.declared.fault.PickFault.{PickFault}
use Rattle.cxl_pick.specs.declared.fault.PickFault.TheVariants as faults

-- the request of these endpoints for what is wanted, under no name
abbrev pub asked : Want → List ℕ → Request
asked want endpoints = record { name = []; kind = want.kind; size = want.size; gran = want.gran; endpoints = endpoints }

-- the size that is wanted is one for the ways that are
abbrev pub IsWantedSize : Want → Type 0
IsWantedSize want = IsSizeFor want.size want.ways

-- ---- windows

-- it can be used, permits the kind, is not fixed, has the stated granularity where it has several ways, and its ways divide those that are wanted
abbrev pub can_take : Want → WindowFields → Bool
can_take want w =
    is_usable w.verdict && permits w want.kind && not (has_bit w.restrict window_fixed) && agrees_on_gran want.gran w
    && (want.ways % w.ways == 0)

-- the greatest address, as many steps from the window's base as it may be, from which the region still ends within the window
abbrev pub latest_start : Want → WindowFields → Option ℕ
latest_start want w =
    if nat_le want.size w.size then Some (w.base + (w.size - want.size) / base_step w * base_step w) else None

-- the code of the region
abbrev pub wanted_code : Want → WindowFields → ℕ
wanted_code want w = plan_code (asked want []) w want.ways

-- ---- nodes

-- a decoder of the node is left, and all that is committed in it ends at or below the latest start
abbrev pub is_open : System → ℕ → ℕ → Bool
is_open s start n = not (all_committed (decoders_at s n)) && nat_le (last_end s n) start

-- the bytes of each endpoint
abbrev pub wanted_share : Want → ℕ
wanted_share want = want.size / want.ways

-- endpoint m has room for its share after its last committed span
abbrev pub has_room : System → Want → ℕ → Bool
has_room s want m =
    nat_le (max (cursor_of (decoders_at s m)) (partition_start want.kind (ram_at s m)) + wanted_share want)
    (partition_end want.kind (ram_at s m) (pmem_at s m))

-- endpoint m could be one of the region's
abbrev pub can_serve_itself : System → Want → WindowFields → ℕ → ℕ → Bool
can_serve_itself s want w start m =
    is_open s start m
    && option_map_or (endpoint_ways_ok (cap_at s m)) (code_in_table want.ways) false
    && select_ok (cap_at s m) (wanted_code want w) (bits_of want.ways)
    && has_room s want m

-- the code that a port above so many endpoints of the region would have
abbrev pub port_code : Want → WindowFields → ℕ → ℕ
port_code want w m = wanted_code want w + log2_of (want.ways / (third_of w.ways * m))

-- port n could lead to m endpoints by u of its children, where so many of them have something to give
abbrev pub can_serve_by : System → Want → WindowFields → ℕ → ℕ → ℕ → ℕ → ℕ → Bool
can_serve_by s want w start n m willing u =
    is_open s start n
    && (m % u == 0)
    && nat_le u (targets_of (cap_at s n))
    && nat_le u willing
    && ((u == 1) || (nat_le (port_code want w m) 6 && select_ok (cap_at s n) (port_code want w m) (bits_of u)))

-- the children of node n, by rising port
abbrev pub children_of : System → ℕ → List ℕ
children_of s n = filter_map (child_of s.nodes n) (range_with_len 0 256)

-- the first u lists of those that the willing children offer for m / u each, with the greatest u of 8, 4, 2 and 1 that port n could serve by
abbrev pub port_gives : System → Want → WindowFields → ℕ → ℕ → ℕ → (ℕ → List (List ℕ)) → Option (List ℕ)
port_gives s want w start n m offers =
    option_map (λ u. flat_map (λ ns. ns) (take u (offers u)))
    (find (λ u. can_serve_by s want w start n m (length (offers u)) u) (8 ∷ 4 ∷ 2 ∷ 1 ∷ []))

-- what node n gives for m endpoints, over fewer than k levels: an endpoint itself for 1, and a port what its children give
unfoldable pub gives_within : ℕ → System → Want → WindowFields → ℕ → ℕ → ℕ → Option (List ℕ)
gives_within zero s want w start n m = None
gives_within (suc k) s want w start n m =
    if is_endpoint_at s.nodes n then (if (m == 1) && can_serve_itself s want w start n then Some (n ∷ []) else None)
    else port_gives s want w start n m (λ u. filter_map (λ child. gives_within k s want w start child (m / u)) (children_of s n))

-- What node n gives for m endpoints: an endpoint itself for one, where it is open, can have the ways and select, and has
-- room; a port what the first u of its willing children give, with the greatest u of 8, 4, 2 and 1 by which it can serve.
abbrev pub gives : System → Want → WindowFields → ℕ → ℕ → ℕ → Option (List ℕ)
gives s want w start n m = gives_within (length s.nodes) s want w start n m

-- ---- the pick

-- what each target bridge of the window gives for its share of the ways, where each gives something
abbrev pub all_given : List (Option (List ℕ)) → Option (List ℕ)
all_given [] = Some []
all_given (given ∷ rest) = option_and_then (λ ns. option_map (λ ms. ns ++ ms) (all_given rest)) given

-- what the target bridges of a window give for their shares
abbrev pub given_in : System → Want → WindowFields → Option (List ℕ)
given_in s want w =
    if can_take want w
    then option_and_then (λ start. all_given (map (λ uid. option_and_then (λ b. gives s want w start b (want.ways / w.ways)) (bridge_with s.nodes uid)) w.targets)) (latest_start want w)
    else None

-- the same numbers in rising order
pub record AreInOrder (given set : List ℕ) : Type 0 where
  pub order : AllPairs (λ a b. a < b) set
  pub same : (n : ℕ) → Contains given n ↔ Contains set n

-- w is the first window in which each target bridge gives something, and the set is what they give
pub record IsPicked (s : System) (want : Want) (w : WindowFields) (set : List ℕ) : Type 0 where
  pub place : ℕ
  pub there : slice_get s.windows place ≡ Some w
  pub given : List ℕ
  pub gives : given_in s want w ≡ Some given
  pub rising : AreInOrder given set
  pub first : (earlier : ℕ) (v : WindowFields) → earlier < place → slice_get s.windows earlier ≡ Some v → given_in s want v ≡ None

-- ---- refusals

-- no target bridges of a window all give something
abbrev pub NothingGiven : System → Want → Type 0
NothingGiven s want = (place : ℕ) (w : WindowFields) → slice_get s.windows place ≡ Some w → given_in s want w ≡ None

-- what each fault says: ways that no region has, a size that none has, or nothing that is given in any window
abbrev pub TellsPickFault : System → Want → PickFault → Type 0
TellsPickFault s want (faults.Ways n) = (n ≡ want.ways) × (is_ways want.ways ≡ false)
TellsPickFault s want faults.Size = (is_ways want.ways ≡ true) × (IsWantedSize want → ⊥)
TellsPickFault s want faults.NoSet = (is_ways want.ways ≡ true) × IsWantedSize want × NothingGiven s want
TellsPickFault s want faults.Memory = Unit {0}

-- ---- what is picked fits

-- the set keeps all that a request has to in this window at a base, and no set of so many endpoints does so in an earlier window
pub record FitsFirst (s : System) (want : Want) (w : WindowFields) (set : List ℕ) : Type 0 where
  pub base : ℕ
  pub fits : Fits s (asked want set) w base
  pub first : (earlier : WindowFields) (other : List ℕ) (start : ℕ) → earlier.index < w.index → length other ≡ want.ways → Fits s (asked want other) earlier start → ⊥

-- no set of so many endpoints keeps all that a request has to, in any window at any base
abbrev pub NothingFits : System → Want → Type 0
NothingFits s want = (w : WindowFields) (set : List ℕ) (base : ℕ) → length set ≡ want.ways → Fits s (asked want set) w base → ⊥

-- ---- what is picked has a legal plan

-- a set of so many endpoints has a legal plan in this window (a legal plan is one under any name)
pub record HasPlanIn (s : System) (want : Want) (w : WindowFields) (set : List ℕ) : Type 0 where
  pub named : AreEndpoints s (asked want set)
  pub count : length set ≡ want.ways
  pub plan : Plan
  pub legal : IsLegalPlanIn s (asked want set) w plan

-- the set has one in this window, and no set of so many endpoints has one in an earlier window
pub record PlansFirst (s : System) (want : Want) (w : WindowFields) (set : List ℕ) : Type 0 where
  pub has : HasPlanIn s want w set
  pub first : (earlier : WindowFields) (other : List ℕ) → earlier.index < w.index → HasPlanIn s want earlier other → ⊥

-- no set of so many endpoints has a legal plan in any window
abbrev pub NothingPlans : System → Want → Type 0
NothingPlans s want = (w : WindowFields) (set : List ℕ) → HasPlanIn s want w set → ⊥
