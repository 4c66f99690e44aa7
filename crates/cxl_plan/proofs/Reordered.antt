-- What a request comes to does not depend on the order of its endpoints: it asks only how many there are, which nodes stand above one, above how many, and
-- which nodes are among them.
use Rattle.std.proofs.Common.{◌≡◌, ◌≢◌, ℕ, zero, suc, ◌+◌, ◌-◌, ◌*◌, ◌/◌, ◌%◌, ◌^◌, Bool, true, false, not, ◌&&◌, ◌||◌, max, List, [], ◌∷◌, length, map, filter, get_or, Option, Some, None, Result, Ok, Err, refl, sym, ap, subst, ◌∙◌, inl, inr}
use Rattle.std.specs.Prelude.{◌==◌, nat_lt, nat_le, if◌then◌else◌, fold, find, slice_get, option_map, option_and_then, is_none, unwrap_or, sum_by, AllPairs}
use Rattle.std.specs.Bool.{then_some}
use Rattle.std.specs.Option.{option_map_or}
use Rattle.std.specs.List.{list_any, list_all, filter_map, range_with_len}
use Rattle.std.specs.List.Sorted.{IsPermutation}
use Rattle.std.proofs.lemmas.Bool.{cases_eq, eqb-true, eqb-false, eq-eqb, false_from_ne_true}
use Rattle.std.proofs.lemmas.List.Sorted.{IsPermutation-sym, length_permutation, list_any-IsPermutation, sum_by-IsPermutation}
use Rattle.std.proofs.lemmas.List.Sums.{length-filter}
use Rattle.std.proofs.lemmas.Map.Keys.{IsDistinct-IsPermutation, IsDistinct-from_apart, apart_from_distinct}
use Rattle.std.proofs.lemmas.Option.{none-some}
use Rattle.cxl_enc.specs.declared.caps.MemKind.TheVariants.{Ram}
use Rattle.cxl_enc.specs.Caps.{targets_of, is_target_count}
use Rattle.cxl_enc.specs.Codes.{bits_of, code_in_table, is_ways}
use Rattle.cxl_topo.specs.Tree.{is_endpoint_at, is_bridge_at, is_port_at, forwards_at, child_of, bridge_with, ports_above}
use Rattle.cxl_regs.specs.Reading.{committed_count}
use Rattle.cxl_regs.specs.Rules.{endpoint_ways_ok, select_ok}
use Rattle.cxl_regs.specs.Words.{has_bit}
use Rattle.cxl_span.specs.declared.allotting.Room.{Room}
use Rattle.cxl_span.specs.declared.allotting.SpanFault.{SpanFault}
use Rattle.cxl_span.specs.declared.allotting.SpanFault.TheVariants.{PastRam, NoRoom}
use Rattle.cxl_span.specs.Allotting.{all_committed, cursor_of}
use Rattle.cxl_window.specs.Fields.{WindowFields}
use Rattle.cxl_window.specs.Position.{is_usable}
use Rattle.cxl_window.specs.Windows.{first_repeat}
use Rattle.cxl_model.specs.declared.found.Place.{Place}
use Rattle.cxl_model.specs.declared.plan.Plan.{Plan}
use Rattle.cxl_model.specs.declared.plan.PlanFault.{PlanFault}
use Rattle.cxl_model.specs.declared.plan.PlanFault.TheVariants as faults
use Rattle.cxl_model.specs.declared.plan.Reason.{Reason}
use Rattle.cxl_model.specs.declared.plan.Reason.TheVariants as reasons
use Rattle.cxl_model.specs.declared.plan.Row.{Row}
use Rattle.cxl_model.specs.declared.request.Request.{Request}
use Rattle.cxl_model.specs.Counts.{is_under}
use Rattle.cxl_model.specs.Plans.{plan_code}
use Rattle.cxl_model.specs.Ranges.{product, same_kind}
use Rattle.cxl_model.specs.Regions.{target_position}
use Rattle.cxl_model.specs.Rules.{permits}
use Rattle.cxl_model.specs.System.{System, decoders_at, ram_at}
use Rattle.cxl_legal.specs.Bases.{last_end, base_step}
use Rattle.cxl_legal.specs.Endpoints.{cap_at, is_uneven, lacks_decoder}
use Rattle.cxl_legal.specs.Firsts.{first_there}
use Rattle.cxl_legal.specs.Sizes.{is_size_for}
use Rattle.cxl_legal.specs.Stated.{stated_start, targets_word, planned_port}
use Rattle.cxl_legal.specs.Used.{request_ways, is_used, count_under}
use Rattle.cxl_legal.specs.Windows.{is_target, agrees_on_gran}
use Rattle.cxl_plan.specs.Faults.{least}
use Rattle.cxl_plan.specs.Planned.{next_room, refused_span, span_fault, fault_before_windows, least_base, reason_of, led_within, stated_plan, in_first_window, unless_fault, planned}
use Rattle.cxl_plan.proofs.FaultOrder.{different}
use Rattle.cxl_plan.proofs.LegalPlans.{none_repeats}
use Rattle.cxl_plan.proofs.ComputedFaults.{is_asked}

-- ---- what is asked of the endpoints, and all that follows from it

module _ (s : System) (request : Request) (ways : ℕ) (used : ℕ → Bool) (under : ℕ → ℕ) (asked : ℕ → Bool) where
  -- nodes
  abbrev ports : ℕ → List ℕ
  ports n = filter (λ port. option_map_or used (child_of s.nodes n port) false) (range_with_len 0 256)

  abbrev at_port : ℕ → ℕ → ℕ
  at_port n port = option_map_or under (child_of s.nodes n port) 0

  abbrev node_ways : ℕ → ℕ
  node_ways n = if is_endpoint_at s.nodes n then ways else length (ports n)

  abbrev ways_above : ℕ → ℕ
  ways_above n = product (map (λ parent. node_ways parent.node) (ports_above s.nodes n))

  abbrev node_code : WindowFields → ℕ → ℕ
  node_code w n =
      if node_ways n == 1 then 0
      else (if is_endpoint_at s.nodes n then plan_code request w ways
      else plan_code request w ways + bits_of w.ways + sum_by (λ parent. bits_of (node_ways parent.node)) (ports_above s.nodes n))

  -- faults
  abbrev share : ℕ
  share = request.size / ways

  abbrev even_children : ℕ → Bool
  even_children n = list_all (λ port. list_all (λ other. at_port n port == at_port n other) (ports n)) (ports n)

  abbrev bridge_share : ℕ → Bool
  bridge_share n =
      not (is_bridge_at s.nodes n)
      || option_map_or (λ first. under n == under first) (find (λ b. is_bridge_at s.nodes b && used b) (range_with_len 0 (length s.nodes))) true

  abbrev uneven : ℕ → Bool
  uneven n =
      is_port_at s.nodes n && used n
      && not ((is_target_count (length (ports n)) && nat_le (length (ports n)) (targets_of (cap_at s n))) && even_children n && bridge_share n)

  abbrev refused : ℕ → Option SpanFault
  refused m =
      if same_kind request.kind Ram && nat_lt (ram_at s m) (cursor_of (decoders_at s m))
      then Some (PastRam (cursor_of (decoders_at s m)))
      else then_some (nat_lt (next_room s request m).limit ((next_room s request m).start + share)) (NoRoom (next_room s request m))

  abbrev fault_at : ℕ → Option PlanFault
  fault_at m = if asked m then option_map (faults.Span m) (refused m) else None

  abbrev fault_behind : Option ℕ → Option PlanFault
  fault_behind repeat = first_there (
      option_map faults.Repeat repeat
      ∷ then_some (not (is_ways ways)) (faults.Ways ways)
      ∷ then_some (not (is_size_for request.size ways)) faults.Size
      ∷ option_map faults.Uneven (least s uneven)
      ∷ option_map faults.NoDecoder (least s (λ n. used n && all_committed (decoders_at s n)))
      ∷ first_there (map fault_at (range_with_len 0 (length s.nodes)))
      ∷ []
      )

  -- windows
  abbrev bridges : WindowFields → Bool
  bridges w =
      list_all (λ uid. option_map_or used (bridge_with s.nodes uid) false) w.targets
      && list_all (λ n. not (is_bridge_at s.nodes n && used n) || is_target s w n) (range_with_len 0 (length s.nodes))

  abbrev selects : WindowFields → ℕ → Bool
  selects w n = not (used n) || (nat_le (node_code w n) 6 && select_ok (cap_at s n) (node_code w n) (bits_of (node_ways n)))

  abbrev has_ways : ℕ → Bool
  has_ways n = not (is_endpoint_at s.nodes n && used n) || option_map_or (endpoint_ways_ok (cap_at s n)) (code_in_table ways) false

  abbrev last_used : ℕ
  last_used = fold (λ most n. max most (last_end s n)) 0 (filter used (range_with_len 0 (length s.nodes)))

  abbrev base_of : WindowFields → ℕ
  base_of w = w.base + (last_used - w.base + (base_step w - 1)) / base_step w * base_step w

  abbrev room : WindowFields → Room
  room w = record { start = base_of w; limit = w.base + w.size }

  abbrev reason : WindowFields → Option Reason
  reason w = first_there (
      then_some (not (is_usable w.verdict)) reasons.Unusable
      ∷ then_some (not (permits w request.kind)) reasons.Kind
      ∷ then_some (has_bit w.restrict 4) reasons.Fixed
      ∷ then_some (not (bridges w)) reasons.Bridges
      ∷ then_some (not (agrees_on_gran request.gran w)) reasons.Gran
      ∷ option_map reasons.Select (least s (λ m. not (selects w m)))
      ∷ option_map reasons.WaysCap (least s (λ m. not (has_ways m)))
      ∷ then_some (nat_lt (room w).limit ((room w).start + request.size)) (reasons.NoBase (room w))
      ∷ []
      )

  -- the plan
  abbrev port_of : WindowFields → ℕ → ℕ → Option ℕ
  port_of w slot n = slice_get (ports n) (slot / (2 ^ bits_of w.ways * ways_above n) % node_ways n)

  abbrev row_of : WindowFields → ℕ → ℕ → Row
  row_of w base n = record {
    node = n;
    index = committed_count (decoders_at s n);
    decoder = record {
      base = base;
      size = request.size;
      ways = unwrap_or (code_in_table (node_ways n)) 0;
      gran = node_code w n;
      lock = false;
      commit = false;
      committed = false;
      error = false;
      host_only = true;
      tail = if is_endpoint_at s.nodes n then stated_start s request n - cursor_of (decoders_at s n) else targets_word (ports n);
    };
  }

  abbrev place_of : (ℕ → ℕ → Option ℕ) → WindowFields → ℕ → Option Place
  place_of led w slot =
      option_map (λ m. record { endpoint = m; start = stated_start s request m })
      (option_and_then (led slot) (option_and_then (bridge_with s.nodes) (slice_get w.targets (target_position w slot))))

  abbrev plan_in : (ℕ → ℕ → Option ℕ) → WindowFields → ℕ → Plan
  plan_in led w base = record {
    name = request.name;
    found = record {
      base = base;
      size = request.size;
      window = w.index;
      gran = plan_code request w ways;
      ways = ways;
      kind = request.kind;
      spans = filter_map (place_of led w) (range_with_len 0 ways);
    };
    rows = map (row_of w base) (filter (λ n. used n && not (forwards_at s.nodes n)) (range_with_len 0 (length s.nodes)));
  }

-- ---- repeats

equal_flips : (x y : ℕ) → (x == y) ≡ (y == x)
equal_flips x y =
    elim (cases_eq x y) [
      | inl same ↦ eq-eqb x y same ∙ sym (eq-eqb y x (sym same))
      | inr other ↦ false_from_ne_true (x == y) (λ is. other (eqb-true x y is)) ∙ sym (false_from_ne_true (y == x) (λ is. other (sym (eqb-true y x is))))
    ]

still_differ : (xs ys : List ℕ) → IsPermutation xs ys → AllPairs (λ a b. a ≢ b) xs → AllPairs (λ a b. a ≢ b) ys
still_differ xs ys is differ =
    let start = IsDistinct-from_apart (λ a b. a == b) xs (λ i j d low within. false_from_ne_true (get_or xs i d == get_or xs j d) (λ same. differ i j d low within (eqb-true (get_or xs i d) (get_or xs j d) same))) in
    let after = IsDistinct-IsPermutation (λ a b. a == b) equal_flips xs ys is start in
    λ i j d low within. eqb-false (get_or ys i d) (get_or ys j d) (apart_from_distinct (λ a b. a == b) ys i j d after low within)

pub none_repeats_still : (xs ys : List ℕ) → IsPermutation xs ys → first_repeat [] xs ≡ None → first_repeat [] ys ≡ None
none_repeats_still xs ys is none = none_repeats [] ys (still_differ xs ys is (different xs none))

-- ---- counts

same_count : (p : ℕ → Bool) (xs ys : List ℕ) → IsPermutation xs ys → length (filter p xs) ≡ length (filter p ys)
same_count p xs ys is = length-filter p xs ∙ sym (sum_by-IsPermutation (λ x. if p x then 1 else 0) xs ys is) ∙ sym (length-filter p ys)

-- ---- no other fault is told as a repeat

no_span : (k : ℕ → Option SpanFault) (asked : ℕ → Bool) (ns : List ℕ) (m : ℕ) → first_there (map (λ n. if asked n then option_map (faults.Span n) (k n) else None) ns) ≡ Some (faults.Repeat m) → ⊥
no_span k asked [] m e = none-some (faults.Repeat m) e
no_span k asked (n ∷ ns) m e = by_test (asked n) (k n) (no_span k asked ns m) e
  where
    by_test : (b : Bool) (o : Option SpanFault) → (first_there (map (λ n. if asked n then option_map (faults.Span n) (k n) else None) ns) ≡ Some (faults.Repeat m) → ⊥)
        → first_there ((if b then option_map (faults.Span n) o else None) ∷ map (λ n. if asked n then option_map (faults.Span n) (k n) else None) ns) ≡ Some (faults.Repeat m) → ⊥
    by_test false o rest e = rest e
    by_test true None rest e = rest e
    by_test true (Some fault) rest e = differ e
      where
        differ : ◌≡◌ {A = Option PlanFault} (Some (faults.Span n fault)) (Some (faults.Repeat m)) → ⊥
        differ e = cc

no_other : (m ways : ℕ) (a b : Bool) (o p : Option ℕ) (q : Option PlanFault) → (q ≡ Some (faults.Repeat m) → ⊥)
    → first_there (None ∷ then_some a (faults.Ways ways) ∷ then_some b faults.Size ∷ option_map faults.Uneven o ∷ option_map faults.NoDecoder p ∷ q ∷ []) ≡ Some (faults.Repeat m) → ⊥
no_other m ways true b o p q last e = differ e
  where
    differ : ◌≡◌ {A = Option PlanFault} (Some (faults.Ways ways)) (Some (faults.Repeat m)) → ⊥
    differ e = cc
no_other m ways false true o p q last e = differ e
  where
    differ : ◌≡◌ {A = Option PlanFault} (Some faults.Size) (Some (faults.Repeat m)) → ⊥
    differ e = cc
no_other m ways false false (Some n) p q last e = differ e
  where
    differ : ◌≡◌ {A = Option PlanFault} (Some (faults.Uneven n)) (Some (faults.Repeat m)) → ⊥
    differ e = cc
no_other m ways false false None (Some n) q last e = differ e
  where
    differ : ◌≡◌ {A = Option PlanFault} (Some (faults.NoDecoder n)) (Some (faults.Repeat m)) → ⊥
    differ e = cc
no_other m ways false false None None (Some fault) last e = last e
no_other m ways false false None None None last e = none-some (faults.Repeat m) e

module _ (s : System) (request : Request) (m : ℕ) where
  by_window : (o : Option WindowFields) → in_first_window s request o ≡ Err (faults.Repeat m) → ⊥
  by_window None e = differ e
    where
      differ : ◌≡◌ {A = Result Plan PlanFault} (Err (faults.NoWindow (filter_map (reason_of s request) s.windows))) (Err (faults.Repeat m)) → ⊥
      differ e = cc
  by_window (Some w) e = differ e
    where
      differ : ◌≡◌ {A = Result Plan PlanFault} (Ok (stated_plan s request w (least_base s request w))) (Err (faults.Repeat m)) → ⊥
      differ e = cc

  by_fault : (o : Option PlanFault) → (o ≡ Some (faults.Repeat m) → ⊥) → unless_fault s request o ≡ Err (faults.Repeat m) → ⊥
  by_fault None early e = by_window (find (λ w. is_none (reason_of s request w)) s.windows) e
  by_fault (Some fault) early e = early (same e)
    where
      same : ◌≡◌ {A = Result Plan PlanFault} (Err fault) (Err (faults.Repeat m)) → Some fault ≡ Some (faults.Repeat m)
      same e = cc

  -- where none repeats, no repeat is told
  pub no_repeat_told : first_repeat [] request.endpoints ≡ None → planned s request ≡ Err (faults.Repeat m) → ⊥
  no_repeat_told none e = by_fault (fault_before_windows s request) early e
    where
      early : fault_before_windows s request ≡ Some (faults.Repeat m) → ⊥
      early is =
          no_other m (request_ways request) (not (is_ways (request_ways request))) (not (is_size_for request.size (request_ways request))) (least s (is_uneven s request)) (least s (lacks_decoder s request))
          (first_there (map (span_fault s request) (range_with_len 0 (length s.nodes))))
          (λ last. no_span (refused_span s request) (λ n. list_any (λ endpoint. endpoint == n) request.endpoints) (range_with_len 0 (length s.nodes)) m last)
          (subst (λ (o : Option ℕ). first_there (
          option_map faults.Repeat o
          ∷ then_some (not (is_ways (request_ways request))) (faults.Ways (request_ways request))
          ∷ then_some (not (is_size_for request.size (request_ways request))) faults.Size
          ∷ option_map faults.Uneven (least s (is_uneven s request))
          ∷ option_map faults.NoDecoder (least s (lacks_decoder s request))
          ∷ first_there (map (span_fault s request) (range_with_len 0 (length s.nodes)))
          ∷ []
          ) ≡ Some (faults.Repeat m)) none is)

-- ---- in any order

module _ (s : System) (request : Request) (endpoints : List ℕ) (is : IsPermutation request.endpoints endpoints) where
  abbrev other : Request
  other = record request { endpoints = endpoints }

  same_ways : length request.endpoints ≡ length endpoints
  same_ways = sym (length_permutation request.endpoints endpoints is)

  same_used : (n : ℕ) → is_used s request n ≡ is_used s other n
  same_used n = list_any-IsPermutation (is_under s.nodes n) request.endpoints endpoints is

  same_under : (n : ℕ) → count_under s request n ≡ count_under s other n
  same_under n = same_count (is_under s.nodes n) request.endpoints endpoints is

  same_asked : (m : ℕ) → list_any (λ endpoint. endpoint == m) request.endpoints ≡ list_any (λ endpoint. endpoint == m) endpoints
  same_asked m = list_any-IsPermutation (λ endpoint. endpoint == m) request.endpoints endpoints is

  -- what an answer is made of
  same_faults : (repeat : Option ℕ) → fault_behind s request (length request.endpoints) (is_used s request) (count_under s request) (is_asked request) repeat
      ≡ fault_behind s other (length endpoints) (is_used s other) (count_under s other) (is_asked other) repeat
  same_faults repeat = λ i. fault_behind s request (same_ways i) (λ n. same_used n i) (λ n. same_under n i) (λ m. same_asked m i) repeat

  same_reason : (w : WindowFields) → reason_of s request w ≡ reason_of s other w
  same_reason w = λ i. reason s request (same_ways i) (λ n. same_used n i) (λ n. same_under n i) (λ m. same_asked m i) w

  same_base : (w : WindowFields) → least_base s request w ≡ least_base s other w
  same_base w = λ i. base_of s request (same_ways i) (λ n. same_used n i) (λ n. same_under n i) (λ m. same_asked m i) w

  same_port : (w : WindowFields) (slot n : ℕ) → planned_port s request w slot n ≡ planned_port s other w slot n
  same_port w slot n = λ i. port_of s request (same_ways i) (λ n. same_used n i) (λ n. same_under n i) (λ m. same_asked m i) w slot n

  same_led : (k : ℕ) (w : WindowFields) (slot n : ℕ) → led_within k s request w slot n ≡ led_within k s other w slot n
  same_led zero w slot n = refl
  same_led (suc k) w slot n =
      λ i. if is_endpoint_at s.nodes n then Some n
      else option_and_then (λ m. same_led k w slot m i) (option_and_then (child_of s.nodes n) (same_port w slot n i))

  same_plan_in : (w : WindowFields) (base : ℕ) → stated_plan s request w base ≡ stated_plan s other w base
  same_plan_in w base =
      λ i. plan_in s request (same_ways i) (λ n. same_used n i) (λ n. same_under n i) (λ m. same_asked m i) (λ slot n. same_led (length s.nodes) w slot n i) w base

  same_first : (o : Option WindowFields) → in_first_window s request o ≡ in_first_window s other o
  same_first None = λ i. Err (faults.NoWindow (filter_map (λ w. same_reason w i) s.windows))
  same_first (Some w) = ap Ok (same_plan_in w (least_base s request w) ∙ ap (stated_plan s other w) (same_base w))

  same_tests : ◌≡◌ {A = WindowFields → Bool} (λ w. is_none (reason_of s request w)) (λ w. is_none (reason_of s other w))
  same_tests = λ i w. is_none (same_reason w i)

  same_unless : (o : Option PlanFault) → unless_fault s request o ≡ unless_fault s other o
  same_unless (Some fault) = refl
  same_unless None =
      same_first (find (λ w. is_none (reason_of s request w)) s.windows)
      ∙ ap (λ (test : WindowFields → Bool). in_first_window s other (find test s.windows)) same_tests

  -- ---- the answer

  abbrev behind : Request → Option ℕ → Result Plan PlanFault
  behind r repeat = unless_fault s r (fault_behind s r (length r.endpoints) (is_used s r) (count_under s r) (is_asked r) repeat)

  same_behind : (repeat : Option ℕ) → behind request repeat ≡ behind other repeat
  same_behind repeat =
      same_unless (fault_behind s request (length request.endpoints) (is_used s request) (count_under s request) (is_asked request) repeat) ∙ ap (unless_fault s other) (same_faults repeat)

  unrepeated : first_repeat [] request.endpoints ≡ None → planned s other ≡ planned s request
  unrepeated none =
      ap (behind other) (none_repeats_still request.endpoints endpoints is none) ∙ sym (same_behind None) ∙ sym (ap (behind request) none)

  no_plan : (repeat : Option ℕ) (plan : Plan) → behind request repeat ≡ Ok plan → repeat ≡ None
  no_plan None plan e = refl
  no_plan (Some m) plan e = absurd (differ e)
    where
      differ : ◌≡◌ {A = Result Plan PlanFault} (Err (faults.Repeat m)) (Ok plan) → ⊥
      differ e = cc

  no_fault : (repeat : Option ℕ) (fault : PlanFault) → ((m : ℕ) → fault ≢ faults.Repeat m) → behind request repeat ≡ Err fault → repeat ≡ None
  no_fault None fault real e = refl
  no_fault (Some m) fault real e = absurd (real m (same e))
    where
      same : ◌≡◌ {A = Result Plan PlanFault} (Err (faults.Repeat m)) (Err fault) → fault ≡ faults.Repeat m
      same e = cc

  pub same_plan : (plan : Plan) → planned s request ≡ Ok plan → planned s other ≡ Ok plan
  same_plan plan e = unrepeated (no_plan (first_repeat [] request.endpoints) plan e) ∙ e

  pub same_fault : (fault : PlanFault) → ((m : ℕ) → fault ≢ faults.Repeat m) → planned s request ≡ Err fault → planned s other ≡ Err fault
  same_fault fault real e = unrepeated (no_fault (first_repeat [] request.endpoints) fault real e) ∙ e

  -- where none repeats in the new order, none did before
  some_repeat : (m : ℕ) → planned s request ≡ Err (faults.Repeat m) → (repeat : Option ℕ) → first_repeat [] endpoints ≡ repeat → (n : ℕ) × (planned s other ≡ Err (faults.Repeat n))
  some_repeat m e (Some n) at = (n, ap (behind other) at)
  some_repeat m e None at =
      absurd (no_repeat_told s request m (none_repeats_still endpoints request.endpoints (IsPermutation-sym request.endpoints endpoints is) at) e)

  pub still_repeats : (m : ℕ) → planned s request ≡ Err (faults.Repeat m) → (n : ℕ) × (planned s other ≡ Err (faults.Repeat n))
  still_repeats m e = some_repeat m e (first_repeat [] endpoints) refl
