-- A region's own decoders stand on the ways to its endpoints, of which each node is marked.
use Rattle.std.proofs.Common.{◌≡◌, ℕ, ◌+◌, ◌*◌, ◌<◌, Bool, true, false, ◌&&◌, cond, if◌then◌else◌, List, [], ◌∷◌, length, get_or, set, filter, Option, Some, None, refl, sym, ap, subst, ◌∙◌, inl, inr, arith}
use Rattle.std.specs.Prelude.{◌==◌, slice_get}
use Rattle.std.specs.Option.{option_map_or}
use Rattle.std.specs.List.{range_with_len}
use Rattle.std.proofs.lemmas.Bool.{cases_lt, cases_eq, eqb-true, or_cases, and_parts, false≢true, false_from_ne_true}
use Rattle.std.proofs.lemmas.List.{get_or-set_same, get_or-set_other}
use Rattle.std.proofs.lemmas.Option.{same_Some, slice_get-get_or, slice_get_within, get_or_from_slice_get}
use Rattle.cxl_enc.proofs.Lists.{filter-filter}
use Rattle.cxl_enc.proofs.Numbers.{some_first_factor}
use Rattle.cxl_topo.specs.declared.node.Node.{Node}
use Rattle.cxl_topo.specs.declared.node.Parent.{Parent}
use Rattle.cxl_topo.specs.Tree.{parent_of}
use Rattle.cxl_topo.proofs.Trees.{KnownTree}
use Rattle.cxl_regs.specs.declared.decoder.Decoder.{Decoder}
use Rattle.cxl_regs.specs.declared.reading.Range.{Range}
use Rattle.cxl_regs.specs.Reading.{decoder_ways}
use Rattle.cxl_span.proofs.Wholes.{ways_some}
use Rattle.cxl_window.specs.Fields.{WindowFields}
use Rattle.cxl_model.specs.declared.found.Found.{Found}
use Rattle.cxl_model.specs.declared.found.Place.{Place}
use Rattle.cxl_model.specs.System.{System}
use Rattle.cxl_model.specs.Counts.{is_under, is_endpoint_of, endpoints_under}
use Rattle.cxl_model.specs.Ranges.{serves, ways_above, range_ways, first_decoder}
use Rattle.cxl_model.specs.Regions.{region_range}
use Rattle.cxl_model.proofs.Under.{under_root, under_step}
use Rattle.cxl_walk.specs.Keeping.{own_for}
use Rattle.cxl_walk.specs.inner.Marks.{is_marked, MarksWay, MarksWays, KeepsMarks, own_where}
use Rattle.cxl_walk.proofs.Slots.{own_nowhere}

-- ---- marks

-- a node is marked, and what was marked still is
pub set_marked : (old : List Bool) (i : ℕ) → i < length old → is_marked (set old i true) i ≡ true
set_marked old i low = get_or-set_same old i true false low

pub set_keeps : (old : List Bool) (i : ℕ) → i < length old → KeepsMarks old (set old i true)
set_keeps old i low = λ n is. elim (cases_eq n i) as (λ x. is_marked (set old i true) n ≡ true) [
  | inl same ↦ ap (λ (k : ℕ). get_or (set old i true) k false) same ∙ set_marked old i low
  | inr other ↦ get_or-set_other old i n true false other ∙ is
]

-- the way to a node without a parent is that node
pub top_way : {nodes : List Node} → KnownTree nodes → (marks : List Bool) (i : ℕ) → parent_of nodes i ≡ None → is_marked marks i ≡ true → MarksWay nodes marks i
top_way {nodes} known marks i none here = λ n under.
    ap (is_marked marks) (sym (eqb-true i n (sym (under_root known n i none) ∙ under))) ∙ here

-- and to another one that to its parent, and it
pub more_way : {nodes : List Node} → KnownTree nodes → (marks : List Bool) (i : ℕ) (p : Parent) → parent_of nodes i ≡ Some p → is_marked marks i ≡ true → MarksWay nodes marks p.node → MarksWay nodes marks i
more_way {nodes} known marks i p up here way = λ n under.
    elim (or_cases (i == n) (is_under nodes n p.node) (sym (under_step known n i p up) ∙ under)) as (λ x. is_marked marks n ≡ true) [
      | inl same ↦ ap (is_marked marks) (sym (eqb-true i n same)) ∙ here
      | inr higher ↦ way n higher
    ]

-- of the first k places
pub record AreMarkedTo (nodes : List Node) (spans : List Place) (k : ℕ) (marks : List Bool) : Type 0 where
  pub count : length marks ≡ length nodes
  pub each : (j : ℕ) (d : Place) → j < k → MarksWay nodes marks (get_or spans j d).endpoint

pub marked_more : (nodes : List Node) (spans : List Place) (k : ℕ) (d : Place) (old new : List Bool) → k < length spans → AreMarkedTo nodes spans k old → length new ≡ length nodes
    → KeepsMarks old new → MarksWay nodes new (get_or spans k d).endpoint → AreMarkedTo nodes spans (k + 1) new
marked_more nodes spans k d old new low so long kept way = record {
  count = long;
  each = λ j e below. elim (cases_lt j k) as (λ x. MarksWay nodes new (get_or spans j e).endpoint) [
    | inl earlier ↦ λ n under. kept n (so.each j e earlier n under)
    | inr here ↦
        let at : j ≡ k = omega (arith, here, below) in
        let same : get_or spans k d ≡ get_or spans j e =
        same_Some (get_or spans k d) (get_or spans k e) (sym (slice_get-get_or spans k d low) ∙ slice_get-get_or spans k e low) ∙ ap (λ (m : ℕ). get_or spans m e) (sym at) in
        subst (λ (p : Place). MarksWay nodes new p.endpoint) same way
  ];
}

-- ---- an endpoint under a node

passing_here : (p : ℕ → Bool) (n : ℕ) (ns : List ℕ) (b : Bool) → p n ≡ b → (0 < length (filter p ns) → (m : ℕ) × (p m ≡ true)) → 0 < length (cond b (n ∷ filter p ns) (filter p ns))
    → (m : ℕ) × (p m ≡ true)
passing_here p n ns true is rest some = (n, is)
passing_here p n ns false is rest some = rest some

passing : (p : ℕ → Bool) (ns : List ℕ) → 0 < length (filter p ns) → (m : ℕ) × (p m ≡ true)
passing p [] some = absurd (omega arith)
passing p (n ∷ ns) some = passing_here p n ns (p n) refl (passing p ns) some

range_some : (s : System) (r : Range) → 0 < range_ways s r
range_some s r = go (first_decoder s r)
  where
    go : (o : Option Decoder) → 0 < option_map_or decoder_ways o 1
    go None = omega arith
    go (Some d) = let some = ways_some d in omega (arith, some)

-- what the laws of counts and of slots say of a region
pub record WayLaws (s : System) (w : WindowFields) (found : Found) : Type 0 where
  pub under : (n : ℕ) → serves s (region_range found) n ≡ true
      → length (endpoints_under s (region_range found) n) * ways_above s (region_range found) n * w.ways ≡ range_ways s (region_range found)
  pub each : (m : ℕ) → is_endpoint_of s (region_range found) m ≡ true → (slot : ℕ) × (place : Place) × (slice_get found.spans slot ≡ Some place) × (place.endpoint ≡ m)

module _ (s : System) (w : WindowFields) (found : Found) (laws : WayLaws s w found) (marks : List Bool) (marked : MarksWays s.nodes marks found.spans) where
  -- a node that serves the range stands on the way to an endpoint of the region
  server_marked : (n : ℕ) → serves s (region_range found) n ≡ true → is_marked marks n ≡ true
  server_marked n is =
      let r : Range = region_range found in
      let some : 0 < length (endpoints_under s r n) = some_first_factor (length (endpoints_under s r n)) (ways_above s r n) w.ways (range_ways s r) (laws.under n is) (range_some s r) in
      let both = filter-filter (is_endpoint_of s r) (is_under s.nodes n) (range_with_len 0 (length s.nodes)) in
      let end = passing (λ m. is_endpoint_of s r m && is_under s.nodes n m) (range_with_len 0 (length s.nodes)) (subst (λ (ms : List ℕ). 0 < length ms) both some) in
      let parts = and_parts (is_endpoint_of s r end.0) (is_under s.nodes n end.0) end.1 in
      let slot = laws.each end.0 parts.0 in
      let low : slot.0 < length found.spans = slice_get_within found.spans slot.0 slot.1 slot.2 in
      let at : get_or found.spans slot.0 slot.1 ≡ slot.1 = get_or_from_slice_get found.spans slot.0 slot.1 slot.1 slot.2 in
      let ends : (get_or found.spans slot.0 slot.1).endpoint ≡ end.0 = ap (λ (p : Place). p.endpoint) at ∙ slot.3 in
      marked slot.0 slot.1 low n (subst (λ (m : ℕ). is_under s.nodes n m ≡ true) (sym ends) parts.1)

  -- so one that is not marked has no decoder of it
  pub own_marked : (n : ℕ) → own_where marks s (region_range found) n ≡ own_for s (region_range found) n
  own_marked n = go (is_marked marks n) refl
    where
      go : (b : Bool) → is_marked marks n ≡ b → (if b then own_for s (region_range found) n else None) ≡ own_for s (region_range found) n
      go true is = refl
      go false is = sym (own_nowhere s (region_range found) n (false_from_ne_true (serves s (region_range found) n) (λ serving. false≢true (sym is ∙ server_marked n serving))))
