-- The window of a whole range, and its targets.
use Rattle.std.proofs.Common.{◌≡◌, ℕ, ◌+◌, ◌*◌, ◌<◌, ◌≤◌, Bool, true, false, ◌&&◌, if◌then◌else◌, [], length, get_or, Option, Some, None, refl, sym, ap, ◌∙◌, subst, inl, inr, arith}
use Rattle.std.specs.Prelude.{slice_get, ◌==◌, nat_le, All, option_map}
use Rattle.std.specs.Option.{option_map_or, option_and_then}
use Rattle.std.specs.List.{list_any, position_or_len}
use Rattle.std.proofs.Math.Nat.{mul_comm, one-mul}
use Rattle.std.proofs.lemmas.Bool.{cases_Bool, and_parts, and_from, or_cases, leb-true, eqb-true, eq-eqb, false≢true}
use Rattle.std.proofs.lemmas.Option.{slice_get_within, get_or_from_slice_get, none-some, same_Some}
use Rattle.std.proofs.lemmas.List.{nil_from_length}
use Rattle.std.proofs.lemmas.List.Folds.{find_at}
use Rattle.std.proofs.lemmas.List.Sums.{AllPass-from_list_all, passes_at_first}
use Rattle.cxl_enc.proofs.Ways.{some_ways}
use Rattle.cxl_enc.proofs.Lists.{list_any-weaker}
use Rattle.cxl_enc.proofs.Numbers.{is_number, times_tell}
use Rattle.cxl_topo.specs.declared.node.Parent.{Parent}
use Rattle.cxl_topo.specs.Tree.{forwards_at, is_bridge_at, is_endpoint_at, uid_at, parent_of, least_child_of, landing_of, bridge_with}
use Rattle.cxl_window.specs.declared.window.Verdict.TheVariants.{Usable}
use Rattle.cxl_window.specs.Fields.{WindowFields, IsWindow, IsUsable}
use Rattle.cxl_window.specs.Position.{is_usable}
use Rattle.cxl_window.proofs.Usable.{usable_is}
use Rattle.cxl_topo.proofs.Trees.{KnownTree, parent_within, parent_is_port, up_tree, root_of, uid_top}
use Rattle.cxl_model.specs.System.{System, IsSystem}
use Rattle.cxl_regs.specs.declared.reading.Range.{Range}
use Rattle.cxl_model.specs.Ranges.{serves, window_for, lies_within, ways_above, range_ways, IsCommittedRange}
use Rattle.cxl_model.specs.Rules.{lands_on, is_bridge_landing, targets_land}
use Rattle.cxl_model.specs.Accepted.{IsWhole}
use Rattle.cxl_model.specs.Counts.{is_under, is_endpoint_of, endpoints_of, endpoints_under}
use Rattle.cxl_model.proofs.RangeRules.{RangesRise, served, leads, reached, is_reached, parent_reached, all_targeted, listed_by, in_window}
use Rattle.cxl_model.proofs.RangeCounts.{counted_within, lands_within, lands_here, served_lands, numbers, count_of, count_under, count_parts, no_ways_above}
use Rattle.cxl_model.proofs.Sums.{one, total, length-filter-total, total-same, total-zero, total_even, once}
use Rattle.cxl_model.proofs.Under.{under_root, under_step, under_top}
use Rattle.cxl_model.proofs.Distinct.{distinct_test}

-- ---- the window

pub record HasWindow (s : System) (r : Range) (w : WindowFields) : Type 0 where
  pub there : slice_get s.windows w.index ≡ Some w
  pub known : IsWindow w
  pub usable : IsUsable w
  pub verdict : w.verdict ≡ Usable
  pub from : w.base ≤ r.base
  pub to : r.base + r.size ≤ w.base + w.size

pub has_window : (s : System) (r : Range) (w : WindowFields) → IsSystem s → window_for s r ≡ Some w → HasWindow s r w
has_window s r w system is =
    let i : ℕ = position_or_len (lies_within r) s.windows in
    let at : slice_get s.windows i ≡ Some w = sym (find_at (lies_within r) s.windows) ∙ is in
    let within : i < length s.windows = slice_get_within s.windows i w at in
    let read : get_or s.windows i w ≡ w = get_or_from_slice_get s.windows i w w at in
    let own : IsWindow w = subst IsWindow read (system.made.each i w within) in
    let lies : lies_within r w ≡ true = sym (ap (lies_within r) read) ∙ passes_at_first (lies_within r) s.windows w within in
    let outer = and_parts (is_usable w.verdict && nat_le w.base r.base) (nat_le (r.base + r.size) (w.base + w.size)) lies in
    let inner = and_parts (is_usable w.verdict) (nat_le w.base r.base) outer.0 in
    let verdict = usable_is w.verdict inner.0 in
    record {
      there = ap (slice_get s.windows) (system.made.indexed i w at) ∙ at;
      known = own;
      usable = own.usable verdict;
      verdict = verdict;
      from = leb-true w.base r.base inner.1;
      to = leb-true (r.base + r.size) (w.base + w.size) outer.1;
    }

-- ---- the bridges of a range

-- where an address that comes to a node comes to the range, one that comes to its parent does too
parent_lands : RangesRise → (s : System) (r : Range) → IsSystem s → KnownTree s.nodes → IsWhole s r → (i : ℕ) (p : Parent) → parent_of s.nodes i ≡ Some p → is_reached s r i ≡ true → lands_on s r i ≡ true
    → lands_on s r p.node ≡ true
parent_lands rise s r system known whole i p some is lands =
    elim (cases_Bool (forwards_at s.nodes p.node)) [
      | inl forwards ↦ through forwards
      | inr own ↦ lands_here s r p.node system known own ∙ (listed_by rise s r whole.blocks p ((parent_reached rise s r known whole i p some is).1 own)).serves
    ]
  where
    through : forwards_at s.nodes p.node ≡ true → lands_on s r p.node ≡ true
    through forwards =
        let child : least_child_of s.nodes p.node ≡ Some i = (known.laws.only_children p.node i forwards).1 (ap (option_map (λ (parent : Parent). parent.node)) some) in
        let higher = (parent_is_port known i p some).0 in
        let below = parent_within s.nodes i p some in
        ap (λ (o : Option ℕ). option_map_or (serves s r) o false)
        (known.laws.landings p.node (omega arith)
        ∙ ap (λ b. if b then option_and_then (landing_of s.nodes) (least_child_of s.nodes p.node) else Some p.node) forwards
        ∙ ap (option_and_then (landing_of s.nodes)) child)
        ∙ lands

-- an address that comes to a node above one that is reached comes to the range
above_lands : RangesRise → (s : System) (r : Range) → IsSystem s → KnownTree s.nodes → IsWhole s r → (n i : ℕ) → is_reached s r i ≡ true → lands_on s r i ≡ true → is_under s.nodes n i ≡ true
    → lands_on s r n ≡ true
above_lands rise s r system known whole n =
    up_tree known (λ i. is_reached s r i ≡ true → lands_on s r i ≡ true → is_under s.nodes n i ≡ true → lands_on s r n ≡ true)
    (λ i none is lands under. ap (lands_on s r) (sym (eqb-true i n (sym (under_root known n i none) ∙ under))) ∙ lands)
    (λ i p some rest is lands under.
    elim (or_cases (i == n) (is_under s.nodes n p.node) (sym (under_step known n i p some) ∙ under)) [
      | inl here ↦ ap (lands_on s r) (sym (eqb-true i n here)) ∙ lands
      | inr higher ↦ rest (parent_reached rise s r known whole i p some is).0 (parent_lands rise s r system known whole i p some is lands) higher
    ])

-- so does one that comes to its bridge
pub bridge_lands : RangesRise → (s : System) (r : Range) → IsSystem s → KnownTree s.nodes → IsWhole s r → (i : ℕ) → is_reached s r i ≡ true → lands_on s r i ≡ true
    → (b : ℕ) × (is_bridge_at s.nodes b ≡ true) × (lands_on s r b ≡ true)
bridge_lands rise s r system known whole =
    up_tree known (λ i. is_reached s r i ≡ true → lands_on s r i ≡ true → (b : ℕ) × (is_bridge_at s.nodes b ≡ true) × (lands_on s r b ≡ true))
    (λ i none is lands. (i, top i none (lands_within s r i system lands), lands))
    (λ i p some rest is lands. rest (parent_reached rise s r known whole i p some is).0 (parent_lands rise s r system known whole i p some is lands))
  where
    top : (i : ℕ) → parent_of s.nodes i ≡ None → i < length s.nodes → is_bridge_at s.nodes i ≡ true
    top i none within =
        elim (cases_Bool (is_bridge_at s.nodes i)) [
          | inl bridge ↦ bridge
          | inr other ↦ let own = known.tree.others i within other in absurd (none-some own.0 (sym none ∙ own.1))
        ]

-- under a node from which no address comes to the range lies none of its endpoints
pub none_under : RangesRise → (s : System) (r : Range) → IsSystem s → KnownTree s.nodes → IsWhole s r → (n : ℕ) → lands_on s r n ≡ false → endpoints_under s r n ≡ []
none_under rise s r system known whole n other =
    nil_from_length (endpoints_under s r n)
    (count_under s r n
    ∙ total-same (λ m. one (is_endpoint_of s r m && is_under s.nodes n m)) (λ m. 0) (λ m. none (is_endpoint_of s r m) (is_under s.nodes n m) (apart m)) (numbers s)
    ∙ total-zero (numbers s))
  where
    none : (a b : Bool) → (a ≡ true → b ≡ true → ⊥) → one (a && b) ≡ 0
    none true true apart = absurd (apart refl refl)
    none true false apart = refl
    none false b apart = refl

    apart : (m : ℕ) → is_endpoint_of s r m ≡ true → is_under s.nodes n m ≡ true → ⊥
    apart m is under =
        let serving = (and_parts (is_endpoint_at s.nodes m) (serves s r m) is).1 in
        false≢true (sym other ∙ above_lands rise s r system known whole n m (reached s r whole m serving).1 (served_lands s r m system known whole serving) under)

-- the landing of the bridge serves the range
pub landing_serves : (s : System) (r : Range) (b : ℕ) → is_bridge_at s.nodes b ≡ true → b < length s.nodes → lands_on s r b ≡ true
    → (q : ℕ) × (is_bridge_landing s.nodes q ≡ true) × (serves s r q ≡ true)
landing_serves s r b bridge within lands = go (landing_of s.nodes b) refl lands
  where
    go : (o : Option ℕ) → landing_of s.nodes b ≡ o → option_map_or (serves s r) o false ≡ true → (q : ℕ) × (is_bridge_landing s.nodes q ≡ true) × (serves s r q ≡ true)
    go None at is = absurd (false≢true is)
    go (Some q) at is = (
      q,
      is_number (λ c. is_bridge_at s.nodes c && option_map_or (λ m. m == q) (landing_of s.nodes c) false) (length s.nodes) b within
          (and_from (is_bridge_at s.nodes b) (option_map_or (λ m. m == q) (landing_of s.nodes b) false) bridge
          (ap (λ (o : Option ℕ). option_map_or (λ m. m == q) o false) at ∙ eq-eqb q q refl)),
      is,
    )

-- each target of the window is a bridge from which an address comes to the range
pub record Target (s : System) (r : Range) (uid : ℕ) : Type 0 where
  pub bridge : ℕ
  pub found : bridge_with s.nodes uid ≡ Some bridge
  pub own : uid_at s.nodes bridge ≡ Some uid
  pub top : parent_of s.nodes bridge ≡ None
  pub lands : lands_on s r bridge ≡ true

target_of : (s : System) (r : Range) (uid : ℕ) → KnownTree s.nodes → option_map_or (lands_on s r) (bridge_with s.nodes uid) false ≡ true → Target s r uid
target_of s r uid known lands = go (bridge_with s.nodes uid) refl lands
  where
    go : (o : Option ℕ) → bridge_with s.nodes uid ≡ o → option_map_or (lands_on s r) o false ≡ true → Target s r uid
    go None at is = absurd (false≢true is)
    go (Some b) at is =
        let own = (known.laws.bridges uid b).0 at in
        record { bridge = b; found = at; own = own; top = (uid_top known b uid own).1; lands = is }

pub targets : RangesRise → (s : System) (r : Range) (w : WindowFields) → IsSystem s → KnownTree s.nodes → IsWhole s r → window_for s r ≡ Some w → IsCommittedRange s r
    → (k d : ℕ) → k < length w.targets → Target s r (get_or w.targets k d)
targets rise s r w system known whole window committed k d within =
    let n : ℕ = committed.0 in
    let up = reached s r whole n committed.1 in
    let bridge = bridge_lands rise s r system known whole n up.1 (lands_here s r n system known up.0 ∙ committed.1) in
    let landing = landing_serves s r bridge.0 bridge.1 (lands_within s r bridge.0 system bridge.2) bridge.2 in
    let at = served s r landing.0 landing.2 in
    let land : option_map_or (targets_land s r) (window_for s r) true ≡ true = (leads s r whole landing.0 at.i at.d at.there at.has).targets landing.1 in
    let all : targets_land s r w ≡ true = sym (ap (λ (o : Option WindowFields). option_map_or (targets_land s r) o true) window) ∙ land in
    target_of s r (get_or w.targets k d) known (AllPass-from_list_all (λ uid. option_map_or (lands_on s r) (bridge_with s.nodes uid) false) w.targets all k d within)

-- the window targets the bridge above an endpoint of the range
pub record Rooted (s : System) (w : WindowFields) (m : ℕ) : Type 0 where
  pub bridge : ℕ
  pub uid : ℕ
  pub root : root_of s.nodes m ≡ Some bridge
  pub own : uid_at s.nodes bridge ≡ Some uid
  pub targeted : list_any (λ target. target == uid) w.targets ≡ true

pub rooted : RangesRise → (s : System) (r : Range) (w : WindowFields) → KnownTree s.nodes → IsWhole s r → window_for s r ≡ Some w → (m : ℕ) → serves s r m ≡ true → Rooted s w m
rooted rise s r w known whole window m is =
    go (root_of s.nodes m) refl
    (sym (ap (λ (o : Option WindowFields). option_map_or (λ v. option_map_or (λ uid. list_any (λ target. target == uid) v.targets) (option_and_then (uid_at s.nodes) (root_of s.nodes m)) false) o false) window)
    ∙ all_targeted rise s r known whole m (reached s r whole m is).1)
  where
    with_uid : (b : ℕ) → root_of s.nodes m ≡ Some b → (o : Option ℕ) → uid_at s.nodes b ≡ o → option_map_or (λ uid. list_any (λ target. target == uid) w.targets) o false ≡ true → Rooted s w m
    with_uid b root None at any = absurd (false≢true any)
    with_uid b root (Some uid) at any = record { bridge = b; uid = uid; root = root; own = at; targeted = any }

    go : (o : Option ℕ) → root_of s.nodes m ≡ o → option_map_or (λ uid. list_any (λ target. target == uid) w.targets) (option_and_then (uid_at s.nodes) o) false ≡ true → Rooted s w m
    go None root any = absurd (false≢true any)
    go (Some b) root any = with_uid b root (uid_at s.nodes b) refl any

-- ---- all endpoints of a range

-- node m lies under the bridge with this UID
abbrev pub under_target : System → ℕ → ℕ → Bool
under_target s uid m = option_map_or (λ b. is_under s.nodes b m) (bridge_with s.nodes uid) false

under_one_target : RangesRise → (s : System) (r : Range) (w : WindowFields) → IsSystem s → KnownTree s.nodes → IsWhole s r → window_for s r ≡ Some w
    → (m : ℕ) → is_endpoint_of s r m ≡ true → one true ≡ total (λ uid. one (under_target s uid m)) w.targets
under_one_target rise s r w system known whole window m is =
    sym (once (λ uid. under_target s uid m) same w.targets (distinct_test w.targets (has_window s r w system window).usable.distinct) ∙ ap one some)
  where
    own : Rooted s w m
    own = rooted rise s r w known whole window m (and_parts (is_endpoint_at s.nodes m) (serves s r m) is).1

    uid_if : (uid : ℕ) (o : Option ℕ) → bridge_with s.nodes uid ≡ o → option_map_or (λ b. is_under s.nodes b m) o false ≡ true → uid ≡ own.uid
    uid_if uid None at under = absurd (false≢true under)
    uid_if uid (Some b) at under =
        let here = (known.laws.bridges uid b).0 at in
        let root = (under_top known b (uid_top known b uid here).1 m).0 under in
        let same : b ≡ own.bridge = same_Some b own.bridge (sym root ∙ own.root) in
        same_Some uid own.uid (sym here ∙ ap (uid_at s.nodes) same ∙ own.own)

    same : (a b : ℕ) → under_target s a m ≡ true → under_target s b m ≡ true → a ≡ b
    same a b one other = uid_if a (bridge_with s.nodes a) refl one ∙ sym (uid_if b (bridge_with s.nodes b) refl other)

    here : under_target s own.uid m ≡ true
    here =
        ap (λ (o : Option ℕ). option_map_or (λ b. is_under s.nodes b m) o false) ((known.laws.bridges own.uid own.bridge).1 own.own)
        ∙ (under_top known own.bridge (uid_top known own.bridge own.uid own.own).1 m).1 own.root

    some : list_any (λ uid. under_target s uid m) w.targets ≡ true
    some =
        list_any-weaker (λ target. target == own.uid) (λ uid. under_target s uid m) (λ uid equal. ap (λ u. under_target s u m) (eqb-true uid own.uid equal) ∙ here) w.targets own.targeted

pub count_all : (s : System) (r : Range) → length (endpoints_of s r) ≡ count_of s r (λ m. true)
count_all s r =
    length-filter-total (is_endpoint_of s r) (numbers s)
    ∙ total-same (λ m. one (is_endpoint_of s r m)) (λ m. one (is_endpoint_of s r m && true)) (λ m. ap one (sym (and_true (is_endpoint_of s r m)))) (numbers s)
  where
    and_true : (a : Bool) → (a && true) ≡ a
    and_true true = refl
    and_true false = refl

-- a range has as many endpoints as ways
pub counted_all : RangesRise → (s : System) (r : Range) (w : WindowFields) → IsSystem s → KnownTree s.nodes → IsWhole s r → window_for s r ≡ Some w → IsCommittedRange s r
    → length (endpoints_of s r) ≡ range_ways s r
counted_all rise s r w system known whole window committed =
    count_all s r ∙ times_tell w.ways (count_of s r (λ m. true)) (range_ways s r) (some_ways w.ways (has_window s r w system window).known.ways_known) scaled
  where
    each : All (λ uid. count_of s r (under_target s uid) * w.ways ≡ range_ways s r) w.targets
    each = λ k d within.
        let target = targets rise s r w system known whole window committed k d within in
        let here : count_of s r (is_under s.nodes target.bridge) * (ways_above s r target.bridge * w.ways) ≡ range_ways s r =
        (counted_within rise s r w system known whole window (length s.nodes) target.bridge (omega arith) target.lands).even in
        let alone : ways_above s r target.bridge ≡ 1 = no_ways_above s r target.bridge known target.top in
        ap (λ (o : Option ℕ). count_of s r (λ m. option_map_or (λ b. is_under s.nodes b m) o false) * w.ways) target.found
        ∙ ap (λ (x : ℕ). count_of s r (is_under s.nodes target.bridge) * x) (sym (one-mul w.ways) ∙ ap (λ (x : ℕ). x * w.ways) (sym alone))
        ∙ here

    scaled : w.ways * count_of s r (λ m. true) ≡ w.ways * range_ways s r
    scaled =
        mul_comm w.ways (count_of s r (λ m. true))
        ∙ ap (λ (x : ℕ). x * w.ways) (count_parts s r (λ m. true) (under_target s) w.targets (under_one_target rise s r w system known whole window))
        ∙ total_even (λ uid. count_of s r (under_target s uid)) w.ways (range_ways s r) w.targets each
        ∙ ap (λ (x : ℕ). x * range_ways s r) (has_window s r w system window).known.target_each_way

-- the same of a range with no window named
pub counted_endpoints : RangesRise → (s : System) (r : Range) → IsSystem s → KnownTree s.nodes → IsWhole s r → IsCommittedRange s r → length (endpoints_of s r) ≡ range_ways s r
counted_endpoints rise s r system known whole committed =
    let at = served s r committed.0 committed.1 in
    let window = in_window s r whole committed.0 at.i at.d at.there at.has in
    counted_all rise s r window.0 system known whole window.1 committed
