-- How many requested endpoints lie under the used nodes of a request that fits.
use Rattle.std.proofs.Common.{◌≡◌, ℕ, ◌*◌, ◌<◌, Bool, true, false, not, ◌&&◌, ◌||◌, List, length, get_or, map, Option, Some, None, refl, sym, ap, ◌∙◌, subst, eq-eqb, arith}
use Rattle.std.specs.Prelude.{◌==◌, Contains}
use Rattle.std.specs.Option.{option_map_or}
use Rattle.std.specs.List.{list_any, list_all, range_with_len}
use Rattle.std.proofs.lemmas.Bool.{and_parts, and_from, or_right, eqb-true, false≢true}
use Rattle.std.proofs.lemmas.Option.{same_Some}
use Rattle.std.proofs.lemmas.List.Elements.{All-contains, Contains-get_or}
use Rattle.std.proofs.lemmas.List.Folds.{Any-from_list_any, list_any_at}
use Rattle.std.proofs.lemmas.List.FromFn.{length-range_with_len, get_or-range_with_len}
use Rattle.std.proofs.lemmas.List.Sums.{AllPass-from_list_all}
use Rattle.cxl_enc.proofs.Tests.{same_test, asked_or}
use Rattle.cxl_enc.proofs.Lists.{list_any-weaker, All-at}
use Rattle.cxl_enc.proofs.Numbers.{is_number}
use Rattle.cxl_topo.specs.declared.node.Parent.{Parent}
use Rattle.cxl_topo.specs.Tree.{is_bridge_at, is_endpoint_at, uid_at, parent_of, bridge_with}
use Rattle.cxl_window.specs.Fields.{WindowFields, IsWindow}
use Rattle.cxl_window.proofs.Usable.{usable_is}
use Rattle.cxl_topo.proofs.Bridges.{top_bridge, bridge_port}
use Rattle.cxl_topo.proofs.Trees.{KnownTree, parent_is_port, up_tree, ports_none, ports_some, is_above, leaves_at, leaves_above, leaves_once, root_of, port_no_endpoint, uid_top, endpoint_within}
use Rattle.cxl_model.specs.declared.request.Request.{Request}
use Rattle.cxl_model.specs.System.{System}
use Rattle.cxl_model.specs.Ranges.{product}
use Rattle.cxl_model.specs.Rules.{are_distinct}
use Rattle.cxl_model.specs.Counts.{is_under}
use Rattle.cxl_model.proofs.Under.{under_self, under_is, under_child, under_endpoint, under_top}
use Rattle.cxl_model.proofs.RangeWindows.{under_target}
use Rattle.cxl_model.proofs.Sums.{one, total, length-filter-total, total-same, exchange, once, total_each, length_total, total_same_each}
use Rattle.cxl_model.proofs.Distinct.{distinct_test}
use Rattle.cxl_legal.specs.Used.{request_ways, is_used, count_under, is_port_used, used_ports, count_at_port, planned_ways, planned_ways_above}
use Rattle.cxl_legal.specs.Endpoints.{first_bridge}
use Rattle.cxl_legal.specs.Windows.{is_used_bridge, is_target}
use Rattle.cxl_legal.proofs.RowsOthers.{found_some}
use Rattle.cxl_legal.proofs.UsedNodes.{child_to, above_requested, used_by, used_parent, used_root}
use Rattle.cxl_legal.proofs.StatedImages.{Stated}
use Rattle.cxl_legal.proofs.UsedPorts.{even_at, port_ways, port_used, port_child, listed_port, ports_pass, ports_distinct}

-- ---- the endpoints under a port

pub requested_within : {s : System} {request : Request} {w : WindowFields} {base : ℕ} → Stated s request w base → (m : ℕ) → Contains request.endpoints m → (is_endpoint_at s.nodes m ≡ true) × (m < length s.nodes)
requested_within {s} {request} c m there =
    let endpoint = All-contains (λ e. is_endpoint_at s.nodes e ≡ true) request.endpoints m c.fits.named there in
    (endpoint, endpoint_within s.nodes m endpoint)

-- a requested endpoint under a node leaves it at one of its used ports
leaves_by_port : {s : System} {request : Request} {w : WindowFields} {base : ℕ} → Stated s request w base → (n : ℕ) → is_endpoint_at s.nodes n ≡ false → (m : ℕ) → Contains request.endpoints m
    → one (is_under s.nodes n m) ≡ total (λ e. one (leaves_at s.nodes n e m)) (used_ports s request n)
leaves_by_port {s} {request} c n port m there =
    ap one (same_test (is_under s.nodes n m) (list_any (λ e. leaves_at s.nodes n e m) (used_ports s request n)) to from)
    ∙ sym (once (λ e. leaves_at s.nodes n e m) (λ a b. leaves_once c.known n a b m) (used_ports s request n) (ports_distinct s request n))
  where
    to : is_under s.nodes n m ≡ true → list_any (λ e. leaves_at s.nodes n e m) (used_ports s request n) ≡ true
    to under =
        let next = child_to c.known n m (above_requested s request c.known c.fits.named n m port there under) in
        let used = used_by s request next.child m there next.under in
        let leaves : leaves_at s.nodes n next.port m ≡ true = sym (under_child c.known n next.port next.child next.parent m) ∙ next.under in
        list_any-weaker (λ f. f == next.port) (λ f. leaves_at s.nodes n f m) (λ f same. ap (λ g. leaves_at s.nodes n g m) (eqb-true f next.port same) ∙ leaves) (used_ports s request n)
        (listed_port s request n next.port (c.fits.ports next.child (record { node = n; port = next.port }) next.parent) (port_used s request c.known n next.port next.child next.parent used))

    from : list_any (λ e. leaves_at s.nodes n e m) (used_ports s request n) ≡ true → is_under s.nodes n m ≡ true
    from any =
        let some = Any-from_list_any (λ e. leaves_at s.nodes n e m) (used_ports s request n) any in
        under_is c.known n m ∙ or_right (m == n) (is_above s.nodes n m) (leaves_above c.known n some.1 m some.4)

count_is : (s : System) (request : Request) (n : ℕ) → count_under s request n ≡ total (λ m. one (is_under s.nodes n m)) request.endpoints
count_is s request n = length-filter-total (is_under s.nodes n) request.endpoints

count_leaving : {s : System} {request : Request} {w : WindowFields} {base : ℕ} → Stated s request w base → (n e : ℕ) → is_port_used s request n e ≡ true
    → total (λ m. one (leaves_at s.nodes n e m)) request.endpoints ≡ count_at_port s request n e
count_leaving {s} {request} c n e used =
    let child = port_child s request c.known n e used in
    total-same (λ m. one (leaves_at s.nodes n e m)) (λ m. one (is_under s.nodes child.child m)) (λ m. ap one (sym (under_child c.known n e child.child child.parent m))) request.endpoints
    ∙ sym (count_is s request child.child)
    ∙ sym (ap (λ (o : Option ℕ). option_map_or (count_under s request) o 0) child.stands)

-- those under a port are those of its used ports
count_ports : {s : System} {request : Request} {w : WindowFields} {base : ℕ} → Stated s request w base → (n : ℕ) → is_endpoint_at s.nodes n ≡ false
    → count_under s request n ≡ total (count_at_port s request n) (used_ports s request n)
count_ports {s} {request} c n port =
    count_is s request n
    ∙ total_each (λ m. one (is_under s.nodes n m)) (λ m. total (λ e. one (leaves_at s.nodes n e m)) (used_ports s request n)) request.endpoints
    (λ k d within. leaves_by_port c n port (get_or request.endpoints k d) (Contains-get_or request.endpoints k d within))
    ∙ exchange (λ m e. one (leaves_at s.nodes n e m)) request.endpoints (used_ports s request n)
    ∙ total_each (λ e. total (λ m. one (leaves_at s.nodes n e m)) request.endpoints) (count_at_port s request n) (used_ports s request n)
    (λ k d within. count_leaving c n (get_or (used_ports s request n) k d) (ports_pass s request n k d within))

-- so there are as many as under a used child, times the used ports
pub count_child : {s : System} {request : Request} {w : WindowFields} {base : ℕ} → Stated s request w base → (n : ℕ) (p : Parent) → parent_of s.nodes n ≡ Some p → is_used s request n ≡ true
    → count_under s request p.node ≡ length (used_ports s request p.node) * count_under s request n
count_child {s} {request} c n p parent used =
    let port = (parent_is_port c.known n p parent).1 in
    let even = even_at s request c.fits.endpoints p.node port (used_parent s request c.known n p parent used) in
    let own = Any-from_list_any (λ x. x == p.port) (used_ports s request p.node) (listed_port s request p.node p.port (c.fits.ports n p parent) (port_used s request c.known p.node p.port n parent used)) in
    let at : get_or (used_ports s request p.node) own.0 own.1 ≡ p.port = own.3 ∙ eqb-true own.1 p.port own.4 in
    count_ports c p.node (port_no_endpoint s.nodes p.node port)
    ∙ total_same_each (count_at_port s request p.node) (count_under s request n) (used_ports s request p.node) (λ k d within.
    let e : ℕ = get_or (used_ports s request p.node) k d in
    let all : list_all (λ f. count_at_port s request p.node e == count_at_port s request p.node f) (used_ports s request p.node) ≡ true =
    AllPass-from_list_all (λ x. list_all (λ f. count_at_port s request p.node x == count_at_port s request p.node f) (used_ports s request p.node)) (used_ports s request p.node) even.children k d within in
    let same : (count_at_port s request p.node e == count_at_port s request p.node p.port) ≡ true =
    subst (λ (f : ℕ). (count_at_port s request p.node e == count_at_port s request p.node f) ≡ true) at
    (AllPass-from_list_all (λ f. count_at_port s request p.node e == count_at_port s request p.node f) (used_ports s request p.node) all own.0 own.1 own.2) in
    eqb-true (count_at_port s request p.node e) (count_at_port s request p.node p.port) same ∙ ap (λ (o : Option ℕ). option_map_or (count_under s request) o 0) ((c.known.laws.children p.node p.port n).1 parent))

-- ---- the endpoints under a bridge

each_number : (test : ℕ → Bool) (n k : ℕ) → k < n → list_all test (range_with_len 0 n) ≡ true → test k ≡ true
each_number test n k within all =
    let long = length-range_with_len 0 n in
    sym (ap test (get_or-range_with_len 0 n k 0 within ∙ omega arith)) ∙ AllPass-from_list_all test (range_with_len 0 n) all k 0 (omega (arith, long, within))

shared : {s : System} {request : Request} {w : WindowFields} {base : ℕ} → Stated s request w base → (n : ℕ) → is_bridge_at s.nodes n ≡ true → is_used s request n ≡ true → (first : ℕ) → first_bridge s request ≡ Some first
    → count_under s request n ≡ count_under s request first
shared {s} {request} c n bridge used first at =
    eqb-true (count_under s request n) (count_under s request first)
    (sym (ap (λ (o : Option ℕ). option_map_or (λ f. count_under s request n == count_under s request f) o true) at)
    ∙ asked_or (is_bridge_at s.nodes n) (option_map_or (λ f. count_under s request n == count_under s request f) (first_bridge s request) true) (even_at s request c.fits.endpoints n (bridge_port s.nodes n bridge) used).share bridge)

-- used bridges share the requested endpoints evenly
same_share : {s : System} {request : Request} {w : WindowFields} {base : ℕ} → Stated s request w base → (a b : ℕ) → is_bridge_at s.nodes a ≡ true → is_used s request a ≡ true → a < length s.nodes
    → is_bridge_at s.nodes b ≡ true → is_used s request b ≡ true → count_under s request a ≡ count_under s request b
same_share {s} {request} c a b bridge used within other also = go (first_bridge s request) refl
  where
    go : (o : Option ℕ) → first_bridge s request ≡ o → count_under s request a ≡ count_under s request b
    go None none =
        absurd (found_some (λ n. is_bridge_at s.nodes n && is_used s request n) (range_with_len 0 (length s.nodes))
        (is_number (λ n. is_bridge_at s.nodes n && is_used s request n) (length s.nodes) a within (and_from (is_bridge_at s.nodes a) (is_used s request a) bridge used)) none)
    go (Some first) at = shared c a bridge used first at ∙ sym (shared c b other also first at)

-- the window targets each used bridge
pub targeted : {s : System} {request : Request} {w : WindowFields} {base : ℕ} → Stated s request w base → (b : ℕ) → is_bridge_at s.nodes b ≡ true → is_used s request b ≡ true → b < length s.nodes
    → (uid : ℕ) × (uid_at s.nodes b ≡ Some uid) × (list_any (λ target. target == uid) w.targets ≡ true)
targeted {s} {request} {w} c b bridge used within =
    go (uid_at s.nodes b) refl
    (asked_or (is_bridge_at s.nodes b && is_used s request b) (is_target s w b)
    (each_number (λ n. not (is_bridge_at s.nodes n && is_used s request n) || is_target s w n) (length s.nodes) b within (and_parts (list_all (is_used_bridge s request) w.targets) _ c.fits.window.bridges).1)
    (and_from (is_bridge_at s.nodes b) (is_used s request b) bridge used))
  where
    go : (o : Option ℕ) → uid_at s.nodes b ≡ o → option_map_or (λ uid. list_any (λ target. target == uid) w.targets) o false ≡ true
        → (uid : ℕ) × (uid_at s.nodes b ≡ Some uid) × (list_any (λ target. target == uid) w.targets ≡ true)
    go None at is = absurd (false≢true is)
    go (Some uid) at is = (uid, at, is)

record Tops (s : System) (uid m : ℕ) : Type 0 where
  bridge : ℕ
  found : bridge_with s.nodes uid ≡ Some bridge
  own : uid_at s.nodes bridge ≡ Some uid
  root : root_of s.nodes m ≡ Some bridge

tops_is : (s : System) → KnownTree s.nodes → (uid m : ℕ) → under_target s uid m ≡ true → Tops s uid m
tops_is s known uid m is = go (bridge_with s.nodes uid) refl is
  where
    go : (o : Option ℕ) → bridge_with s.nodes uid ≡ o → option_map_or (λ b. is_under s.nodes b m) o false ≡ true → Tops s uid m
    go None at is = absurd (false≢true is)
    go (Some b) at is =
        let own = (known.laws.bridges uid b).0 at in
        record { bridge = b; found = at; own = own; root = (under_top known b (uid_top known b uid own).1 m).0 is }

-- a requested endpoint stands under the bridge of one target
one_target : {s : System} {request : Request} {w : WindowFields} {base : ℕ} → Stated s request w base → are_distinct w.targets ≡ true → (m : ℕ) → Contains request.endpoints m
    → one true ≡ total (λ uid. one (under_target s uid m)) w.targets
one_target {s} {request} {w} c distinct m there = ap one (sym any) ∙ sym (once (λ uid. under_target s uid m) same w.targets distinct)
  where
    same : (u v : ℕ) → under_target s u m ≡ true → under_target s v m ≡ true → u ≡ v
    same u v first second =
        let left = tops_is s c.known u m first in
        let right = tops_is s c.known v m second in
        let equal : left.bridge ≡ right.bridge = same_Some left.bridge right.bridge (sym left.root ∙ right.root) in
        same_Some u v (sym left.own ∙ ap (uid_at s.nodes) equal ∙ right.own)

    any : list_any (λ uid. under_target s uid m) w.targets ≡ true
    any =
        let is = requested_within c m there in
        let top = used_root s request c.known m is.1 (used_by s request m m there (under_self c.known m)) in
        let target = targeted c top.bridge top.is top.used top.within in
        let found : bridge_with s.nodes target.0 ≡ Some top.bridge = (c.known.laws.bridges target.0 top.bridge).1 target.1 in
        let under : is_under s.nodes top.bridge m ≡ true = (under_top c.known top.bridge (c.known.tree.bridges top.bridge top.is) m).1 top.root in
        list_any-weaker (λ uid. uid == target.0) (λ uid. under_target s uid m)
        (λ uid is. ap (λ (u : ℕ). under_target s u m) (eqb-true uid target.0 is) ∙ ap (λ (o : Option ℕ). option_map_or (λ b. is_under s.nodes b m) o false) found ∙ under) w.targets target.2

-- each target has as many
count_target : {s : System} {request : Request} {w : WindowFields} {base : ℕ} → Stated s request w base → (b : ℕ) → is_bridge_at s.nodes b ≡ true → is_used s request b ≡ true → b < length s.nodes
    → (uid : ℕ) → is_used_bridge s request uid ≡ true → total (λ m. one (under_target s uid m)) request.endpoints ≡ count_under s request b
count_target {s} {request} c b bridge used within uid target = go (bridge_with s.nodes uid) refl target
  where
    go : (o : Option ℕ) → bridge_with s.nodes uid ≡ o → option_map_or (is_used s request) o false ≡ true → total (λ m. one (option_map_or (λ a. is_under s.nodes a m) (bridge_with s.nodes uid) false)) request.endpoints ≡ count_under s request b
    go None at is = absurd (false≢true is)
    go (Some a) at is =
        ap (λ (o : Option ℕ). total (λ m. one (option_map_or (λ x. is_under s.nodes x m) o false)) request.endpoints) at
        ∙ sym (count_is s request a)
        ∙ sym (same_share c b a bridge used within (uid_top c.known a uid ((c.known.laws.bridges uid a).0 at)).0 is)

pub known_window : {s : System} {request : Request} {w : WindowFields} {base : ℕ} → Stated s request w base → IsWindow w
known_window {s} {request} {w} c = All-at IsWindow s.windows w.index w c.fits.window.there c.fits.system.made.each

-- the requested endpoints under a used bridge, times the window's ways, are the request's ways
count_bridge : {s : System} {request : Request} {w : WindowFields} {base : ℕ} → Stated s request w base → (b : ℕ) → is_bridge_at s.nodes b ≡ true → is_used s request b ≡ true → b < length s.nodes
    → w.ways * count_under s request b ≡ request_ways request
count_bridge {s} {request} {w} c b bridge used within =
    ap (λ (k : ℕ). k * count_under s request b) (sym window.target_each_way)
    ∙ sym (total_same_each (λ uid. total (λ m. one (under_target s uid m)) request.endpoints) (count_under s request b) w.targets
    (λ k d inside. count_target c b bridge used within (get_or w.targets k d) (AllPass-from_list_all (is_used_bridge s request) w.targets all k d inside)))
    ∙ exchange (λ uid m. one (under_target s uid m)) w.targets request.endpoints
    ∙ sym (total_each (λ m. one true) (λ m. total (λ uid. one (under_target s uid m)) w.targets) request.endpoints
    (λ k d inside. one_target c distinct (get_or request.endpoints k d) (Contains-get_or request.endpoints k d inside)))
    ∙ length_total request.endpoints
  where
    window : IsWindow w
    window = known_window c

    distinct : are_distinct w.targets ≡ true
    distinct = distinct_test w.targets (window.usable (usable_is w.verdict c.fits.window.usable)).distinct

    all : list_all (is_used_bridge s request) w.targets ≡ true
    all = (and_parts (list_all (is_used_bridge s request) w.targets) _ c.fits.window.bridges).0

-- ---- down to each used node

regroup : (n p a w : ℕ) → n * (p * a * w) ≡ p * n * (a * w)
regroup n p a w = omega arith

ways_step : {s : System} {request : Request} {w : WindowFields} {base : ℕ} → Stated s request w base → (n : ℕ) (p : Parent) → parent_of s.nodes n ≡ Some p
    → planned_ways_above s request n ≡ length (used_ports s request p.node) * planned_ways_above s request p.node
ways_step {s} {request} c n p some =
    ap (λ (ps : List Parent). product (map (λ parent. planned_ways s request parent.node) ps)) (ports_some c.known n p some)
    ∙ ap (λ (k : ℕ). k * planned_ways_above s request p.node) (port_ways s request p.node (port_no_endpoint s.nodes p.node (parent_is_port c.known n p some).1))

-- the requested endpoints under a used node, times the ways above it and the window's, are the request's ways
pub count_down : {s : System} {request : Request} {w : WindowFields} {base : ℕ} → Stated s request w base → (n : ℕ) → n < length s.nodes → is_used s request n ≡ true
    → count_under s request n * (planned_ways_above s request n * w.ways) ≡ request_ways request
count_down {s} {request} {w} c =
    up_tree c.known (λ n. n < length s.nodes → is_used s request n ≡ true → count_under s request n * (planned_ways_above s request n * w.ways) ≡ request_ways request)
    (λ n none within used.
    let bridge = top_bridge c.known n none within in
    let above : planned_ways_above s request n ≡ 1 = ap (λ (ps : List Parent). product (map (λ parent. planned_ways s request parent.node) ps)) (ports_none c.known n none) in
    let whole = count_bridge c n bridge used within in
    ap (λ (k : ℕ). count_under s request n * (k * w.ways)) above ∙ omega (arith, whole))
    (λ n p some rest within used.
    let up = parent_is_port c.known n p some in
    let higher = rest (omega (arith, up, within)) (used_parent s request c.known n p some used) in
    ap (λ (k : ℕ). count_under s request n * (k * w.ways)) (ways_step c n p some)
    ∙ regroup (count_under s request n) (length (used_ports s request p.node)) (planned_ways_above s request p.node) w.ways
    ∙ ap (λ (k : ℕ). k * (planned_ways_above s request p.node * w.ways)) (sym (count_child c n p some used))
    ∙ higher)

-- a requested endpoint has the window's ways times those above it
pub endpoint_ways : {s : System} {request : Request} {w : WindowFields} {base : ℕ} → Stated s request w base → (m : ℕ) → Contains request.endpoints m → request_ways request ≡ w.ways * planned_ways_above s request m
endpoint_ways {s} {request} {w} c m there =
    let is = requested_within c m there in
    let down = count_down c m is.1 (used_by s request m m there (under_self c.known m)) in
    let single : count_under s request m ≡ 1 =
    count_is s request m
    ∙ total-same (λ e. one (is_under s.nodes m e)) (λ e. one (e == m)) (λ e. ap one (under_endpoint c.known m e is.0)) request.endpoints
    ∙ once (λ e. e == m) (λ a b first second. eqb-true a m first ∙ sym (eqb-true b m second)) request.endpoints (distinct_test request.endpoints c.fits.endpoints.distinct)
    ∙ ap one (list_any_at (λ e. e == m) request.endpoints there.0 m there.1 (eq-eqb (get_or request.endpoints there.0 m) m there.2)) in
    sym down ∙ ap (λ (k : ℕ). k * (planned_ways_above s request m * w.ways)) single ∙ omega arith
