-- Where a request keeps all that it has to, its endpoints lie evenly.
use Rattle.std.proofs.Common.{◌≡◌, ℕ, ◌*◌, ◌<◌, Bool, true, false, not, ◌&&◌, ◌||◌, length, get_or, Option, Some, None, refl, sym, ap, ◌∙◌, subst, arith}
use Rattle.std.specs.Prelude.{◌==◌, nat_le, All, slice_get}
use Rattle.std.specs.Option.{option_map_or}
use Rattle.std.specs.List.{list_any, list_all, range_with_len}
use Rattle.std.proofs.Math.Nat.{mul_comm}
use Rattle.std.proofs.lemmas.Bool.{and_parts, and_from, eqb-true, eq-eqb, false≢true}
use Rattle.std.proofs.lemmas.Option.{none-some, same_Some, slice_get_within, get_or_from_slice_get}
use Rattle.std.proofs.lemmas.List.Folds.{Any-from_list_any, list_any_at}
use Rattle.std.proofs.lemmas.List.Sums.{AllPass-from_list_all}
use Rattle.std.proofs.lemmas.List.FromFn.{length-range_with_len, get_or-range_with_len}
use Rattle.cxl_enc.specs.Caps.{targets_of, is_target_count}
use Rattle.cxl_enc.proofs.Lists.{list_any-weaker, is_in}
use Rattle.cxl_enc.proofs.Numbers.{is_number}
use Rattle.cxl_enc.proofs.Tests.{asked_or}
use Rattle.cxl_topo.specs.declared.node.Parent.{Parent}
use Rattle.cxl_topo.specs.Tree.{is_bridge_at, is_endpoint_at, is_port_at, uid_at, parent_of, child_of, bridge_with}
use Rattle.cxl_topo.specs.Laws.{AreTreeLaws}
use Rattle.cxl_window.specs.Fields.{WindowFields, IsWindow, IsUsable}
use Rattle.cxl_window.specs.Position.{is_usable}
use Rattle.cxl_window.proofs.Usable.{usable_is}
use Rattle.cxl_topo.proofs.Bridges.{top_bridge, bridge_port}
use Rattle.cxl_topo.proofs.Trees.{KnownTree, parent_is_port, port_no_endpoint, endpoint_within}
use Rattle.cxl_model.specs.declared.request.Request.{Request}
use Rattle.cxl_model.specs.System.{System, IsSystem}
use Rattle.cxl_model.specs.Counts.{is_under}
use Rattle.cxl_model.proofs.Under.{under_later}
use Rattle.cxl_model.proofs.Distinct.{distinct_test}
use Rattle.cxl_model.proofs.Sums.{total_same_each}
use Rattle.cxl_legal.specs.Used.{request_ways, is_used, count_under, is_port_used, used_ports, count_at_port}
use Rattle.cxl_legal.specs.Endpoints.{cap_at, has_even_ports, has_even_children, first_bridge, has_bridge_share}
use Rattle.cxl_legal.specs.Windows.{is_used_bridge, is_target}
use Rattle.cxl_legal.specs.Stated.{Fits}
use Rattle.cxl_pick.proofs.Lists.{in_passes, kept_in, found}
use Rattle.cxl_pick.proofs.Shares.{Asked, used_parent, even_shares}
use Rattle.cxl_pick.proofs.Tops.{top_of, is_below, bridge_of, count_at_target, target_shares}
use Rattle.cxl_pick.proofs.Codes.{LieEvenly}

-- a window of a system
pub record Windowed (w : WindowFields) : Type 0 where
  pub known : IsWindow w
  pub usable : IsUsable w

pub windowed : (s : System) (w : WindowFields) → IsSystem s → slice_get s.windows w.index ≡ Some w → is_usable w.verdict ≡ true → Windowed w
windowed s w system there usable =
    let within = slice_get_within s.windows w.index w there in
    let own : IsWindow w = subst IsWindow (get_or_from_slice_get s.windows w.index w w there) (system.made.each w.index w within) in
    record { known = own; usable = own.usable (usable_is w.verdict usable) }

-- a used bridge or switch is no uneven one
pub record EvenAt (s : System) (request : Request) (n : ℕ) : Type 0 where
  pub ports : has_even_ports s request n ≡ true
  pub children : has_even_children s request n ≡ true
  pub share : has_bridge_share s request n ≡ true

even_parts : (p u a b c : Bool) → (p && u && not (a && b && c)) ≡ false → p ≡ true → u ≡ true → (a ≡ true) × (b ≡ true) × (c ≡ true)
even_parts true true true true true is port used = (refl, refl, refl)
even_parts true true true true false is port used = absurd (false≢true (sym is))
even_parts true true true false c is port used = absurd (false≢true (sym is))
even_parts true true false b c is port used = absurd (false≢true (sym is))
even_parts true false a b c is port used = absurd (false≢true used)
even_parts false u a b c is port used = absurd (false≢true port)

pub even_at : {s : System} {request : Request} {w : WindowFields} {base : ℕ} → Fits s request w base → (n : ℕ) → is_port_at s.nodes n ≡ true → is_used s request n ≡ true → EvenAt s request n
even_at {s} {request} fits n port used =
    let parts = even_parts (is_port_at s.nodes n) (is_used s request n) (has_even_ports s request n) (has_even_children s request n) (has_bridge_share s request n) (fits.endpoints.even n) port used in
    record { ports = parts.0; children = parts.1; share = parts.2 }

pub asked_of : {s : System} {request : Request} {w : WindowFields} {base : ℕ} → AreTreeLaws s.nodes → Fits s request w base → Asked s request
asked_of laws fits = record { known = record { tree = fits.system.tree; laws = laws }; ports = fits.ports; named = fits.named }

-- ---- bridges

-- each used bridge has as many as any other
same_shares : {s : System} {request : Request} {w : WindowFields} {base : ℕ} → AreTreeLaws s.nodes → Fits s request w base → (a b : ℕ) → is_bridge_at s.nodes a ≡ true → is_used s request a ≡ true
    → is_bridge_at s.nodes b ≡ true → is_used s request b ≡ true → a < length s.nodes → count_under s request a ≡ count_under s request b
same_shares {s} {request} {w} {base} laws fits a b bridge used other also within =
    let f = found (λ n. is_bridge_at s.nodes n && is_used s request n) (range_with_len 0 (length s.nodes))
    (is_number (λ n. is_bridge_at s.nodes n && is_used s request n) (length s.nodes) a within (and_from (is_bridge_at s.nodes a) (is_used s request a) bridge used)) in
    first f.0 f.1 a bridge used ∙ sym (first f.0 f.1 b other also)
  where
    share_is : (n m : ℕ) (is : Bool) → is ≡ true → (o : Option ℕ) → o ≡ Some m → (not is || option_map_or (λ first. count_under s request n == count_under s request first) o true) ≡ true
        → count_under s request n ≡ count_under s request m
    share_is n m true is (Some f) at share = eqb-true (count_under s request n) (count_under s request f) share ∙ ap (count_under s request) (same_Some f m at)
    share_is n m true is None at share = absurd (none-some m at)
    share_is n m false is o at share = absurd (false≢true is)

    first : (f : ℕ) → first_bridge s request ≡ Some f → (n : ℕ) → is_bridge_at s.nodes n ≡ true → is_used s request n ≡ true → count_under s request n ≡ count_under s request f
    first f at n is there = share_is n f (is_bridge_at s.nodes n) is (first_bridge s request) at (even_at fits n (bridge_port s.nodes n is) there).share

pub record UsedTarget (s : System) (request : Request) (uid : ℕ) : Type 0 where
  pub node : ℕ
  pub is : bridge_with s.nodes uid ≡ Some node
  pub used : is_used s request node ≡ true

-- each target of the window is a used bridge
pub used_target : {s : System} {request : Request} {w : WindowFields} {base : ℕ} → Fits s request w base → All (UsedTarget s request) w.targets
used_target {s} {request} {w} {base} fits = λ k d within.
    let parts = and_parts (list_all (is_used_bridge s request) w.targets) (list_all (λ n. not (is_bridge_at s.nodes n && is_used s request n) || is_target s w n) (range_with_len 0 (length s.nodes))) fits.window.bridges in
    go (get_or w.targets k d) (bridge_with s.nodes (get_or w.targets k d)) refl (AllPass-from_list_all (is_used_bridge s request) w.targets parts.0 k d within)
  where
    go : (uid : ℕ) (o : Option ℕ) → bridge_with s.nodes uid ≡ o → option_map_or (is_used s request) o false ≡ true → UsedTarget s request uid
    go uid None at none = absurd (false≢true none)
    go uid (Some b) at used = record { node = b; is = at; used = used }

-- and each used bridge is a target
target_is : (s : System) (w : WindowFields) (b : ℕ) → is_target s w b ≡ true → (uid : ℕ) × (uid_at s.nodes b ≡ Some uid) × (is_in uid w.targets ≡ true)
target_is s w b is = go (uid_at s.nodes b) refl is
  where
    go : (o : Option ℕ) → uid_at s.nodes b ≡ o → option_map_or (λ uid. list_any (λ target. target == uid) w.targets) o false ≡ true → (uid : ℕ) × (uid_at s.nodes b ≡ Some uid) × (is_in uid w.targets ≡ true)
    go None at none = absurd (false≢true none)
    go (Some uid) at there = (uid, at, there)

pub number_passes : (p : ℕ → Bool) (n k : ℕ) → list_all p (range_with_len 0 n) ≡ true → k < n → p k ≡ true
number_passes p n k all within =
    let long = length-range_with_len 0 n in
    let at : get_or (range_with_len 0 n) k 0 ≡ k = get_or-range_with_len 0 n k 0 within ∙ omega arith in
    ap p (sym at) ∙ AllPass-from_list_all p (range_with_len 0 n) all k 0 (omega (arith, long, within))

under_target : {s : System} {request : Request} {w : WindowFields} {base : ℕ} → AreTreeLaws s.nodes → Fits s request w base
    → All (λ i. list_any (λ uid. is_below s.nodes uid i) w.targets ≡ true) request.endpoints
under_target {s} {request} {w} {base} laws fits = λ k d within. each (get_or request.endpoints k d) (fits.named k d within) (used k d within)
  where
    is : Asked s request
    is = asked_of laws fits

    used : (k d : ℕ) → k < length request.endpoints → is_used s request (top_of (asked_of laws fits).known (get_or request.endpoints k d)).node ≡ true
    used k d within =
        list_any_at (is_under s.nodes (top_of is.known (get_or request.endpoints k d)).node) request.endpoints k d within (top_of is.known (get_or request.endpoints k d)).above

    each : (i : ℕ) → is_endpoint_at s.nodes i ≡ true → is_used s request (top_of (asked_of laws fits).known i).node ≡ true → list_any (λ uid. is_below s.nodes uid i) w.targets ≡ true
    each i endpoint there =
        let top = top_of is.known i in
        let low = under_later is.known top.node i top.above in
        let high = endpoint_within s.nodes i endpoint in
        let within : top.node < length s.nodes = omega (arith, low, high) in
        let bridge = top_bridge is.known top.node top.none within in
        let parts = and_parts (list_all (is_used_bridge s request) w.targets) (list_all (λ n. not (is_bridge_at s.nodes n && is_used s request n) || is_target s w n) (range_with_len 0 (length s.nodes))) fits.window.bridges in
        let targeted = asked_or (is_bridge_at s.nodes top.node && is_used s request top.node) (is_target s w top.node)
        (number_passes (λ n. not (is_bridge_at s.nodes n && is_used s request n) || is_target s w n) (length s.nodes) top.node parts.1 within)
        (and_from (is_bridge_at s.nodes top.node) (is_used s request top.node) bridge there) in
        let own = target_is s w top.node targeted in
        let below : is_below s.nodes own.0 i ≡ true =
        ap (λ (o : Option ℕ). option_map_or (λ b. is_under s.nodes b i) o false) ((is.known.laws.bridges own.0 top.node).1 own.1) ∙ top.above in
        list_any-weaker (λ e. e == own.0) (λ uid. is_below s.nodes uid i) (λ e same. ap (λ uid. is_below s.nodes uid i) (eqb-true e own.0 same) ∙ below) w.targets own.2

pub used_within : {s : System} {request : Request} → Asked s request → (n : ℕ) → is_used s request n ≡ true → n < length s.nodes
used_within {s} {request} is n used =
    let some = Any-from_list_any (is_under s.nodes n) request.endpoints used in
    let low = under_later is.known n some.1 some.4 in
    let at : get_or request.endpoints some.0 some.1 ≡ some.1 = some.3 in
    let high : get_or request.endpoints some.0 some.1 < length s.nodes = endpoint_within s.nodes (get_or request.endpoints some.0 some.1) (is.named some.0 some.1 some.2) in
    omega (arith, low, at, high)

top_shares : {s : System} {request : Request} {w : WindowFields} {base : ℕ} → AreTreeLaws s.nodes → Fits s request w base → (b : ℕ) → parent_of s.nodes b ≡ None → is_used s request b ≡ true
    → count_under s request b * w.ways ≡ request_ways request
top_shares {s} {request} {w} {base} laws fits b none used =
    mul_comm (count_under s request b) w.ways
    ∙ ap (λ (k : ℕ). k * count_under s request b) (sym own.known.target_each_way)
    ∙ sym (total_same_each (count_at_target s request) (count_under s request b) w.targets each)
    ∙ target_shares is w.targets (distinct_test w.targets own.usable.distinct) (under_target laws fits)
  where
    is : Asked s request
    is = asked_of laws fits

    own : Windowed w
    own = windowed s w fits.system fits.window.there fits.window.usable

    same : (uid : ℕ) → UsedTarget s request uid → count_at_target s request uid ≡ count_under s request b
    same uid target =
        let of = bridge_of (asked_of laws fits).known uid target.node target.is in
        let node : of.node ≡ target.node = same_Some of.node target.node (sym of.is ∙ target.is) in
        let within = used_within (asked_of laws fits) b used in
        let bridge = top_bridge (asked_of laws fits).known b none within in
        ap (λ (o : Option ℕ). option_map_or (count_under s request) o 0) target.is
        ∙ sym (same_shares laws fits b target.node bridge used (subst (λ (n : ℕ). is_bridge_at s.nodes n ≡ true) node of.bridge) target.used within)

    each : All (λ uid. count_at_target s request uid ≡ count_under s request b) w.targets
    each = λ k d within. same (get_or w.targets k d) (used_target fits k d within)

-- ---- ports

child_shares : {s : System} {request : Request} {w : WindowFields} {base : ℕ} → AreTreeLaws s.nodes → Fits s request w base → (c : ℕ) (p : Parent) → parent_of s.nodes c ≡ Some p → is_used s request c ≡ true
    → length (used_ports s request p.node) * count_under s request c ≡ count_under s request p.node
child_shares {s} {request} {w} {base} laws fits c p child used =
    even_shares (asked_of laws fits) p.node (count_under s request c) (port_no_endpoint s.nodes p.node port) each
  where
    known : KnownTree s.nodes
    known = (asked_of laws fits).known

    port : is_port_at s.nodes p.node ≡ true
    port = (parent_is_port (asked_of laws fits).known c p child).1

    at : child_of s.nodes p.node p.port ≡ Some c
    at = ((asked_of laws fits).known.laws.children p.node p.port c).1 child

    -- the port of the child is one of the used ones
    there : is_in p.port (used_ports s request p.node) ≡ true
    there =
        kept_in (is_port_used s request p.node) (range_with_len 0 256) p.port
        (is_number (λ e. e == p.port) 256 p.port (fits.ports c p child) (eq-eqb p.port p.port refl))
        (ap (λ (o : Option ℕ). option_map_or (is_used s request) o false) (((asked_of laws fits).known.laws.children p.node p.port c).1 child) ∙ used)

    here : count_at_port s request p.node p.port ≡ count_under s request c
    here = ap (λ (o : Option ℕ). option_map_or (count_under s request) o 0) (((asked_of laws fits).known.laws.children p.node p.port c).1 child)

    even : (e : ℕ) → is_in e (used_ports s request p.node) ≡ true → count_at_port s request p.node p.port ≡ count_at_port s request p.node e
    even e is =
        let all = (even_at fits p.node ((parent_is_port (asked_of laws fits).known c p child).1) (used_parent (asked_of laws fits) c p child used)).children in
        let row = in_passes (λ port. list_all (λ other. count_at_port s request p.node port == count_at_port s request p.node other) (used_ports s request p.node)) (used_ports s request p.node) p.port all there in
        eqb-true (count_at_port s request p.node p.port) (count_at_port s request p.node e)
        (in_passes (λ other. count_at_port s request p.node p.port == count_at_port s request p.node other) (used_ports s request p.node) e row is)

    each : All (λ e. count_at_port s request p.node e ≡ count_under s request c) (used_ports s request p.node)
    each = λ k d within.
        let e : ℕ = get_or (used_ports s request p.node) k d in
        sym (even e (list_any_at (λ m. m == e) (used_ports s request p.node) k d within (eq-eqb e e refl))) ∙ here

pub evenly : {s : System} {request : Request} {w : WindowFields} {base : ℕ} → AreTreeLaws s.nodes → Fits s request w base → LieEvenly s request w
evenly {s} {request} {w} {base} laws fits = record {
  asked = asked_of laws fits;
  known = fits.endpoints.ways;
  ways = (windowed s w fits.system fits.window.there fits.window.usable).known.ways_known;
  tops = top_shares laws fits;
  counts = λ n port used. (and_parts (is_target_count (length (used_ports s request n))) (nat_le (length (used_ports s request n)) (targets_of (cap_at s n))) (even_at fits n port used).ports).0;
  children = child_shares laws fits;
}
