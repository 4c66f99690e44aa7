-- A set that is given in a window keeps all that a request has to.
use Rattle.std.proofs.Common.{◌≡◌, ℕ, ◌+◌, ◌-◌, ◌/◌, ◌≤◌, Bool, true, false, not, ◌&&◌, if◌then◌else◌, List, length, get_or, Option, Some, None, refl, sym, ap, ◌∙◌, subst, inl, inr, arith}
use Rattle.std.specs.Prelude.{◌==◌, nat_le, nat_lt, max, unwrap_or, IfSome}
use Rattle.std.specs.Option.{option_map_or}
use Rattle.std.specs.List.{list_all, range_with_len}
use Rattle.std.proofs.lemmas.Bool.{cases_Bool, and_parts, and_from, or_left, or_right, eq-eqb, leb-true, le-leb, not-true, not_from_false}
use Rattle.std.proofs.lemmas.List.Sums.{list_all-from_AllPass}
use Rattle.std.proofs.lemmas.List.Folds.{list_any_at}
use Rattle.cxl_enc.specs.Codes.{is_ways}
use Rattle.cxl_enc.specs.Caps.{targets_of, is_target_count}
use Rattle.cxl_enc.proofs.Lists.{is_in, in_from, in_is, find_passes}
use Rattle.cxl_enc.proofs.Tests.{not_lacking}
use Rattle.cxl_topo.specs.Tree.{is_port_at, is_bridge_at, parent_of}
use Rattle.cxl_window.specs.Fields.{WindowFields}
use Rattle.cxl_topo.proofs.Trees.{port_no_endpoint}
use Rattle.cxl_model.specs.declared.request.Request.{Request}
use Rattle.cxl_model.specs.System.{System, decoders_at, ram_at, pmem_at}
use Rattle.cxl_model.specs.Counts.{is_under}
use Rattle.cxl_legal.specs.Used.{is_used, count_under, used_ports, count_at_port}
use Rattle.cxl_span.specs.declared.allotting.Span.{Span}
use Rattle.cxl_span.specs.Allotting.{all_committed, cursor_of}
use Rattle.cxl_span.specs.Partitions.{partition_start, partition_end}
use Rattle.cxl_model.proofs.Under.{under_self}
use Rattle.cxl_legal.specs.Endpoints.{IsSize, cap_at, share_of, has_even_ports, has_even_children, first_bridge, has_bridge_share, HasRoom, FitsEndpoints}
use Rattle.cxl_legal.specs.Bases.{last_end}
use Rattle.cxl_legal.proofs.UsedPorts.{ports_pass}
use Rattle.cxl_pick.specs.declared.want.Want.{Want}
use Rattle.cxl_pick.specs.Picking.{asked, is_open, wanted_code, wanted_share, has_room}
use Rattle.cxl_pick.proofs.Parts.{Picked, known_of, own_window, in_given, given_endpoint, differ, set_long}
use Rattle.cxl_pick.proofs.Facts.{port_facts, port_share, top_count, itself, opened}

-- ---- codes

-- a stated granularity is a code
abbrev pub HasCode : Want → Type 0
HasCode want = IfSome want.gran (λ code. code ≤ 6)

pub code_low : {s : System} {want : Want} {w : WindowFields} {given set : List ℕ} → Picked s want w given set → HasCode want → wanted_code want w ≤ 6
code_low {s} {want} {w} picked stated = go (want.ways == 1) (nat_lt 1 w.ways)
  where
    optional : (o : Option ℕ) → IfSome o (λ code. code ≤ 6) → unwrap_or o w.gran ≤ 6
    optional None tells = (own_window picked.of).known.gran_known
    optional (Some code) low = low

    go : (one several : Bool) → (if one then 0 else (if several then w.gran else unwrap_or want.gran w.gran)) ≤ 6
    go true several = omega arith
    go false true = (own_window picked.of).known.gran_known
    go false false = optional want.gran stated

-- ---- the endpoints

even_ports_is : {s : System} {want : Want} {w : WindowFields} {given set : List ℕ} → (picked : Picked s want w given set) → (n : ℕ) → is_port_at s.nodes n ≡ true → is_used s (asked want set) n ≡ true
    → has_even_ports s (asked want set) n ≡ true
even_ports_is {s} {want} {w} {given} {set} picked n port used =
    let facts = port_facts picked n (port_no_endpoint s.nodes n port) used in
    ap (λ (k : ℕ). is_target_count k && nat_le k (targets_of (cap_at s n))) facts.ports
    ∙ and_from (is_target_count facts.u) (nat_le facts.u (targets_of (cap_at s n))) facts.count facts.can.few

even_children_is : {s : System} {want : Want} {w : WindowFields} {given set : List ℕ} → (picked : Picked s want w given set) → (n : ℕ) → is_port_at s.nodes n ≡ true → is_used s (asked want set) n ≡ true
    → has_even_children s (asked want set) n ≡ true
even_children_is {s} {want} {w} {given} {set} picked n port used =
    let facts = port_facts picked n (port_no_endpoint s.nodes n port) used in
    let request : Request = asked want set in
    list_all-from_AllPass (λ e. list_all (λ f. count_at_port s request n e == count_at_port s request n f) (used_ports s request n)) (used_ports s request n) (λ k d within.
    let e : ℕ = get_or (used_ports s request n) k d in
    list_all-from_AllPass (λ f. count_at_port s request n e == count_at_port s request n f) (used_ports s request n) (λ j c inside.
    let f : ℕ = get_or (used_ports s request n) j c in
    eq-eqb (count_at_port s request n e) (count_at_port s request n f)
    (port_share picked n facts e (ports_pass s request n k d within) ∙ sym (port_share picked n facts f (ports_pass s request n j c inside)))))

bridge_share_is : {s : System} {want : Want} {w : WindowFields} {given set : List ℕ} → (picked : Picked s want w given set) → (n : ℕ) → is_used s (asked want set) n ≡ true
    → has_bridge_share s (asked want set) n ≡ true
bridge_share_is {s} {want} {w} {given} {set} picked n used =
    elim (cases_Bool (is_bridge_at s.nodes n)) [
      | inl bridge ↦ or_right (not (is_bridge_at s.nodes n)) (option_map_or (λ first. count_under s (asked want set) n == count_under s (asked want set) first) (first_bridge s (asked want set)) true)
          (go (picked.of.system.tree.bridges n bridge) (first_bridge s (asked want set)) refl)
      | inr other ↦ or_left (not (is_bridge_at s.nodes n)) (option_map_or (λ first. count_under s (asked want set) n == count_under s (asked want set) first) (first_bridge s (asked want set)) true)
          (not_from_false (is_bridge_at s.nodes n) other)
    ]
  where
    go : parent_of s.nodes n ≡ None → (o : Option ℕ) → first_bridge s (asked want set) ≡ o → option_map_or (λ first. count_under s (asked want set) n == count_under s (asked want set) first) o true ≡ true
    go top None at = refl
    go top (Some m) at =
        let parts = and_parts (is_bridge_at s.nodes m) (is_used s (asked want set) m) (find_passes (λ k. is_bridge_at s.nodes k && is_used s (asked want set) k) (range_with_len 0 (length s.nodes)) m at) in
        eq-eqb (count_under s (asked want set) n) (count_under s (asked want set) m) (top_count picked n top used ∙ sym (top_count picked m (picked.of.system.tree.bridges m parts.0) parts.1))

pub left_of : (s : System) (start n : ℕ) → is_open s start n ≡ true → (all_committed (decoders_at s n) ≡ false) × (last_end s n ≤ start)
left_of s start n is =
    let parts = and_parts (not (all_committed (decoders_at s n))) (nat_le (last_end s n) start) is in
    (not-true (all_committed (decoders_at s n)) parts.0, leb-true (last_end s n) start parts.1)

not_both : (a b : Bool) → (a ≡ true → b ≡ false) → (a && b) ≡ false
not_both true b fails = fails refl
not_both false b fails = refl

self_used : {s : System} {want : Want} {w : WindowFields} {given set : List ℕ} → (picked : Picked s want w given set) → (m : ℕ) → is_in m set ≡ true → is_used s (asked want set) m ≡ true
self_used {s} {want} {w} {given} {set} picked m there =
    let at = in_is set m there in
    list_any_at (is_under s.nodes m) set at.0 m at.1 (subst (λ (i : ℕ). is_under s.nodes m i ≡ true) (sym at.2) (under_self (known_of picked.of) m))

-- its least span starts past what is committed, in its kind's partition
least_span : (s : System) (want : Want) (set : List ℕ) (m : ℕ) → length set ≡ want.ways → all_committed (decoders_at s m) ≡ false → has_room s want m ≡ true → HasRoom s (asked want set) m
least_span s want set m all left room =
    let start : ℕ = max (cursor_of (decoders_at s m)) (partition_start want.kind (ram_at s m)) in
    let share : share_of (asked want set) ≡ wanted_share want = ap (λ (k : ℕ). want.size / k) all in
    let high = leb-true (start + wanted_share want) (partition_end want.kind (ram_at s m) (pmem_at s m)) room in
    let ends : start + share_of (asked want set) ≤ partition_end want.kind (ram_at s m) (pmem_at s m) = omega (arith, share, high) in
    let span : Span = record { start = start; skip = start - cursor_of (decoders_at s m); len = share_of (asked want set) } in (
      span,
      record {
        left = left;
        can_start = record {
          after = omega arith;
          inside = and_from (nat_le (partition_start want.kind (ram_at s m)) start) (nat_le (start + share_of (asked want set)) (partition_end want.kind (ram_at s m) (pmem_at s m)))
              (le-leb (partition_start want.kind (ram_at s m)) start (omega arith)) (le-leb (start + share_of (asked want set)) (partition_end want.kind (ram_at s m) (pmem_at s m)) ends);
        };
        least = λ other can.
            let after = can.after in
            let parts = and_parts (nat_le (partition_start want.kind (ram_at s m)) other) (nat_le (other + share_of (asked want set)) (partition_end want.kind (ram_at s m) (pmem_at s m))) can.inside in
            let low = leb-true (partition_start want.kind (ram_at s m)) other parts.0 in
            omega (arith, after, low);
        skip = omega arith;
        length = refl;
      },
    )

pub set_fits_endpoints : {s : System} {want : Want} {w : WindowFields} {given set : List ℕ} → (picked : Picked s want w given set) → IsSize (asked want set) → FitsEndpoints s (asked want set)
set_fits_endpoints {s} {want} {w} {given} {set} picked size = record {
  distinct = differ picked;
  ways = ap is_ways (set_long picked) ∙ picked.ways;
  size = size;
  even = λ n.
      not_lacking (is_port_at s.nodes n) (is_used s (asked want set) n) (has_even_ports s (asked want set) n) (has_even_children s (asked want set) n) (has_bridge_share s (asked want set) n)
      (λ port used. (even_ports_is picked n port used, even_children_is picked n port used, bridge_share_is picked n used));
  left = λ n. not_both (is_used s (asked want set) n) (all_committed (decoders_at s n)) (λ used. (left_of s picked.of.window.start n (opened picked n used)).0);
  room = λ m there.
      let inside = in_from set m there in
      let used = self_used picked m inside in
      let endpoint = given_endpoint picked.of m (in_given picked m inside) in
      least_span s want set m (set_long picked) (left_of s picked.of.window.start m (opened picked m used)).0 (itself picked m endpoint used).room;
}
