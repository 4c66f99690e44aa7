-- What the used nodes of a given set keep.
use Rattle.std.proofs.Common.{◌≡◌, ℕ, zero, suc, ◌*◌, ◌/◌, ◌<◌, true, false, ◌&&◌, List, length, get_or, Some, None, refl, sym, ap, ◌∙◌, subst, inl, inr, arith}
use Rattle.std.specs.Option.{option_map_or}
use Rattle.std.specs.List.{filter_map}
use Rattle.std.proofs.Math.Nat.{mul_comm}
use Rattle.std.proofs.lemmas.Nat.{div-add-mod'}
use Rattle.std.proofs.lemmas.Bool.{cases_Bool, and_parts}
use Rattle.std.proofs.lemmas.Option.{none-some}
use Rattle.cxl_enc.specs.Codes.{is_ways, bits_of, code_in_table}
use Rattle.cxl_regs.specs.Rules.{endpoint_ways_ok, select_ok}
use Rattle.cxl_enc.specs.Caps.{is_target_count}
use Rattle.cxl_enc.proofs.Lists.{some_filtered}
use Rattle.cxl_enc.proofs.Numbers.{times_tell}
use Rattle.cxl_topo.specs.Tree.{is_endpoint_at, parent_of}
use Rattle.cxl_window.specs.Fields.{WindowFields}
use Rattle.cxl_topo.proofs.Trees.{parent_is_port, port_no_endpoint}
use Rattle.cxl_model.specs.System.{System}
use Rattle.cxl_model.specs.Counts.{is_under}
use Rattle.cxl_legal.specs.Used.{is_used, count_under, is_port_used, used_ports, count_at_port}
use Rattle.cxl_legal.specs.Endpoints.{cap_at}
use Rattle.cxl_legal.proofs.UsedPorts.{ports_pass}
use Rattle.cxl_pick.specs.declared.want.Want.{Want}
use Rattle.cxl_pick.specs.Picking.{asked, is_open, wanted_code, has_room, children_of, gives_within}
use Rattle.cxl_pick.proofs.Shares.{used_parent, even_shares, used_child}
use Rattle.cxl_pick.proofs.Codes.{LieEvenly}
use Rattle.cxl_pick.proofs.Giving.{gives_none}
use Rattle.cxl_pick.proofs.Taking.{gives_itself, offer, Can, can_parts, whole_share}
use Rattle.cxl_pick.proofs.Parts.{Picked, known_of, own_window, set_asked, set_long}
use Rattle.cxl_pick.proofs.Standing.{part_count, top_part, from_port, child_part, used_part}

-- ---- a used port

pub record PortFacts (s : System) (want : Want) (w : WindowFields) (start : ℕ) (set : List ℕ) (n : ℕ) : Type 0 where
  pub u : ℕ
  pub willing : ℕ
  pub count : is_target_count u ≡ true
  pub can : Can s want w start n (count_under s (asked want set) n) willing u
  pub ports : length (used_ports s (asked want set) n) ≡ u
  pub shares : (c e : ℕ) → parent_of s.nodes c ≡ Some (record { node = n; port = e }) → is_used s (asked want set) c ≡ true → count_under s (asked want set) c ≡ count_under s (asked want set) n / u

some_share : (u m : ℕ) → u * (m / u) ≡ m → 0 < m → 0 < m / u
some_share u m whole some = go (m / u) whole
  where
    go : (v : ℕ) → u * v ≡ m → 0 < v
    go zero is = let none : u * 0 ≡ 0 = omega arith in absurd (omega (arith, is, some, none))
    go (suc v) is = omega arith

pub port_facts : {s : System} {want : Want} {w : WindowFields} {given set : List ℕ} → (picked : Picked s want w given set) → (n : ℕ) → is_endpoint_at s.nodes n ≡ false → is_used s (asked want set) n ≡ true
    → PortFacts s want w picked.of.window.start set n
port_facts {s} {want} {w} {given} {set} picked n port used =
    let part = used_part picked n used in
    let at = from_port s want w picked.of.window.start n part.m part.xs part.k port part.gave in
    let all : count_under s (asked want set) n ≡ part.m = part_count picked n part in
    let can = can_parts s want w picked.of.window.start n part.m (length (filter_map (offer at.k s want w picked.of.window.start part.m at.own.u) (children_of s n))) at.own.u at.own.can in
    let whole : at.own.u * (part.m / at.own.u) ≡ part.m = whole_share at.own.u part.m at.own.count can.divides in
    let each : (c e : ℕ) → parent_of s.nodes c ≡ Some (record { node = n; port = e }) → is_used s (asked want set) c ≡ true → count_under s (asked want set) c ≡ part.m / at.own.u =
    λ c e child there.
    let share = child_part picked n part at c (record { node = n; port = e }) child refl there in
    part_count picked c share.part ∙ share.is in
    let long : length (used_ports s (asked want set) n) * (part.m / at.own.u) ≡ count_under s (asked want set) n =
    even_shares (set_asked picked) n (part.m / at.own.u) port (λ k d within.
    let own = used_child (set_asked picked) n (get_or (used_ports s (asked want set) n) k d) (ports_pass s (asked want set) n k d within) in
    own.count ∙ each own.child (get_or (used_ports s (asked want set) n) k d) own.parent own.used) in
    let some : 0 < count_under s (asked want set) n = some_filtered (is_under s.nodes n) set used in
    let more : 0 < part.m = subst (λ (k : ℕ). 0 < k) all some in
    let v : ℕ = part.m / at.own.u in
    let ports : length (used_ports s (asked want set) n) ≡ at.own.u =
    times_tell v (length (used_ports s (asked want set) n)) at.own.u (some_share at.own.u part.m whole more)
    (mul_comm v (length (used_ports s (asked want set) n)) ∙ long ∙ all ∙ sym whole ∙ mul_comm at.own.u v) in
    record {
      u = at.own.u;
      willing = length (filter_map (offer at.k s want w picked.of.window.start part.m at.own.u) (children_of s n));
      count = at.own.count;
      can = subst (λ (m : ℕ). Can s want w picked.of.window.start n m (length (filter_map (offer at.k s want w picked.of.window.start part.m at.own.u) (children_of s n))) at.own.u) (sym all) can;
      ports = ports;
      shares = λ c e child there. each c e child there ∙ ap (λ (m : ℕ). m / at.own.u) (sym all);
    }

-- each used port leads to as many
pub port_share : {s : System} {want : Want} {w : WindowFields} {given set : List ℕ} → (picked : Picked s want w given set) → (n : ℕ) → (facts : PortFacts s want w picked.of.window.start set n)
    → (e : ℕ) → is_port_used s (asked want set) n e ≡ true → count_at_port s (asked want set) n e ≡ count_under s (asked want set) n / facts.u
port_share {s} {want} {w} {given} {set} picked n facts e used =
    let own = used_child (set_asked picked) n e used in
    own.count ∙ facts.shares own.child e own.parent own.used

-- ---- a used bridge

pub top_count : {s : System} {want : Want} {w : WindowFields} {given set : List ℕ} → (picked : Picked s want w given set) → (b : ℕ) → parent_of s.nodes b ≡ None → is_used s (asked want set) b ≡ true
    → count_under s (asked want set) b ≡ want.ways / w.ways
top_count picked b none used = let share = top_part picked b none used in part_count picked b share.part ∙ share.is

pub ways_whole : {s : System} {want : Want} {w : WindowFields} {given set : List ℕ} → (picked : Picked s want w given set) → want.ways / w.ways * w.ways ≡ want.ways
ways_whole {s} {want} {w} picked =
    let split = div-add-mod' want.ways w.ways in
    let even = picked.of.window.takes.divides in
    omega (arith, split, even)

pub set_evenly : {s : System} {want : Want} {w : WindowFields} {given set : List ℕ} → (picked : Picked s want w given set) → LieEvenly s (asked want set) w
set_evenly {s} {want} {w} {given} {set} picked = record {
  asked = set_asked picked;
  known = ap is_ways (set_long picked) ∙ picked.ways;
  ways = (own_window picked.of).known.ways_known;
  tops = λ b none used. ap (λ (k : ℕ). k * w.ways) (top_count picked b none used) ∙ ways_whole picked ∙ sym (set_long picked);
  counts = λ n port used. let facts = port_facts picked n (port_no_endpoint s.nodes n port) used in ap is_target_count facts.ports ∙ facts.count;
  children = λ c p child used.
      let port = (parent_is_port (known_of picked.of) c p child).1 in
      let facts = port_facts picked p.node (port_no_endpoint s.nodes p.node port) (used_parent (set_asked picked) c p child used) in
      ap (λ (k : ℕ). k * count_under s (asked want set) c) facts.ports
      ∙ ap (λ (k : ℕ). facts.u * k) (facts.shares c p.port child used)
      ∙ whole_share facts.u (count_under s (asked want set) p.node) facts.count facts.can.divides;
}

-- ---- a used endpoint

pub record Itself (s : System) (want : Want) (w : WindowFields) (start n : ℕ) : Type 0 where
  pub opened : is_open s start n ≡ true
  pub ways : option_map_or (endpoint_ways_ok (cap_at s n)) (code_in_table want.ways) false ≡ true
  pub selects : select_ok (cap_at s n) (wanted_code want w) (bits_of want.ways) ≡ true
  pub room : has_room s want n ≡ true

pub itself : {s : System} {want : Want} {w : WindowFields} {given set : List ℕ} → (picked : Picked s want w given set) → (n : ℕ) → is_endpoint_at s.nodes n ≡ true → is_used s (asked want set) n ≡ true
    → Itself s want w picked.of.window.start n
itself {s} {want} {w} {given} {set} picked n endpoint used =
    let part = used_part picked n used in
    go part.k part.m part.xs part.gave
  where
    go : (k m : ℕ) (xs : List ℕ) → gives_within k s want w picked.of.window.start n m ≡ Some xs → Itself s want w picked.of.window.start n
    go zero m xs gave = absurd (none-some xs (sym (gives_none s want w picked.of.window.start n m) ∙ gave))
    go (suc k) m xs gave =
        let own = gives_itself k s want w picked.of.window.start n m xs endpoint gave in
        let a = and_parts (is_open s picked.of.window.start n && option_map_or (endpoint_ways_ok (cap_at s n)) (code_in_table want.ways) false && select_ok (cap_at s n) (wanted_code want w) (bits_of want.ways)) (has_room s want n) own.serves in
        let b = and_parts (is_open s picked.of.window.start n && option_map_or (endpoint_ways_ok (cap_at s n)) (code_in_table want.ways) false) (select_ok (cap_at s n) (wanted_code want w) (bits_of want.ways)) a.0 in
        let c = and_parts (is_open s picked.of.window.start n) (option_map_or (endpoint_ways_ok (cap_at s n)) (code_in_table want.ways) false) b.0 in
        record { opened = c.0; ways = c.1; selects = b.1; room = a.1 }

pub opened : {s : System} {want : Want} {w : WindowFields} {given set : List ℕ} → (picked : Picked s want w given set) → (n : ℕ) → is_used s (asked want set) n ≡ true → is_open s picked.of.window.start n ≡ true
opened {s} {want} {w} {given} {set} picked n used =
    elim (cases_Bool (is_endpoint_at s.nodes n)) [
      | inl endpoint ↦ (itself picked n endpoint used).opened
      | inr port ↦ (port_facts picked n port used).can.opened
    ]
