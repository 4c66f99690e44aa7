-- The used ports of the nodes of a legal plan, and how evenly the requested endpoints lie under them.
use Rattle.std.proofs.Common.{◌≡◌, ℕ, zero, suc, ◌*◌, ◌<◌, true, false, not, ◌&&◌, List, length, get_or, map, Option, Some, None, refl, sym, ap, ◌∙◌, subst, inl, inr, arith}
use Rattle.std.specs.Prelude.{slice_get, ◌==◌, nat_le, All}
use Rattle.std.specs.Option.{option_map_or}
use Rattle.std.specs.List.{list_any, list_all, cons_option, filter_map, range_with_len}
use Rattle.std.proofs.Math.Nat.{mul_comm, mul_assoc}
use Rattle.std.proofs.lemmas.Bool.{cases_Bool, and_parts, and_from, or_right, or_left, eqb-true, eq-eqb, false≢true, not_from_false}
use Rattle.std.proofs.lemmas.List.{get_or-map}
use Rattle.std.proofs.lemmas.List.FromFn.{length-range_with_len, length-map-range_with_len}
use Rattle.std.proofs.lemmas.List.Folds.{Any-from_list_any, list_any_at}
use Rattle.std.proofs.lemmas.List.Elements.{filter_passes}
use Rattle.std.proofs.lemmas.List.Sums.{AllPass-from_list_all, list_all-from_AllPass}
use Rattle.cxl_enc.specs.Caps.{targets_of, is_target_count}
use Rattle.cxl_enc.specs.Limits.{placeholder_cap}
use Rattle.cxl_enc.proofs.Tests.{same_test, not_lacking}
use Rattle.cxl_enc.proofs.Numbers.{times_tell}
use Rattle.cxl_enc.proofs.Lists.{find_passes}
use Rattle.cxl_topo.specs.declared.node.Node.{Node}
use Rattle.cxl_topo.specs.declared.node.Parent.{Parent}
use Rattle.cxl_topo.specs.Tree.{forwards_at, is_bridge_at, is_endpoint_at, is_port_at, parent_of, child_of}
use Rattle.cxl_regs.specs.declared.decoder.Decoder.{Decoder}
use Rattle.cxl_regs.specs.declared.reading.Range.{Range}
use Rattle.cxl_regs.specs.Reading.{decoder_ways, entries_of, entry_at}
use Rattle.cxl_window.specs.Fields.{WindowFields}
use Rattle.cxl_topo.proofs.Trees.{KnownTree, ports_some, leaves_at, port_no_endpoint}
use Rattle.cxl_regs.proofs.DecoderRanges.{has_parts}
use Rattle.cxl_model.specs.declared.plan.Row.{Row}
use Rattle.cxl_model.specs.declared.request.Request.{Request}
use Rattle.cxl_model.specs.System.{System}
use Rattle.cxl_model.specs.Ranges.{serves, decoder_for, ports_for, product, ways_above}
use Rattle.cxl_model.specs.Rules.{lands_on, leads_on}
use Rattle.cxl_model.specs.Counts.{is_under}
use Rattle.cxl_model.specs.Plans.{committed_row, with_rows}
use Rattle.cxl_model.proofs.Sums.{one}
use Rattle.cxl_model.proofs.Under.{under_child}
use Rattle.cxl_model.proofs.RangeRules.{ServesAt, leads, reached, listed_by, all_listed}
use Rattle.cxl_model.proofs.RangeCounts.{Child, child_at, no_ways_above}
use Rattle.cxl_legal.specs.Used.{request_ways, is_used, count_under, is_port_used, used_ports, count_at_port}
use Rattle.cxl_legal.specs.Endpoints.{cap_at, has_even_ports, has_even_children, first_bridge, has_bridge_share, is_uneven}
use Rattle.cxl_legal.proofs.FittingBlocks.{kept_of, port_ways}
use Rattle.cxl_legal.proofs.FittingRows.{by_row}
use Rattle.cxl_legal.proofs.UsedPorts.{forwarding_ports}
use Rattle.cxl_legal.proofs.FittingUsed.{Planned, listed_length, endpoint_is, even_at, used_lands, lands_used, some_requested}

-- ---- the decoder of a used node

-- a used node that does not forward serves the range by its row's decoder
pub own_serves : {s : System} {request : Request} {w : WindowFields} {r : Range} {rows : List Row} → Planned s request w r rows → (n : ℕ) → is_used s request n ≡ true → forwards_at s.nodes n ≡ false
    → ServesAt (with_rows s rows) r n
own_serves {s} {request} {w} {r} {rows} plan n used own =
    let at = by_row s request r rows plan.rowed n (and_from (is_used s request n) (not (forwards_at s.nodes n)) used (not_from_false (forwards_at s.nodes n) own)) in
    record { i = at.row.index; d = committed_row at.row; there = at.at; has = at.has; first = at.first; number = at.number }

-- the child at a used port
pub used_child : {s : System} {request : Request} {w : WindowFields} {r : Range} {rows : List Row} → Planned s request w r rows → (n e : ℕ) → is_port_used s request n e ≡ true
    → Child (with_rows s rows) r n e
used_child {s} {request} {w} {r} {rows} plan n e used = go (child_of s.nodes n e) refl used
  where
    go : (o : Option ℕ) → child_of s.nodes n e ≡ o → option_map_or (is_used s request) o false ≡ true → Child (with_rows s rows) r n e
    go None at is = absurd (false≢true is)
    go (Some c) at is = record { node = c; stands = at; parent = (plan.known.laws.children n e c).0 at; lands = used_lands plan c is }

pub child_used : {s : System} {request : Request} {w : WindowFields} {r : Range} {rows : List Row} → Planned s request w r rows → (n e c : ℕ) → child_of s.nodes n e ≡ Some c → lands_on (with_rows s rows) r c ≡ true
    → is_port_used s request n e ≡ true
child_used {s} {request} plan n e c stands lands = ap (λ (o : Option ℕ). option_map_or (is_used s request) o false) stands ∙ lands_used plan c lands

-- ---- the used ports of a node that does not forward

-- they are the entries of its decoder
pub port_used_is : {s : System} {request : Request} {w : WindowFields} {r : Range} {rows : List Row} → Planned s request w r rows → (n : ℕ) → (at : ServesAt (with_rows s rows) r n) → is_endpoint_at s.nodes n ≡ false
    → forwards_at s.nodes n ≡ false → (e : ℕ) → is_port_used s request n e ≡ list_any (λ x. x == e) (entries_of at.d)
port_used_is {s} {request} {w} {r} {rows} plan n at port own e = same_test (is_port_used s request n e) (list_any (λ x. x == e) (entries_of at.d)) to from
  where
    t : System
    t = with_rows s rows

    to : is_port_used s request n e ≡ true → list_any (λ x. x == e) (entries_of at.d) ≡ true
    to used =
        let child = used_child plan n e used in
        let some = Any-from_list_any (is_under s.nodes child.node) request.endpoints (lands_used plan child.node child.lands) in
        let m : ℕ = some.1 in
        let there : list_any (λ x. x == m) request.endpoints ≡ true = list_any_at (λ x. x == m) request.endpoints some.0 m some.2 (eq-eqb (get_or request.endpoints some.0 m) m some.3) in
        let serving : serves (with_rows s rows) r m ≡ true = (and_parts (is_endpoint_at s.nodes m) (serves (with_rows s rows) r m) (endpoint_is plan m ∙ there)).1 in
        let leaves : leaves_at s.nodes n e m ≡ true = sym (under_child plan.known n e child.node child.parent m) ∙ some.4 in
        let listed = all_listed plan.rise (with_rows s rows) r plan.known plan.whole n e own m (reached (with_rows s rows) r plan.whole m serving).1 leaves in
        (listed_by plan.rise (with_rows s rows) r plan.whole.blocks (record { node = n; port = e }) listed).entry at.i at.d at.there at.has

    from : list_any (λ x. x == e) (entries_of at.d) ≡ true → is_port_used s request n e ≡ true
    from any =
        let some = Any-from_list_any (λ x. x == e) (entries_of at.d) any in
        let all : list_all (leads_on (with_rows s rows) r n) (entries_of at.d) ≡ true = ((leads (with_rows s rows) r plan.whole n at.i at.d at.there at.has).ways port).1 in
        let same : get_or (entries_of at.d) some.0 some.1 ≡ e = some.3 ∙ eqb-true some.1 e some.4 in
        let leading : leads_on (with_rows s rows) r n e ≡ true = subst (λ (x : ℕ). leads_on (with_rows s rows) r n x ≡ true) same (AllPass-from_list_all (leads_on (with_rows s rows) r n) (entries_of at.d) all some.0 some.1 some.2) in
        let child = child_at (with_rows s rows) r n e plan.known leading in
        child_used plan n e child.node child.stands child.lands

entry_byte : (d : Decoder) → All (λ x. x < 256) (entries_of d)
entry_byte d = λ k e within.
    let inside : k < decoder_ways d = subst (λ (n : ℕ). k < n) (length-map-range_with_len (entry_at d) 0 (decoder_ways d)) within in
    let low : k < length (range_with_len 0 (decoder_ways d)) = subst (λ (n : ℕ). k < n) (sym (length-range_with_len 0 (decoder_ways d))) inside in
    subst (λ (x : ℕ). x < 256) (sym (get_or-map (entry_at d) (range_with_len 0 (decoder_ways d)) k 0 e low)) (byte (get_or (range_with_len 0 (decoder_ways d)) k 0))
  where
    byte : (i : ℕ) → entry_at d i < 256
    byte i = omega arith

-- so there are as many as its decoder has ways
pub own_ports : {s : System} {request : Request} {w : WindowFields} {r : Range} {rows : List Row} → Planned s request w r rows → (n : ℕ) → (at : ServesAt (with_rows s rows) r n) → is_endpoint_at s.nodes n ≡ false
    → forwards_at s.nodes n ≡ false → length (used_ports s request n) ≡ decoder_ways at.d
own_ports {s} {request} {w} {r} {rows} plan n at port own =
    listed_length 256 (is_port_used s request n) (entries_of at.d) ((leads (with_rows s rows) r plan.whole n at.i at.d at.there at.has).ways port).0 (entry_byte at.d) (port_used_is plan n at port own)
    ∙ length-map-range_with_len (entry_at at.d) 0 (decoder_ways at.d)

-- ---- evenness

same_factor : (a b k w n : ℕ) → a * k * w ≡ n → b * k * w ≡ n → 0 < n → a ≡ b
same_factor a b k w n one other some =
    let first : a * (k * w) ≡ n = sym (mul_assoc a k w) ∙ one in
    let second : b * (k * w) ≡ n = sym (mul_assoc b k w) ∙ other in
    times_tell (k * w) a b (positive a (k * w) n first some) (mul_comm (k * w) a ∙ first ∙ sym (mul_comm (k * w) b ∙ second))
  where
    positive : (a p n : ℕ) → a * p ≡ n → 0 < n → 0 < p
    positive a zero n is more = absurd (omega (arith, is, more))
    positive a (suc p) n is more = omega arith

-- the ways above a child are told by its parent
ways_child : (s : System) (r : Range) → KnownTree s.nodes → (c n e : ℕ) → parent_of s.nodes c ≡ Some (record { node = n; port = e })
    → ways_above s r c ≡ product (map decoder_ways (cons_option (decoder_for s r n) (ports_for s r n)))
ways_child s r known c n e child =
    ap (λ (ps : List Parent). product (map decoder_ways (filter_map (λ parent. decoder_for s r parent.node) ps))) (ports_some known c (record { node = n; port = e }) child)

-- each used port leads to as many requested endpoints
pub even_ports : {s : System} {request : Request} {w : WindowFields} {r : Range} {rows : List Row} → Planned s request w r rows → (n e f : ℕ) → is_port_used s request n e ≡ true → is_port_used s request n f ≡ true
    → count_at_port s request n e ≡ count_at_port s request n f
even_ports {s} {request} {w} {r} {rows} plan n e f one other =
    let c = used_child plan n e one in
    let d = used_child plan n f other in
    let t : System = with_rows s rows in
    let above : ways_above (with_rows s rows) r d.node ≡ ways_above (with_rows s rows) r c.node =
    ways_child (with_rows s rows) r plan.known d.node n f d.parent ∙ sym (ways_child (with_rows s rows) r plan.known c.node n e c.parent) in
    let first = even_at plan c.node c.lands in
    let second : count_under s request d.node * ways_above (with_rows s rows) r c.node * w.ways ≡ request_ways request =
    ap (λ (k : ℕ). count_under s request d.node * k * w.ways) (sym above) ∙ even_at plan d.node d.lands in
    ap (λ (o : Option ℕ). option_map_or (count_under s request) o 0) c.stands
    ∙ same_factor (count_under s request c.node) (count_under s request d.node) (ways_above (with_rows s rows) r c.node) w.ways (request_ways request) first second (some_requested plan)
    ∙ sym (ap (λ (o : Option ℕ). option_map_or (count_under s request) o 0) d.stands)

-- as many lie under each used bridge
pub even_bridges : {s : System} {request : Request} {w : WindowFields} {r : Range} {rows : List Row} → Planned s request w r rows → (n m : ℕ) → is_bridge_at s.nodes n ≡ true → is_used s request n ≡ true
    → is_bridge_at s.nodes m ≡ true → is_used s request m ≡ true → count_under s request n ≡ count_under s request m
even_bridges {s} {request} {w} {r} {rows} plan n m bridge used other also =
    let above : ways_above (with_rows s rows) r m ≡ ways_above (with_rows s rows) r n =
    no_ways_above (with_rows s rows) r m plan.known (plan.known.tree.bridges m other) ∙ sym (no_ways_above (with_rows s rows) r n plan.known (plan.known.tree.bridges n bridge)) in
    let first = even_at plan n (used_lands plan n used) in
    let second : count_under s request m * ways_above (with_rows s rows) r n * w.ways ≡ request_ways request =
    ap (λ (k : ℕ). count_under s request m * k * w.ways) (sym above) ∙ even_at plan m (used_lands plan m also) in
    same_factor (count_under s request n) (count_under s request m) (ways_above (with_rows s rows) r n) w.ways (request_ways request) first second (some_requested plan)

-- ---- no node is uneven

pub placeholder : {nodes : List Node} → KnownTree nodes → (n : ℕ) → forwards_at nodes n ≡ true → option_map_or (λ node. node.cap) (slice_get nodes n) 0 ≡ placeholder_cap
placeholder {nodes} known n forwards = go (slice_get nodes n) refl forwards
  where
    go : (o : Option Node) → slice_get nodes n ≡ o → option_map_or (λ node. node.forwards) o false ≡ true → option_map_or (λ node. node.cap) o 0 ≡ placeholder_cap
    go None at is = absurd (false≢true is)
    go (Some node) at is = (known.tree.placeholders n node at is).0

ports_even : {s : System} {request : Request} {w : WindowFields} {r : Range} {rows : List Row} → Planned s request w r rows → (n : ℕ) → is_port_at s.nodes n ≡ true → is_used s request n ≡ true
    → has_even_ports s request n ≡ true
ports_even {s} {request} {w} {r} {rows} plan n port used =
    elim (cases_Bool (forwards_at s.nodes n)) [
      | inl forwards ↦
          let long : length (used_ports s request n) ≡ 1 = forwarding_ports s request plan.known plan.ports plan.named n forwards used in
          let cap : cap_at s n ≡ placeholder_cap = placeholder plan.known n forwards in
          λ k. is_target_count (long k) && nat_le (long k) (targets_of (cap k))
      | inr own ↦
          let at = own_serves plan n used own in
          let ended = port_no_endpoint s.nodes n port in
          let long : length (used_ports s request n) ≡ decoder_ways at.d = own_ports plan n at ended own in
          let kept = kept_of (with_rows s rows) n at.i at.d plan.system plan.whole.blocks at.there (has_parts r at.d at.has).committed in
          let ways = port_ways (with_rows s rows) n at.d kept ended in
          ap (λ (k : ℕ). is_target_count k && nat_le k (targets_of (cap_at s n))) long
          ∙ and_from (is_target_count (decoder_ways at.d)) (nat_le (decoder_ways at.d) (targets_of (cap_at s n))) ways.count ways.few
    ]

children_even : {s : System} {request : Request} {w : WindowFields} {r : Range} {rows : List Row} → Planned s request w r rows → (n : ℕ) → has_even_children s request n ≡ true
children_even {s} {request} {w} {r} {rows} plan n =
    list_all-from_AllPass (λ e. list_all (λ f. count_at_port s request n e == count_at_port s request n f) (used_ports s request n)) (used_ports s request n) (λ k d within.
    let e : ℕ = get_or (used_ports s request n) k d in
    list_all-from_AllPass (λ f. count_at_port s request n e == count_at_port s request n f) (used_ports s request n) (λ j c inside.
    let f : ℕ = get_or (used_ports s request n) j c in
    eq-eqb (count_at_port s request n e) (count_at_port s request n f) (even_ports plan n e f (used k d within) (used j c inside))))
  where
    used : All (λ e. is_port_used s request n e ≡ true) (used_ports s request n)
    used = filter_passes (is_port_used s request n) (range_with_len 0 256)

bridge_share : {s : System} {request : Request} {w : WindowFields} {r : Range} {rows : List Row} → Planned s request w r rows → (n : ℕ) → is_used s request n ≡ true → has_bridge_share s request n ≡ true
bridge_share {s} {request} {w} {r} {rows} plan n used =
    elim (cases_Bool (is_bridge_at s.nodes n)) [
      | inl bridge ↦
          or_right (not (is_bridge_at s.nodes n)) (option_map_or (λ first. count_under s request n == count_under s request first) (first_bridge s request) true)
          (go bridge (first_bridge s request) refl)
      | inr other ↦
          or_left (not (is_bridge_at s.nodes n)) (option_map_or (λ first. count_under s request n == count_under s request first) (first_bridge s request) true)
          (not_from_false (is_bridge_at s.nodes n) other)
    ]
  where
    go : is_bridge_at s.nodes n ≡ true → (o : Option ℕ) → first_bridge s request ≡ o → option_map_or (λ first. count_under s request n == count_under s request first) o true ≡ true
    go bridge None at = refl
    go bridge (Some m) at =
        let passes = find_passes (λ k. is_bridge_at s.nodes k && is_used s request k) (range_with_len 0 (length s.nodes)) m at in
        let parts = and_parts (is_bridge_at s.nodes m) (is_used s request m) passes in
        eq-eqb (count_under s request n) (count_under s request m) (even_bridges plan n m bridge used parts.0 parts.1)

pub none_uneven : {s : System} {request : Request} {w : WindowFields} {r : Range} {rows : List Row} → Planned s request w r rows → (n : ℕ) → is_uneven s request n ≡ false
none_uneven {s} {request} plan n =
    not_lacking (is_port_at s.nodes n) (is_used s request n) (has_even_ports s request n) (has_even_children s request n) (has_bridge_share s request n)
    (λ port used. (ports_even plan n port used, children_even plan n, bridge_share plan n used))
