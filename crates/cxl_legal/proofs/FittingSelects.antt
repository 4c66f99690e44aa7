-- The ways and codes that are planned for the nodes of a legal plan are those of its decoders.
use Rattle.std.proofs.Common.{◌≡◌, ◌≢◌, ℕ, ◌+◌, ◌*◌, ◌<◌, Bool, true, false, not, ◌&&◌, ◌||◌, if◌then◌else◌, List, length, get_or, Option, Some, None, refl, sym, ap, ◌∙◌, subst, inl, inr, arith, ◌⊎◌}
use Rattle.std.specs.Prelude.{◌==◌, nat_le, sum_by, unwrap_or}
use Rattle.std.specs.Option.{option_map_or}
use Rattle.std.specs.List.{filter_map, cons_option, range_with_len}
use Rattle.std.proofs.Math.Nat.{mul_assoc, mul_left_comm}
use Rattle.std.proofs.lemmas.Bool.{cases_Bool, cases_eq, and_parts, and_from, or_cases, or_left, or_right, eqb-true, ne_eqb, agree_below_at, leb-true, false≢true, not_from_false, cond-true, cond-false, or_cases as or_true}
use Rattle.std.proofs.lemmas.List.Elements.{filter_passes}
use Rattle.std.proofs.lemmas.List.Sums.{sum_by-cons}
use Rattle.cxl_enc.specs.Codes.{ways_of, bits_of, code_in_table}
use Rattle.cxl_enc.proofs.Tests.{asked, asked_or}
use Rattle.cxl_enc.proofs.Ways.{some_ways}
use Rattle.cxl_enc.proofs.Numbers.{factor_one}
use Rattle.cxl_topo.specs.declared.node.Parent.{Parent}
use Rattle.cxl_topo.specs.Tree.{forwards_at, is_endpoint_at, ports_above}
use Rattle.cxl_regs.specs.declared.decoder.Decoder.{Decoder}
use Rattle.cxl_regs.specs.declared.reading.Range.{Range}
use Rattle.cxl_regs.specs.Reading.{decoder_ways, select_bits, has_range}
use Rattle.cxl_regs.specs.Rules.{select_ok, endpoint_ways_ok}
use Rattle.cxl_regs.specs.Words.{has_bit}
use Rattle.cxl_window.specs.Fields.{WindowFields}
use Rattle.cxl_topo.proofs.Trees.{up_tree, ports_none, ports_some, forwards_no_endpoint}
use Rattle.cxl_regs.proofs.DecoderRanges.{has_parts, same_range, decoder_ways_known}
use Rattle.cxl_model.specs.declared.plan.Row.{Row}
use Rattle.cxl_model.specs.declared.plan.Plan.{Plan}
use Rattle.cxl_model.specs.declared.request.Request.{Request}
use Rattle.cxl_model.specs.System.{System, decoder_at}
use Rattle.cxl_model.specs.Ranges.{decoder_for, window_for, ports_for, ways_above, bits_above, range_code}
use Rattle.cxl_model.specs.Rules.{keeps_ways}
use Rattle.cxl_model.specs.Accepted.{IsWhole}
use Rattle.cxl_model.specs.Regions.{region_range}
use Rattle.cxl_model.specs.Plans.{with_rows, plan_code}
use Rattle.cxl_model.proofs.RangeServers.{has_ways, endpoint_test, rule_twelve}
use Rattle.cxl_model.proofs.RangeRules.{ServesAt}
use Rattle.cxl_model.proofs.RangeCounts.{ways_below, forwards_none}
use Rattle.cxl_legal.specs.Used.{request_ways, is_used, count_under, is_port_used, used_ports, planned_ways, planned_bits_above, planned_code}
use Rattle.cxl_legal.specs.Endpoints.{cap_at}
use Rattle.cxl_legal.specs.Windows.{can_select, can_have_ways}
use Rattle.cxl_legal.proofs.FittingBlocks.{Kept, kept_of, gran_of, endpoint_ways}
use Rattle.cxl_legal.proofs.UsedNodes.{used_parent}
use Rattle.cxl_legal.proofs.UsedPorts.{forwarding_ports}
use Rattle.cxl_legal.proofs.FittingUsed.{Planned, ways_are, even_at, used_endpoint}
use Rattle.cxl_legal.proofs.FittingPorts.{own_serves, used_child, own_ports}
use Rattle.cxl_legal.proofs.FittingEndpoints.{Legal, planned, requested}

-- ---- ways

-- the ways planned for a used node that does not forward are those of its decoder
pub own_ways : {s : System} {request : Request} {w : WindowFields} {r : Range} {rows : List Row} → Planned s request w r rows → (n : ℕ) → (at : ServesAt (with_rows s rows) r n) → forwards_at s.nodes n ≡ false
    → planned_ways s request n ≡ decoder_ways at.d
own_ways {s} {request} {w} {r} {rows} plan n at own =
    elim (cases_Bool (is_endpoint_at s.nodes n)) [
      | inl endpoint ↦
          let ways = has_ways (with_rows s rows) w r n at.i at.d plan.whole plan.window (record { endpoint = endpoint; there = at.there; has = at.has }) in
          cond-true (is_endpoint_at s.nodes n) (request_ways request) (length (used_ports s request n)) endpoint ∙ ways_are plan ∙ sym ways.ways
      | inr port ↦ cond-false (is_endpoint_at s.nodes n) (request_ways request) (length (used_ports s request n)) port ∙ own_ports plan n at port own
    ]

pub forwarding_ways : {s : System} {request : Request} {w : WindowFields} {r : Range} {rows : List Row} → Planned s request w r rows → (n : ℕ) → is_used s request n ≡ true → forwards_at s.nodes n ≡ true
    → planned_ways s request n ≡ 1
forwarding_ways {s} {request} plan n used forwards =
    cond-false (is_endpoint_at s.nodes n) (request_ways request) (length (used_ports s request n)) (forwards_no_endpoint plan.known n forwards) ∙ forwarding_ports s request plan.known plan.ports plan.named n forwards used

pub select_is : (d : Decoder) → bits_of (decoder_ways d) ≡ select_bits d.ways
select_is d = go (ways_of d.ways)
  where
    go : (o : Option ℕ) → bits_of (unwrap_or o 1) ≡ option_map_or bits_of o 0
    go None = refl
    go (Some n) = refl

-- ---- the ports above

-- the bits of the ways of a used node
own_bits : {s : System} {request : Request} {w : WindowFields} {r : Range} {rows : List Row} → Planned s request w r rows → (n : ℕ) → is_used s request n ≡ true → (ds : List Decoder)
    → sum_by (λ d. select_bits d.ways) (cons_option (decoder_for (with_rows s rows) r n) ds) ≡ bits_of (planned_ways s request n) + sum_by (λ d. select_bits d.ways) ds
own_bits {s} {request} {w} {r} {rows} plan n used ds =
    elim (cases_Bool (forwards_at s.nodes n)) [
      | inl forwards ↦
          let none : decoder_for (with_rows s rows) r n ≡ None = forwards_none (with_rows s rows) r n plan.whole forwards in
          let ways : bits_of (planned_ways s request n) ≡ 0 = ap bits_of (forwarding_ways plan n used forwards) in
          ap (λ (o : Option Decoder). sum_by (λ d. select_bits d.ways) (cons_option o ds)) none ∙ omega (arith, ways)
      | inr own ↦
          let at = own_serves plan n used own in
          let ways : bits_of (planned_ways s request n) ≡ select_bits at.d.ways = ap bits_of (own_ways plan n at own) ∙ select_is at.d in
          ap (λ (o : Option Decoder). sum_by (λ d. select_bits d.ways) (cons_option o ds)) at.first
          ∙ sum_by-cons (λ (d : Decoder). select_bits d.ways) at.d ds ∙ ap (λ (k : ℕ). k + sum_by (λ d. select_bits d.ways) ds) (sym ways)
    ]

-- the bits planned above a used node are those of the decoders above
pub bits_are : {s : System} {request : Request} {w : WindowFields} {r : Range} {rows : List Row} → Planned s request w r rows → (n : ℕ) → is_used s request n ≡ true
    → planned_bits_above s request n ≡ bits_above (with_rows s rows) r n
bits_are {s} {request} {w} {r} {rows} plan =
    up_tree plan.known (λ n. is_used s request n ≡ true → planned_bits_above s request n ≡ bits_above (with_rows s rows) r n)
    (λ n none used.
    ap (sum_by (λ (parent : Parent). bits_of (planned_ways s request parent.node))) (ports_none plan.known n none)
    ∙ sym (ap (λ (ps : List Parent). sum_by (λ d. select_bits d.ways) (filter_map (λ parent. decoder_for (with_rows s rows) r parent.node) ps)) (ports_none plan.known n none)))
    (λ n p some rest used.
    let up = used_parent s request plan.known n p some used in
    ap (sum_by (λ (parent : Parent). bits_of (planned_ways s request parent.node))) (ports_some plan.known n p some)
    ∙ sum_by-cons (λ (parent : Parent). bits_of (planned_ways s request parent.node)) p (ports_above s.nodes p.node)
    ∙ ap (λ (k : ℕ). bits_of (planned_ways s request p.node) + k) (rest up)
    ∙ sym (own_bits plan p.node up (ports_for (with_rows s rows) r p.node))
    ∙ sym (ap (λ (ps : List Parent). sum_by (λ d. select_bits d.ways) (filter_map (λ parent. decoder_for (with_rows s rows) r parent.node) ps)) (ports_some plan.known n p some)))

-- ---- codes

regroup : (c p a w : ℕ) → c * (p * a) * w ≡ p * (c * (a * w))
regroup c p a w = mul_assoc c (p * a) w ∙ ap (λ (k : ℕ). c * k) (mul_assoc p a w) ∙ mul_left_comm c p (a * w)

-- in a range of one way each decoder has one
one_way : {s : System} {request : Request} {w : WindowFields} {r : Range} {rows : List Row} → Planned s request w r rows → (n : ℕ) → (at : ServesAt (with_rows s rows) r n) → forwards_at s.nodes n ≡ false
    → request_ways request ≡ 1 → decoder_ways at.d ≡ 1
one_way {s} {request} {w} {r} {rows} plan n at own single =
    elim (cases_Bool (is_endpoint_at s.nodes n)) [
      | inl endpoint ↦
          let ways = has_ways (with_rows s rows) w r n at.i at.d plan.whole plan.window (record { endpoint = endpoint; there = at.there; has = at.has }) in
          ways.ways ∙ sym (ways_are plan) ∙ single
      | inr port ↦
          let e : ℕ = get_or (used_ports s request n) 0 0 in
          let some : 0 < length (used_ports s request n) = subst (λ (k : ℕ). 0 < k) (sym (own_ports plan n at port own)) (some_ways (decoder_ways at.d) (decoder_ways_known at.d)) in
          let child = used_child plan n e (filter_passes (is_port_used s request n) (range_with_len 0 256) 0 0 some) in
          let above : ways_above (with_rows s rows) r child.node ≡ decoder_ways at.d * ways_above (with_rows s rows) r n = ways_below (with_rows s rows) r plan.known child.node (record { node = n; port = e }) at.d child.parent at.first in
          factor_one (decoder_ways at.d) (count_under s request child.node * (ways_above (with_rows s rows) r n * w.ways))
          (sym (regroup (count_under s request child.node) (decoder_ways at.d) (ways_above (with_rows s rows) r n) w.ways)
          ∙ ap (λ (k : ℕ). count_under s request child.node * k * w.ways) (sym above)
          ∙ even_at plan child.node child.lands ∙ single)
    ]

-- K12: a port's code
abbrev port_test : System → WindowFields → ℕ → Decoder → Range → Bool
port_test s w n d r = (decoder_ways d == 1) || (d.gran == range_code s w r + bits_of w.ways + bits_above s r n)

abbrev test_by : System → ℕ → ℕ → Decoder → Range → Option WindowFields → Bool → Bool
test_by s n i d r o endpoint = option_map_or (λ w. if endpoint then endpoint_test s w n i d r else port_test s w n d r) o true

port_code : (s : System) (w : WindowFields) (r : Range) (n i : ℕ) (d : Decoder) → IsWhole s r → window_for s r ≡ Some w → is_endpoint_at s.nodes n ≡ false → decoder_at s n i ≡ Some d → has_range r d ≡ true
    → (decoder_ways d ≡ 1) ⊎ (d.gran ≡ range_code s w r + bits_of w.ways + bits_above s r n)
port_code s w r n i d whole window port there has =
    let own = has_parts r d has in
    let broken = rule_twelve s n i d there (whole.range 12 n i d (omega arith) there has) in
    let keeps : keeps_ways s n i d ≡ true = asked d.committed (keeps_ways s n i d) broken own.committed in
    let test : port_test s w n d r ≡ true =
    sym (ap (λ (q : Range). test_by s n i d q (window_for s q) (is_endpoint_at s.nodes n)) (same_range r d own)
    ∙ ap (λ (o : Option WindowFields). test_by s n i d r o (is_endpoint_at s.nodes n)) window
    ∙ ap (test_by s n i d r (Some w)) port)
    ∙ keeps in
    elim (or_true (decoder_ways d == 1) (d.gran == range_code s w r + bits_of w.ways + bits_above s r n) test) [
      | inl one ↦ inl (eqb-true (decoder_ways d) 1 one)
      | inr same ↦ inr (eqb-true d.gran (range_code s w r + bits_of w.ways + bits_above s r n) same)
    ]

-- the region's code is the range's, where it has more than one way
code_is : {s : System} {request : Request} {w : WindowFields} {plan : Plan} → Legal s request w plan → request_ways request ≢ 1
    → plan_code request w (request_ways request) ≡ range_code (with_rows s plan.rows) w (region_range plan.found)
code_is {s} {request} {w} {plan} legal more =
    let ways : plan.found.ways ≡ request_ways request = legal.is.region.ways ∙ sym (ways_are (planned legal)) in
    let other : (plan.found.ways == 1) ≡ false = ne_eqb plan.found.ways 1 (λ e. more (sym ways ∙ e)) in
    ap (plan_code request w) (sym ways) ∙ sym legal.is.code ∙ legal.is.region.code
    ∙ cond-false (plan.found.ways == 1) 0 (range_code (with_rows s plan.rows) w (region_range plan.found)) other

-- the code planned for a used node that does not forward is that of its decoder, where that has more than one way
own_code : {s : System} {request : Request} {w : WindowFields} {plan : Plan} → Legal s request w plan → (n : ℕ) → is_used s request n ≡ true → forwards_at s.nodes n ≡ false
    → (at : ServesAt (with_rows s plan.rows) (region_range plan.found) n) → decoder_ways at.d ≢ 1 → planned_code s request w n ≡ at.d.gran
own_code {s} {request} {w} {plan} legal n used own at more =
    cond-false (planned_ways s request n == 1) 0 (if is_endpoint_at s.nodes n then code else code + bits_of w.ways + planned_bits_above s request n)
    (ne_eqb (planned_ways s request n) 1 (λ e. more (sym (own_ways fits n at own) ∙ e)))
    ∙ elim (cases_Bool (is_endpoint_at s.nodes n)) as (λ x. (if is_endpoint_at s.nodes n then code else code + bits_of w.ways + planned_bits_above s request n) ≡ at.d.gran) [
      | inl endpoint ↦
          cond-true (is_endpoint_at s.nodes n) code (code + bits_of w.ways + planned_bits_above s request n) endpoint
          ∙ code_is legal many
          ∙ sym (elim (has_ways t w r n at.i at.d fits.whole fits.window (record { endpoint = endpoint; there = at.there; has = at.has })).code [
            | inl one ↦ absurd (more one)
            | inr same ↦ same
          ])
      | inr port ↦
          cond-false (is_endpoint_at s.nodes n) code (code + bits_of w.ways + planned_bits_above s request n) port
          ∙ ap (λ (k : ℕ). k + bits_of w.ways + planned_bits_above s request n) (code_is legal many)
          ∙ ap (λ (k : ℕ). range_code t w r + bits_of w.ways + k) (bits_are fits n used)
          ∙ sym (elim (port_code t w r n at.i at.d fits.whole fits.window port at.there at.has) [
            | inl one ↦ absurd (more one)
            | inr same ↦ same
          ])
    ]
  where
    r : Range
    r = region_range plan.found

    t : System
    t = with_rows s plan.rows

    fits : Planned s request w (region_range plan.found) plan.rows
    fits = planned legal

    code : ℕ
    code = plan_code request w (request_ways request)

    many : request_ways request ≢ 1
    many single = more (one_way fits n at own single)

-- ---- what a node can select, and the ways that it can have

-- a node with one way selects on no bit
selects_none : (cap ways code : ℕ) → ways ≡ 1 → (nat_le (if ways == 1 then 0 else code) 6 && select_ok cap (if ways == 1 then 0 else code) (bits_of ways)) ≡ true
selects_none cap ways code one = λ k. nat_le (if one k == 1 then 0 else code) 6 && select_ok cap (if one k == 1 then 0 else code) (bits_of (one k))

own_selects : {s : System} {request : Request} {w : WindowFields} {plan : Plan} → Legal s request w plan → (n : ℕ) → is_used s request n ≡ true → forwards_at s.nodes n ≡ false
    → (nat_le (planned_code s request w n) 6 && select_ok (cap_at s n) (planned_code s request w n) (bits_of (planned_ways s request n))) ≡ true
own_selects {s} {request} {w} {plan} legal n used own =
    let fits = planned legal in
    let at = own_serves fits n used own in
    let ways : planned_ways s request n ≡ decoder_ways at.d = own_ways fits n at own in
    elim (cases_eq (decoder_ways at.d) 1) [
      | inl one ↦
          selects_none (cap_at s n) (planned_ways s request n)
          (if is_endpoint_at s.nodes n then plan_code request w (request_ways request) else plan_code request w (request_ways request) + bits_of w.ways + planned_bits_above s request n)
          (ways ∙ one)
      | inr more ↦
          let code : planned_code s request w n ≡ at.d.gran = own_code legal n used own at more in
          let bits : bits_of (planned_ways s request n) ≡ select_bits at.d.ways = ap bits_of ways ∙ select_is at.d in
          let kept : Kept (with_rows s plan.rows) n at.d = kept_of (with_rows s plan.rows) n at.i at.d fits.system fits.whole.blocks at.there (has_parts (region_range plan.found) at.d at.has).committed in
          (λ k. nat_le (code k) 6 && select_ok (cap_at s n) (code k) (bits k))
          ∙ and_from (nat_le at.d.gran 6) (select_ok (cap_at s n) at.d.gran (select_bits at.d.ways)) (gran_of (with_rows s plan.rows) n at.d kept) kept.select
    ]

pub all_select : {s : System} {request : Request} {w : WindowFields} {plan : Plan} → Legal s request w plan → (n : ℕ) → can_select s request w n ≡ true
all_select {s} {request} {w} {plan} legal n =
    elim (cases_Bool (is_used s request n)) [
      | inl used ↦ or_right (not (is_used s request n)) selecting (at (cases_Bool (forwards_at s.nodes n)) used)
      | inr unused ↦ or_left (not (is_used s request n)) selecting (not_from_false (is_used s request n) unused)
    ]
  where
    selecting : Bool
    selecting = nat_le (planned_code s request w n) 6 && select_ok (cap_at s n) (planned_code s request w n) (bits_of (planned_ways s request n))

    at : (forwards_at s.nodes n ≡ true) ⊎ (forwards_at s.nodes n ≡ false) → is_used s request n ≡ true
        → (nat_le (planned_code s request w n) 6 && select_ok (cap_at s n) (planned_code s request w n) (bits_of (planned_ways s request n))) ≡ true
    at (inl forwards) used =
        selects_none (cap_at s n) (planned_ways s request n)
        (if is_endpoint_at s.nodes n then plan_code request w (request_ways request) else plan_code request w (request_ways request) + bits_of w.ways + planned_bits_above s request n)
        (forwarding_ways (planned legal) n used forwards)
    at (inr own) used = own_selects legal n used own

-- a code that an endpoint can have is that of its ways
abbrev code_test : Bool → Bool → ℕ → Bool
code_test twelve eleven code =
    not (nat_le code 3 || ((code == 4) && twelve) || (nat_le 8 code && nat_le code 10 && eleven)) || option_map_or (λ c. c == code) (code_in_table (unwrap_or (ways_of code) 1)) false

code_tested : (twelve eleven : Bool) (code : ℕ) → code < 11 → code_test twelve eleven code ≡ true
code_tested true true code low = agree_below_at (code_test true true) (λ n. true) 11 code refl low
code_tested true false code low = agree_below_at (code_test true false) (λ n. true) 11 code refl low
code_tested false true code low = agree_below_at (code_test false true) (λ n. true) 11 code refl low
code_tested false false code low = agree_below_at (code_test false false) (λ n. true) 11 code refl low

low_code : (twelve eleven : Bool) (code : ℕ) → (nat_le code 3 || ((code == 4) && twelve) || (nat_le 8 code && nat_le code 10 && eleven)) ≡ true → code < 11
low_code twelve eleven code ok =
    elim (or_cases (nat_le code 3 || ((code == 4) && twelve)) (nat_le 8 code && nat_le code 10 && eleven) ok) [
      | inl few ↦
          elim (or_cases (nat_le code 3) ((code == 4) && twelve) few) [
            | inl low ↦ let below = leb-true code 3 low in omega (arith, below)
            | inr four ↦ let is = eqb-true code 4 (and_parts (code == 4) twelve four).0 in omega (arith, is)
          ]
      | inr thirds ↦
          let below = leb-true code 10 (and_parts (nat_le 8 code) (nat_le code 10) (and_parts (nat_le 8 code && nat_le code 10) eleven thirds).0).1 in
          omega (arith, below)
    ]

own_code_is : (o : Option ℕ) (code : ℕ) → option_map_or (λ c. c == code) o false ≡ true → o ≡ Some code
own_code_is None code is = absurd (false≢true is)
own_code_is (Some c) code is = ap Some (eqb-true c code is)

code_back : (cap : ℕ) (d : Decoder) → endpoint_ways_ok cap d.ways ≡ true → code_in_table (decoder_ways d) ≡ Some d.ways
code_back cap d ok =
    own_code_is (code_in_table (decoder_ways d)) d.ways
    (asked_or (nat_le d.ways 3 || ((d.ways == 4) && has_bit cap 12) || (nat_le 8 d.ways && nat_le d.ways 10 && has_bit cap 11))
    (option_map_or (λ c. c == d.ways) (code_in_table (decoder_ways d)) false)
    (code_tested (has_bit cap 12) (has_bit cap 11) d.ways (low_code (has_bit cap 12) (has_bit cap 11) d.ways ok)) ok)

pub all_have_ways : {s : System} {request : Request} {w : WindowFields} {plan : Plan} → Legal s request w plan → (n : ℕ) → can_have_ways s request n ≡ true
all_have_ways {s} {request} {w} {plan} legal n =
    elim (cases_Bool (is_endpoint_at s.nodes n && is_used s request n)) [
      | inl both ↦
          let parts = and_parts (is_endpoint_at s.nodes n) (is_used s request n) both in
          or_right (not (is_endpoint_at s.nodes n && is_used s request n)) (option_map_or (endpoint_ways_ok (cap_at s n)) (code_in_table (request_ways request)) false) (having parts.0 parts.1)
      | inr other ↦
          or_left (not (is_endpoint_at s.nodes n && is_used s request n)) (option_map_or (endpoint_ways_ok (cap_at s n)) (code_in_table (request_ways request)) false)
          (not_from_false (is_endpoint_at s.nodes n && is_used s request n) other)
    ]
  where
    having : is_endpoint_at s.nodes n ≡ true → is_used s request n ≡ true → option_map_or (endpoint_ways_ok (cap_at s n)) (code_in_table (request_ways request)) false ≡ true
    having endpoint used =
        let own = requested legal n (sym (used_endpoint (planned legal) n endpoint) ∙ used) in
        let fits = planned legal in
        let ok = endpoint_ways (with_rows s plan.rows) n own.at.d (kept_of (with_rows s plan.rows) n own.at.i own.at.d fits.system fits.whole.blocks own.at.there own.has.committed) endpoint in
        ap (λ (k : ℕ). option_map_or (endpoint_ways_ok (cap_at s n)) (code_in_table k) false) (sym own.ways)
        ∙ ap (λ (o : Option ℕ). option_map_or (endpoint_ways_ok (cap_at s n)) o false) (code_back (cap_at s n) own.at.d ok)
        ∙ ok
