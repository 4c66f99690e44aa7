-- Ways, kind and code of the new range with the stated rows committed, and that each stated decoder has them.
use Rattle.std.proofs.Common.{◌≡◌, ◌≢◌, ℕ, ◌+◌, ◌*◌, ◌<◌, Bool, true, false, not, ◌&&◌, ◌||◌, if◌then◌else◌, List, length, get_or, map, Option, Some, None, unwrap_or, sum_by, refl, sym, ap, ◌∙◌, inl, inr, eq-eqb, arith}
use Rattle.std.specs.Prelude.{◌==◌, nat_lt, Contains}
use Rattle.std.specs.Option.{option_map_or, option_and_then}
use Rattle.std.specs.List.{filter_map, cons_option, range_with_len}
use Rattle.std.proofs.Math.Nat.{mul_assoc}
use Rattle.std.proofs.lemmas.Bool.{cases_Bool, cases_eq, and_parts, and_from, or_left, or_right, ne_eqb, cond-true, cond-false}
use Rattle.std.proofs.lemmas.List.Elements.{Contains-get_or}
use Rattle.std.proofs.lemmas.List.Sums.{sum_by-cons}
use Rattle.cxl_enc.specs.declared.caps.MemKind.{MemKind}
use Rattle.cxl_enc.specs.declared.caps.MemKind.TheVariants.{Ram, Pmem}
use Rattle.cxl_enc.specs.Codes.{bits_of}
use Rattle.cxl_enc.proofs.Ways.{some_ways}
use Rattle.cxl_enc.proofs.Numbers.{factor_one, is_number}
use Rattle.cxl_enc.proofs.Lists.{find_passes}
use Rattle.cxl_topo.specs.declared.node.Parent.{Parent}
use Rattle.cxl_topo.specs.Tree.{forwards_at, is_endpoint_at, ports_above}
use Rattle.cxl_regs.specs.declared.decoder.Decoder.{Decoder}
use Rattle.cxl_regs.specs.declared.reading.Range.{Range}
use Rattle.cxl_regs.specs.Reading.{committed_count, decoder_ways, select_bits}
use Rattle.cxl_window.specs.Fields.{WindowFields}
use Rattle.cxl_topo.proofs.Trees.{up_tree, ports_none, ports_some, forwards_no_endpoint}
use Rattle.cxl_model.specs.declared.request.Request.{Request}
use Rattle.cxl_model.specs.System.{System, decoders_at}
use Rattle.cxl_model.specs.Ranges.{serves, decoder_for, index_for, ports_for, product, ways_above, bits_above, span_kind, same_kind, first_endpoint, first_decoder, range_ways, range_kind, range_code}
use Rattle.cxl_model.specs.Rules.{keeps_ways, keeps_endpoint_ways, keeps_port_code}
use Rattle.cxl_model.specs.Plans.{committed_row, plan_code}
use Rattle.cxl_model.proofs.Under.{under_self}
use Rattle.cxl_legal.specs.Used.{request_ways, is_used, count_under, used_ports, planned_ways, planned_ways_above, planned_bits_above, planned_code}
use Rattle.cxl_legal.specs.Stated.{has_row, stated_row, planned_range}
use Rattle.cxl_legal.proofs.FittingUsed.{endpoint_own}
use Rattle.cxl_legal.proofs.RowsUsed.{used_kind}
use Rattle.cxl_legal.proofs.RowsDecoders.{own_code}
use Rattle.cxl_legal.proofs.RowsOthers.{found_some}
use Rattle.cxl_legal.proofs.UsedNodes.{used_by, used_parent, used_child}
use Rattle.cxl_legal.proofs.StatedImages.{stated_image, Stated}
use Rattle.cxl_legal.proofs.UsedPorts.{port_ways, forwarding_ports}
use Rattle.cxl_legal.proofs.StatedPorts.{ways_stated}
use Rattle.cxl_legal.proofs.StatedCounts.{requested_within, count_child, count_down, endpoint_ways}
use Rattle.cxl_legal.proofs.StatedLands.{gets_row, row_parts, row_decoder, no_row_decoder, row_index, serves_row, used_in}

-- ---- the ports above a used node

pub record AboveIs (s : System) (request : Request) (w : WindowFields) (base n : ℕ) : Type 0 where
  pub ways : ways_above (stated_image s request w base) (planned_range request base) n ≡ planned_ways_above s request n
  pub bits : bits_above (stated_image s request w base) (planned_range request base) n ≡ planned_bits_above s request n

-- the ways and bits above a child, by what its parent's decoder adds
record StepIs (s : System) (request : Request) (w : WindowFields) (base : ℕ) (p : Parent) : Type 0 where
  ways : product (map decoder_ways (cons_option (decoder_for (stated_image s request w base) (planned_range request base) p.node) (ports_for (stated_image s request w base) (planned_range request base) p.node)))
      ≡ planned_ways s request p.node * ways_above (stated_image s request w base) (planned_range request base) p.node
  bits : sum_by (λ d. select_bits d.ways) (cons_option (decoder_for (stated_image s request w base) (planned_range request base) p.node) (ports_for (stated_image s request w base) (planned_range request base) p.node))
      ≡ bits_of (planned_ways s request p.node) + bits_above (stated_image s request w base) (planned_range request base) p.node

step_is : {s : System} {request : Request} {w : WindowFields} {base : ℕ} → Stated s request w base → (p : Parent) → is_used s request p.node ≡ true → StepIs s request w base p
step_is {s} {request} {w} {base} c p used =
    elim (cases_Bool (forwards_at s.nodes p.node)) [
      | inl forwards ↦
          let none = no_row_decoder c p.node (no_row forwards) in
          let single : planned_ways s request p.node ≡ 1 = port_ways s request p.node (forwards_no_endpoint c.known p.node forwards) ∙ forwarding_ports s request c.known c.fits.ports c.fits.named p.node forwards used in
          record {
            ways = ap (λ (o : Option Decoder). product (map decoder_ways (cons_option o above))) none ∙ sym (ap (λ (k : ℕ). k * product (map decoder_ways above)) single ∙ omega arith);
            bits = ap (λ (o : Option Decoder). sum_by (λ d. select_bits d.ways) (cons_option o above)) none ∙ sym (ap (λ (k : ℕ). bits_of k + sum_by (λ (d : Decoder). select_bits d.ways) above) single ∙ omega arith);
          }
      | inr own ↦
          let some = row_decoder c p.node (gets_row s request p.node used own) in
          let code = own_code c.lower c.spans s request w base c.fits p.node used in
          record {
            ways = ap (λ (o : Option Decoder). product (map decoder_ways (cons_option o above))) some ∙ ap (λ (k : ℕ). k * product (map decoder_ways above)) code.ways;
            bits = ap (λ (o : Option Decoder). sum_by (λ d. select_bits d.ways) (cons_option o above)) some
                ∙ sum_by-cons (λ (d : Decoder). select_bits d.ways) (committed_row (stated_row s request w base p.node)) above
                ∙ ap (λ (k : ℕ). k + sum_by (λ (d : Decoder). select_bits d.ways) above) code.bits;
          }
    ]
  where
    above : List Decoder
    above = ports_for (stated_image s request w base) (planned_range request base) p.node

    no_row : forwards_at s.nodes p.node ≡ true → has_row s request p.node ≡ false
    no_row forwards = ap (λ b. is_used s request p.node && not b) forwards ∙ ap (λ b. b && false) used

pub above_is : {s : System} {request : Request} {w : WindowFields} {base : ℕ} → Stated s request w base → (n : ℕ) → is_used s request n ≡ true → AboveIs s request w base n
above_is {s} {request} {w} {base} c =
    up_tree c.known (λ n. is_used s request n ≡ true → AboveIs s request w base n)
    (λ n none used.
    let ports = ports_none c.known n none in
    record {
      ways = ap (λ (ps : List Parent). product (map decoder_ways (filter_map (λ parent. decoder_for (stated_image s request w base) (planned_range request base) parent.node) ps))) ports
          ∙ sym (ap (λ (ps : List Parent). product (map (λ parent. planned_ways s request parent.node) ps)) ports);
      bits = ap (λ (ps : List Parent). sum_by (λ (d : Decoder). select_bits d.ways) (filter_map (λ parent. decoder_for (stated_image s request w base) (planned_range request base) parent.node) ps)) ports
          ∙ sym (ap (λ (ps : List Parent). sum_by (λ parent. bits_of (planned_ways s request parent.node)) ps) ports);
    })
    (λ n p some rest used.
    let ports = ports_some c.known n p some in
    let own = used_parent s request c.known n p some used in
    let higher = rest own in
    let step = step_is c p own in
    record {
      ways = ap (λ (ps : List Parent). product (map decoder_ways (filter_map (λ parent. decoder_for (stated_image s request w base) (planned_range request base) parent.node) ps))) ports
          ∙ step.ways ∙ ap (λ (k : ℕ). planned_ways s request p.node * k) higher.ways
          ∙ sym (ap (λ (ps : List Parent). product (map (λ parent. planned_ways s request parent.node) ps)) ports);
      bits = ap (λ (ps : List Parent). sum_by (λ (d : Decoder). select_bits d.ways) (filter_map (λ parent. decoder_for (stated_image s request w base) (planned_range request base) parent.node) ps)) ports
          ∙ step.bits ∙ ap (λ (k : ℕ). bits_of (planned_ways s request p.node) + k) higher.bits
          ∙ sym (ap (λ (ps : List Parent). sum_by (λ parent. bits_of (planned_ways s request parent.node)) ps) ports
          ∙ sum_by-cons (λ (parent : Parent). bits_of (planned_ways s request parent.node)) p (ports_above s.nodes p.node));
    })

-- ---- the first endpoint

pub some_requested : {s : System} {request : Request} {w : WindowFields} {base : ℕ} → Stated s request w base → Contains request.endpoints (get_or request.endpoints 0 0)
some_requested {s} {request} c = Contains-get_or request.endpoints 0 0 (some_ways (request_ways request) c.fits.endpoints.ways)

-- a requested endpoint is used, and has a row
pub record IsRequested (s : System) (request : Request) (m : ℕ) : Type 0 where
  pub endpoint : is_endpoint_at s.nodes m ≡ true
  pub used : is_used s request m ≡ true
  pub row : has_row s request m ≡ true
  pub within : m < length s.nodes

pub is_requested : {s : System} {request : Request} {w : WindowFields} {base : ℕ} → Stated s request w base → (m : ℕ) → Contains request.endpoints m → IsRequested s request m
is_requested {s} {request} c m there =
    let is = requested_within c m there in
    let used = used_by s request m m there (under_self c.known m) in
    record { endpoint = is.0; used = used; row = gets_row s request m used (endpoint_own c.known m is.0); within = is.1 }

pub endpoint_stated : {s : System} {request : Request} {w : WindowFields} {base : ℕ} → Stated s request w base → (m : ℕ) → is_endpoint_at s.nodes m ≡ true → is_used s request m ≡ true
    → decoder_ways (committed_row (stated_row s request w base m)) ≡ request_ways request
endpoint_stated {s} {request} c m endpoint used = ways_stated c m used ∙ cond-true (is_endpoint_at s.nodes m) (request_ways request) (length (used_ports s request m)) endpoint

pub record First (s : System) (request : Request) (w : WindowFields) (base : ℕ) : Type 0 where
  pub m : ℕ
  pub at : first_endpoint (stated_image s request w base) (planned_range request base) ≡ Some m
  pub endpoint : is_endpoint_at s.nodes m ≡ true
  pub row : has_row s request m ≡ true
  pub used : is_used s request m ≡ true
  pub decoder : first_decoder (stated_image s request w base) (planned_range request base) ≡ Some (committed_row (stated_row s request w base m))
  pub ways : decoder_ways (committed_row (stated_row s request w base m)) ≡ request_ways request

pub first_is : {s : System} {request : Request} {w : WindowFields} {base : ℕ} → Stated s request w base → First s request w base
first_is {s} {request} {w} {base} c = go (first_endpoint (stated_image s request w base) (planned_range request base)) refl
  where
    go : (o : Option ℕ) → first_endpoint (stated_image s request w base) (planned_range request base) ≡ o → First s request w base
    go None none =
        let m : ℕ = get_or request.endpoints 0 0 in
        let is = is_requested c m (some_requested c) in
        absurd (found_some (λ n. is_endpoint_at s.nodes n && serves (stated_image s request w base) (planned_range request base) n) (range_with_len 0 (length s.nodes))
        (is_number (λ n. is_endpoint_at s.nodes n && serves (stated_image s request w base) (planned_range request base) n) (length s.nodes) m is.within
        (and_from (is_endpoint_at s.nodes m) (serves (stated_image s request w base) (planned_range request base) m) is.endpoint (serves_row c m ∙ is.row))) none)
    go (Some m) at =
        let parts = and_parts (is_endpoint_at s.nodes m) (serves (stated_image s request w base) (planned_range request base) m)
        (find_passes (λ n. is_endpoint_at s.nodes n && serves (stated_image s request w base) (planned_range request base) n) (range_with_len 0 (length s.nodes)) m at) in
        let row : has_row s request m ≡ true = sym (serves_row c m) ∙ parts.1 in
        let used = (row_parts s request m row).0 in
        record {
          m = m;
          at = at;
          endpoint = parts.0;
          row = row;
          used = used;
          decoder = ap (option_and_then (decoder_for (stated_image s request w base) (planned_range request base))) at ∙ row_decoder c m row;
          ways = endpoint_stated c m parts.0 used;
        }

-- ---- ways, kind and code

pub ways_is : {s : System} {request : Request} {w : WindowFields} {base : ℕ} → Stated s request w base → range_ways (stated_image s request w base) (planned_range request base) ≡ request_ways request
ways_is c = let first = first_is c in ap (λ (o : Option Decoder). option_map_or decoder_ways o 1) first.decoder ∙ first.ways

pub kind_is : {s : System} {request : Request} {w : WindowFields} {base : ℕ} → Stated s request w base → range_kind (stated_image s request w base) (planned_range request base) ≡ request.kind
kind_is {s} {request} {w} {base} c =
    let first = first_is c in
    ap (λ (o : Option ℕ). option_map_or (λ n. option_map_or (span_kind (stated_image s request w base) n) (index_for (stated_image s request w base) (planned_range request base) n) Ram) o Ram) first.at
    ∙ ap (λ (o : Option ℕ). option_map_or (span_kind (stated_image s request w base) first.m) o Ram) (row_index c first.m first.row)
    ∙ c.kinds first.m first.endpoint first.used

-- an endpoint's code, where there is more than one way
endpoint_code : (s : System) (request : Request) (w : WindowFields) (m : ℕ) → is_endpoint_at s.nodes m ≡ true → request_ways request ≢ 1 → planned_code s request w m ≡ plan_code request w (request_ways request)
endpoint_code s request w m endpoint more =
    ap (λ b. if b == 1 then 0 else (if is_endpoint_at s.nodes m then plan_code request w (request_ways request) else plan_code request w (request_ways request) + bits_of w.ways + planned_bits_above s request m))
    (cond-true (is_endpoint_at s.nodes m) (request_ways request) (length (used_ports s request m)) endpoint)
    ∙ cond-false (request_ways request == 1) 0 (if is_endpoint_at s.nodes m then plan_code request w (request_ways request) else plan_code request w (request_ways request) + bits_of w.ways + planned_bits_above s request m)
    (ne_eqb (request_ways request) 1 more)
    ∙ cond-true (is_endpoint_at s.nodes m) (plan_code request w (request_ways request)) (plan_code request w (request_ways request) + bits_of w.ways + planned_bits_above s request m) endpoint

pub code_is : {s : System} {request : Request} {w : WindowFields} {base : ℕ} → Stated s request w base → request_ways request ≢ 1
    → range_code (stated_image s request w base) w (planned_range request base) ≡ plan_code request w (request_ways request)
code_is {s} {request} {w} {base} c more =
    elim (cases_Bool (nat_lt 1 w.ways)) [
      | inl many ↦ cond-true (nat_lt 1 w.ways) w.gran single many ∙ sym (unfolded ∙ cond-true (nat_lt 1 w.ways) w.gran (unwrap_or request.gran w.gran) many)
      | inr few ↦
          cond-false (nat_lt 1 w.ways) w.gran single few
          ∙ ap (λ (o : Option Decoder). option_map_or (λ d. if decoder_ways d == 1 then 0 else d.gran) o 0) first.decoder
          ∙ cond-false (decoder_ways own == 1) 0 own.gran (ap (λ (k : ℕ). k == 1) first.ways ∙ ne_eqb (request_ways request) 1 more)
          ∙ endpoint_code s request w first.m first.endpoint more
    ]
  where
    first : First s request w base
    first = first_is c

    own : Decoder
    own = committed_row (stated_row s request w base first.m)

    single : ℕ
    single = option_map_or (λ d. if decoder_ways d == 1 then 0 else d.gran) (first_decoder (stated_image s request w base) (planned_range request base)) 0

    unfolded : plan_code request w (request_ways request) ≡ (if nat_lt 1 w.ways then w.gran else unwrap_or request.gran w.gran)
    unfolded = cond-false (request_ways request == 1) 0 (if nat_lt 1 w.ways then w.gran else unwrap_or request.gran w.gran) (ne_eqb (request_ways request) 1 more)

-- ---- K12

same_kinds : (kind : MemKind) → same_kind kind kind ≡ true
same_kinds Ram = refl
same_kinds Pmem = refl

endpoint_kept : {s : System} {request : Request} {w : WindowFields} {base : ℕ} → Stated s request w base → (m : ℕ) → is_endpoint_at s.nodes m ≡ true → is_used s request m ≡ true → Contains request.endpoints m
    → keeps_endpoint_ways (stated_image s request w base) w m (committed_count (decoders_at s m)) (committed_row (stated_row s request w base m)) ≡ true
endpoint_kept {s} {request} {w} {base} c m endpoint used there =
    and_from (tests.0 && tests.1 && tests.2) tests.3 (and_from (tests.0 && tests.1) tests.2 (and_from tests.0 tests.1
    (eq-eqb (decoder_ways own) (w.ways * ways_above t r m) (ways ∙ endpoint_ways c m there ∙ sym (ap (λ (k : ℕ). w.ways * k) (above_is c m used).ways)))
    (eq-eqb (decoder_ways own) (range_ways t r) (ways ∙ sym (ways_is c))))
    (ap (λ (kind : MemKind). same_kind kind (range_kind t r)) (c.kinds m endpoint used) ∙ ap (same_kind request.kind) (kind_is c) ∙ same_kinds request.kind))
    (elim (cases_eq (request_ways request) 1) [
      | inl single ↦ or_left (decoder_ways own == 1) (own.gran == range_code t w r) (eq-eqb (decoder_ways own) 1 (ways ∙ single))
      | inr more ↦ or_right (decoder_ways own == 1) (own.gran == range_code t w r) (eq-eqb own.gran (range_code t w r) (endpoint_code s request w m endpoint more ∙ sym (code_is c more)))
    ])
  where
    t : System
    t = stated_image s request w base

    r : Range
    r = planned_range request base

    own : Decoder
    own = committed_row (stated_row s request w base m)

    tests : Bool × Bool × Bool × Bool
    tests = (decoder_ways own == w.ways * ways_above t r m, decoder_ways own == range_ways t r, same_kind (span_kind t m (committed_count (decoders_at s m))) (range_kind t r), (decoder_ways own == 1) || (own.gran == range_code t w r))

    ways : decoder_ways own ≡ request_ways request
    ways = endpoint_stated c m endpoint used

-- where a port has more than one way, so has the request
more_ways : {s : System} {request : Request} {w : WindowFields} {base : ℕ} → Stated s request w base → (n : ℕ) → is_endpoint_at s.nodes n ≡ false → is_used s request n ≡ true → planned_ways s request n ≢ 1 → request_ways request ≢ 1
more_ways {s} {request} {w} {base} c n port used more single =
    let next = used_child s request c.known c.fits.named n used port in
    let own : count_under s request n ≡ length (used_ports s request n) * count_under s request next.child = count_child c next.child (record { node = n; port = next.port }) next.parent next.used in
    let down = count_down c n (used_in c n used) used in
    more (port_ways s request n port
    ∙ factor_one (length (used_ports s request n)) (count_under s request next.child * (planned_ways_above s request n * w.ways))
    (sym (mul_assoc (length (used_ports s request n)) (count_under s request next.child) (planned_ways_above s request n * w.ways)) ∙ ap (λ (k : ℕ). k * (planned_ways_above s request n * w.ways)) (sym own) ∙ down ∙ single))

port_kept : {s : System} {request : Request} {w : WindowFields} {base : ℕ} → Stated s request w base → (n : ℕ) → is_endpoint_at s.nodes n ≡ false → is_used s request n ≡ true
    → keeps_port_code (stated_image s request w base) w n (committed_row (stated_row s request w base n)) ≡ true
port_kept {s} {request} {w} {base} c n port used =
    elim (cases_eq (planned_ways s request n) 1) [
      | inl single ↦ or_left (decoder_ways own == 1) (own.gran == code) (eq-eqb (decoder_ways own) 1 (ways_stated c n used ∙ single))
      | inr more ↦
          or_right (decoder_ways own == 1) (own.gran == code)
          (eq-eqb own.gran code
          (cond-false (planned_ways s request n == 1) 0 (if is_endpoint_at s.nodes n then plan_code request w (request_ways request) else planned) (ne_eqb (planned_ways s request n) 1 more)
          ∙ cond-false (is_endpoint_at s.nodes n) (plan_code request w (request_ways request)) planned port
          ∙ sym (ap (λ (k : ℕ). k + bits_of w.ways + bits_above (stated_image s request w base) (planned_range request base) n) (code_is c (more_ways c n port used more))
          ∙ ap (λ (k : ℕ). plan_code request w (request_ways request) + bits_of w.ways + k) (above_is c n used).bits)))
    ]
  where
    own : Decoder
    own = committed_row (stated_row s request w base n)

    code : ℕ
    code = range_code (stated_image s request w base) w (planned_range request base) + bits_of w.ways + bits_above (stated_image s request w base) (planned_range request base) n

    planned : ℕ
    planned = plan_code request w (request_ways request) + bits_of w.ways + planned_bits_above s request n

-- K12 of the stated decoder
pub ways_kept : {s : System} {request : Request} {w : WindowFields} {base : ℕ} → Stated s request w base → (n : ℕ) → has_row s request n ≡ true
    → keeps_ways (stated_image s request w base) n (committed_count (decoders_at s n)) (committed_row (stated_row s request w base n)) ≡ true
ways_kept {s} {request} {w} {base} c n row =
    ap (λ (o : Option WindowFields). option_map_or (λ v. if is_endpoint_at s.nodes n then keeps_endpoint_ways (stated_image s request w base) v n (committed_count (decoders_at s n)) own else keeps_port_code (stated_image s request w base) v n own) o true) c.window
    ∙ elim (used_kind s request n c.known c.fits.named used) as (λ x. (if is_endpoint_at s.nodes n then keeps_endpoint_ways (stated_image s request w base) w n (committed_count (decoders_at s n)) own else keeps_port_code (stated_image s request w base) w n own) ≡ true) [
      | inl endpoint ↦
          cond-true (is_endpoint_at s.nodes n) (keeps_endpoint_ways (stated_image s request w base) w n (committed_count (decoders_at s n)) own) (keeps_port_code (stated_image s request w base) w n own) endpoint.1
          ∙ endpoint_kept c n endpoint.1 used endpoint.0
      | inr port ↦
          cond-false (is_endpoint_at s.nodes n) (keeps_endpoint_ways (stated_image s request w base) w n (committed_count (decoders_at s n)) own) (keeps_port_code (stated_image s request w base) w n own) port.1
          ∙ port_kept c n port.1 used
    ]
  where
    own : Decoder
    own = committed_row (stated_row s request w base n)

    used : is_used s request n ≡ true
    used = (row_parts s request n row).0
