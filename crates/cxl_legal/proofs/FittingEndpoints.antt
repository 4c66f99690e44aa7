-- A legal plan's request keeps what it has to in its endpoints.
use Rattle.std.proofs.Common.{◌≡◌, ℕ, ◌+◌, ◌*◌, ◌/◌, ◌%◌, ◌≤◌, true, List, get_or, set, Some, sym, ap, ◌∙◌, subst, arith}
use Rattle.std.specs.Prelude.{slice_get, ◌==◌, Contains}
use Rattle.std.specs.List.{list_any}
use Rattle.std.proofs.lemmas.Bool.{and_parts, eq-eqb}
use Rattle.std.proofs.lemmas.Option.{same_Some}
use Rattle.std.proofs.lemmas.List.Elements.{Contains-get_or}
use Rattle.std.proofs.lemmas.List.Folds.{list_any_at}
use Rattle.cxl_enc.specs.Limits.{unit}
use Rattle.cxl_topo.specs.declared.node.Node.{Node}
use Rattle.cxl_topo.specs.Faults.{IsTree}
use Rattle.cxl_topo.specs.Laws.{AreTreeLaws}
use Rattle.cxl_topo.specs.Tree.{is_endpoint_at}
use Rattle.cxl_regs.specs.declared.decoder.Decoder.{Decoder}
use Rattle.cxl_regs.specs.declared.reading.Range.{Range}
use Rattle.cxl_regs.specs.Reading.{decoder_ways}
use Rattle.cxl_span.specs.Spans.{span_start_of}
use Rattle.cxl_span.specs.Allotting.{cursor_of}
use Rattle.cxl_span.specs.Partitions.{lies_in}
use Rattle.cxl_window.specs.Fields.{WindowFields}
use Rattle.cxl_regs.proofs.DecoderRanges.{Has, has_parts}
use Rattle.cxl_model.specs.declared.found.Found.{Found}
use Rattle.cxl_model.specs.declared.found.Place.{Place}
use Rattle.cxl_model.specs.declared.plan.Plan.{Plan}
use Rattle.cxl_model.specs.declared.request.Request.{Request}
use Rattle.cxl_model.specs.System.{System, IsSystem, decoders_at, ram_at, pmem_at}
use Rattle.cxl_model.specs.Ranges.{serves, index_for}
use Rattle.cxl_model.specs.Regions.{region_range, IsRegionIn}
use Rattle.cxl_model.specs.Bytes.{slot_length}
use Rattle.cxl_model.specs.Accepted.{IsAccepted}
use Rattle.cxl_model.specs.Counts.{is_endpoint_of}
use Rattle.cxl_model.specs.Plans.{committed_row, with_rows, IsLegalPlanIn}
use Rattle.cxl_model.proofs.RangeServers.{has_ways}
use Rattle.cxl_model.proofs.RangeRules.{RangesRise, ServesAt, served, bytes_at}
use Rattle.cxl_model.proofs.RangeWindows.{has_window}
use Rattle.cxl_legal.specs.Used.{HasBytePorts, AreEndpoints, request_ways, is_used}
use Rattle.cxl_legal.specs.Endpoints.{IsSize, share_of, HasRoom, FitsEndpoints}
use Rattle.cxl_legal.proofs.FittingBlocks.{kept_of}
use Rattle.cxl_legal.proofs.FittingRows.{Rowed, still_system}
use Rattle.cxl_legal.proofs.FittingUsed.{CountLaw, Planned, ways_are, ways_known, some_requested, endpoint_is, endpoint_own, used_endpoint}
use Rattle.cxl_legal.proofs.FittingPorts.{none_uneven}
use Rattle.cxl_legal.proofs.FittingRoom.{own_row, row_first, first_is_count, none_lacking, used_left, past_cursor, least_span}

-- ---- the laws below

-- what the law of slots says of spans
pub record SlotLaw : Type 0 where
  pub each : (s : System) (w : WindowFields) (found : Found) (m : ℕ) → IsSystem s → IsRegionIn s w found → is_endpoint_of s (region_range found) m ≡ true
      → (slot : ℕ) × (place : Place) × (slice_get found.spans slot ≡ Some place) × (place.endpoint ≡ m)
  pub start : (s : System) (w : WindowFields) (found : Found) (slot : ℕ) (place : Place) → IsSystem s → IsRegionIn s w found → slice_get found.spans slot ≡ Some place
      → (i : ℕ) × (index_for s (region_range found) place.endpoint ≡ Some i) × (place.start ≡ span_start_of (decoders_at s place.endpoint) i)
  pub inside : (s : System) (w : WindowFields) (found : Found) (slot : ℕ) (place : Place) → IsSystem s → IsRegionIn s w found → slice_get found.spans slot ≡ Some place
      → lies_in found.kind (ram_at s place.endpoint) (pmem_at s place.endpoint) place.start (slot_length found) ≡ true

pub record Laws : Type 0 where
  pub tree : (nodes : List Node) → IsTree nodes → AreTreeLaws nodes
  pub rise : RangesRise
  pub count : CountLaw
  pub slots : SlotLaw

-- a legal plan over an accepted image
pub record Legal (s : System) (request : Request) (w : WindowFields) (plan : Plan) : Type 0 where
  pub laws : Laws
  pub system : IsSystem s
  pub ports : HasBytePorts s.nodes
  pub accepted : IsAccepted s
  pub named : AreEndpoints s request
  pub is : IsLegalPlanIn s request w plan

pub planned : {s : System} {request : Request} {w : WindowFields} {plan : Plan} → Legal s request w plan → Planned s request w (region_range plan.found) plan.rows
planned {s} {request} {w} {plan} legal = record {
  rise = legal.laws.rise;
  law = legal.laws.count;
  known = record { tree = legal.system.tree; laws = legal.laws.tree s.nodes legal.system.tree };
  ports = legal.ports;
  named = legal.named;
  distinct = legal.is.distinct;
  rowed = rowed;
  system = still_system s request (region_range plan.found) plan.rows rowed;
  whole = legal.is.region.whole;
  window = legal.is.region.window;
  committed = legal.is.region.committed;
}
  where
    rowed : Rowed s request (region_range plan.found) plan.rows
    rowed = record { system = legal.system; rows_of = legal.is.rows_of; each = legal.is.each_row; new = legal.is.new }

-- ---- a requested endpoint

-- the decoder of an endpoint of the range
pub record Requested (s : System) (request : Request) (w : WindowFields) (plan : Plan) (m : ℕ) : Type 0 where
  pub endpoint : is_endpoint_at s.nodes m ≡ true
  pub used : is_used s request m ≡ true
  pub is : is_endpoint_of (with_rows s plan.rows) (region_range plan.found) m ≡ true
  pub at : ServesAt (with_rows s plan.rows) (region_range plan.found) m
  pub has : Has (region_range plan.found) at.d
  pub ways : decoder_ways at.d ≡ request_ways request

pub requested : {s : System} {request : Request} {w : WindowFields} {plan : Plan} → Legal s request w plan → (m : ℕ) → list_any (λ e. e == m) request.endpoints ≡ true → Requested s request w plan m
requested {s} {request} {w} {plan} legal m any =
    let fits = planned legal in
    let is : is_endpoint_of (with_rows s plan.rows) (region_range plan.found) m ≡ true = endpoint_is fits m ∙ any in
    let parts = and_parts (is_endpoint_at s.nodes m) (serves (with_rows s plan.rows) (region_range plan.found) m) is in
    let at = served (with_rows s plan.rows) (region_range plan.found) m parts.1 in
    let ways = has_ways (with_rows s plan.rows) w (region_range plan.found) m at.i at.d fits.whole fits.window (record { endpoint = parts.0; there = at.there; has = at.has }) in
    record {
      endpoint = parts.0;
      used = used_endpoint fits m parts.0 ∙ any;
      is = is;
      at = at;
      has = has_parts (region_range plan.found) at.d at.has;
      ways = ways.ways ∙ sym (ways_are fits);
    }

pub listed : (xs : List ℕ) (m : ℕ) → Contains xs m → list_any (λ e. e == m) xs ≡ true
listed xs m there = list_any_at (λ e. e == m) xs there.0 m there.1 (eq-eqb (get_or xs there.0 m) m there.2)

-- some endpoint is requested
pub first_requested : {s : System} {request : Request} {w : WindowFields} {plan : Plan} → (legal : Legal s request w plan) → Requested s request w plan (get_or request.endpoints 0 0)
first_requested {s} {request} legal =
    requested legal (get_or request.endpoints 0 0) (listed request.endpoints (get_or request.endpoints 0 0) (Contains-get_or request.endpoints 0 0 (some_requested (planned legal))))

-- ---- size

fits_size : {s : System} {request : Request} {w : WindowFields} {plan : Plan} → Legal s request w plan → IsSize request
fits_size {s} {request} {w} {plan} legal =
    let fits = planned legal in
    let m : ℕ = get_or request.endpoints 0 0 in
    let first = first_requested legal in
    let at = first.at in
    let bytes = bytes_at fits.rise (with_rows s plan.rows) fits.whole.blocks m at.i at.d at.there first.has.committed in
    let size : at.d.size ≡ request.size = first.has.size ∙ legal.is.size in
    let window = has_window (with_rows s plan.rows) (region_range plan.found) w fits.system fits.window in
    let to : plan.found.base + plan.found.size ≤ w.base + w.size = window.to in
    let low = window.usable.low in
    let asked = legal.is.size in
    record {
      some = omega (arith, bytes, size);
      even =
          ap (λ (n : ℕ). request.size % (unit * n)) (sym first.ways)
          ∙ ap (λ (n : ℕ). n % (unit * decoder_ways at.d)) (sym size)
          ∙ (kept_of (with_rows s plan.rows) m at.i at.d fits.system fits.whole.blocks at.there first.has.committed).even first.endpoint;
      low = omega (arith, to, low, asked);
    }

-- ---- room

fits_room : {s : System} {request : Request} {w : WindowFields} {plan : Plan} → Legal s request w plan → (m : ℕ) → Contains request.endpoints m → HasRoom s request m
fits_room {s} {request} {w} {plan} legal m there =
    let fits = planned legal in
    let r : Range = region_range plan.found in
    let own = requested legal m (listed request.endpoints m there) in
    let row = own_row fits m own.used (endpoint_own fits.known m own.endpoint) in
    let slot = legal.laws.slots.each (with_rows s plan.rows) w plan.found m fits.system legal.is.region own.is in
    let place : Place = slot.1 in
    let here : slice_get plan.found.spans slot.0 ≡ Some place = slot.2 in
    let node : place.endpoint ≡ m = slot.3 in
    let start = legal.laws.slots.start (with_rows s plan.rows) w plan.found slot.0 place fits.system legal.is.region here in
    let inside = legal.laws.slots.inside (with_rows s plan.rows) w plan.found slot.0 place fits.system legal.is.region here in
    let index : start.0 ≡ row.row.index = same_Some start.0 row.row.index (sym start.1 ∙ ap (index_for (with_rows s plan.rows) (region_range plan.found)) node ∙ row.number) in
    let begins : place.start ≡ span_start_of (set (decoders_at s m) row.row.index (committed_row row.row)) row.row.index =
    start.2 ∙ ap (λ (n : ℕ). span_start_of (decoders_at (with_rows s plan.rows) n) start.0) node ∙ ap (span_start_of (decoders_at (with_rows s plan.rows) m)) index
    ∙ ap (λ (ds : List Decoder). span_start_of ds row.row.index) row.set_in in
    let after : cursor_of (decoders_at s m) ≤ span_start_of (set (decoders_at s m) row.row.index (committed_row row.row)) row.row.index =
    past_cursor (decoders_at s m) row.row.index (committed_row row.row) (first_is_count (decoders_at s m) row.row.index (row_first row)) row.within in
    let from : cursor_of (decoders_at s m) ≤ place.start = subst (λ (n : ℕ). cursor_of (decoders_at s m) ≤ n) (sym begins) after in
    let long : slot_length plan.found ≡ share_of request = (λ k. legal.is.size k / ways k) in
    let lies : lies_in request.kind (ram_at s m) (pmem_at s m) place.start (share_of request) ≡ true =
    sym (λ k. lies_in (legal.is.kind k) (ram_at s (node k)) (pmem_at s (node k)) place.start (long k)) ∙ inside in
    least_span (decoders_at s m) (ram_at s m) (pmem_at s m) request.kind (share_of request) place.start (used_left fits legal.accepted m own.used) from lies
  where
    ways : plan.found.ways ≡ request_ways request
    ways = legal.is.region.ways ∙ sym (ways_are (planned legal))

-- ---- all of it

pub fits_endpoints : {s : System} {request : Request} {w : WindowFields} {plan : Plan} → Legal s request w plan → FitsEndpoints s request
fits_endpoints {s} {request} {w} {plan} legal = record {
  distinct = legal.is.distinct;
  ways = ways_known (planned legal);
  size = fits_size legal;
  even = none_uneven (planned legal);
  left = none_lacking (planned legal) legal.accepted;
  room = fits_room legal;
}
