-- A slot leads to one place, and different slots lead to different endpoints.
use Rattle.std.proofs.Common.{◌≡◌, ℕ, ◌/◌, ◌%◌, true, false, List, get_or, Some, refl, sym, ap, ◌∙◌, subst}
use Rattle.std.specs.Prelude.{◌==◌}
use Rattle.std.proofs.lemmas.Bool.{and_from, or_right, eq-eqb, false≢true}
use Rattle.std.proofs.lemmas.Option.{slice_get-get_or}
use Rattle.std.proofs.lemmas.List.Quantifiers.{position-Some}
use Rattle.std.proofs.lemmas.Map.Keys.{any_passes_from_place}
use Rattle.cxl_enc.proofs.Options.{some_and}
use Rattle.cxl_topo.specs.declared.node.Node.{Node}
use Rattle.cxl_topo.specs.Tree.{forwards_at, is_port_at, is_endpoint_at, child_of, least_child_of}
use Rattle.cxl_regs.specs.declared.decoder.Decoder.{Decoder}
use Rattle.cxl_regs.specs.Registers.{reset_decoder}
use Rattle.cxl_regs.specs.declared.reading.Range.{Range}
use Rattle.cxl_regs.specs.Reading.{decoder_ways, entry_at, has_range}
use Rattle.cxl_span.specs.Spans.{span_start_of}
use Rattle.cxl_window.specs.Fields.{WindowFields}
use Rattle.cxl_topo.proofs.Trees.{KnownTree, is_above, leaves_at, leaves_above, only_child, forwards_no_endpoint, port_no_endpoint}
use Rattle.cxl_model.specs.declared.found.Place.{Place}
use Rattle.cxl_model.specs.System.{System, decoders_at}
use Rattle.cxl_model.specs.Ranges.{serves, decoder_for, index_for}
use Rattle.cxl_model.specs.Regions.{slots_an_entry, LeadsSlot, LeadsTo, past_forwarding, past_port, at_endpoint}
use Rattle.cxl_model.specs.Counts.{is_under, is_endpoint_of}
use Rattle.cxl_model.proofs.Outcomes.{one_value}
use Rattle.cxl_model.proofs.RangeRules.{leads}
use Rattle.cxl_model.proofs.Under.{under_is, under_child, under_only, under_endpoint}

-- ---- one move of a slot

-- the entry of a port's decoder to which a slot goes
abbrev pub entry_for : System → WindowFields → Range → ℕ → ℕ → Decoder → ℕ
entry_for s w r slot n d = slot / slots_an_entry s w r n % decoder_ways d

-- what it is that a slot goes on from a port
pub record Goes (s : System) (w : WindowFields) (r : Range) (slot n child : ℕ) : Type 0 where
  pub d : Decoder
  pub first : decoder_for s r n ≡ Some d
  pub stands : child_of s.nodes n (entry_at d (entry_for s w r slot n d)) ≡ Some child

pub goes : (s : System) (w : WindowFields) (r : Range) (slot n child : ℕ) → LeadsSlot s w r slot n child → Goes s w r slot n child
goes s w r slot n child way =
    let own = some_and (decoder_for s r n) (λ d. child_of s.nodes n (entry_at d (slot / slots_an_entry s w r n % decoder_ways d)) ≡ Some child) way in
    record { d = own.0; first = own.1; stands = own.2 }

-- ---- the place

-- an endpoint of the range, and where its span starts
pub record IsPlace (s : System) (r : Range) (place : Place) : Type 0 where
  pub endpoint : is_endpoint_of s r place.endpoint ≡ true
  pub i : ℕ
  pub number : index_for s r place.endpoint ≡ Some i
  pub start : place.start ≡ span_start_of (decoders_at s place.endpoint) i

pub is_place : (s : System) (w : WindowFields) (r : Range) (slot n : ℕ) (place : Place) → LeadsTo s w r slot n place → IsPlace s r place
is_place s w r slot n place (past_forwarding _ child _ forwards first leads) = is_place s w r slot child place leads
is_place s w r slot n place (past_port _ child _ own port way leads) = is_place s w r slot child place leads
is_place s w r slot n place (at_endpoint _ endpoint start) =
    let at = some_and (index_for s r place.endpoint) (λ (i : ℕ). place.start ≡ span_start_of (decoders_at s place.endpoint) i) start in
    let found = position-Some (has_range r) (decoders_at s place.endpoint) at.0 reset_decoder at.1 in
    let is : serves s r place.endpoint ≡ true =
    any_passes_from_place (has_range r) (decoders_at s place.endpoint) at.0 (get_or (decoders_at s place.endpoint) at.0 reset_decoder) (slice_get-get_or (decoders_at s place.endpoint) at.0 reset_decoder found.0) found.1 in
    record { endpoint = and_from (is_endpoint_at s.nodes place.endpoint) (serves s r place.endpoint) endpoint is; i = at.0; number = at.1; start = at.2 }

-- ---- the place lies under the node

under_first : {nodes : List Node} → KnownTree nodes → (n c m : ℕ) → forwards_at nodes n ≡ true → least_child_of nodes n ≡ Some c → is_under nodes c m ≡ true → is_under nodes n m ≡ true
under_first {nodes} known n c m forwards first under =
    let own = only_child known n c forwards first in
    let above : is_above nodes n m ≡ true =
    sym (ap (λ k. is_above nodes k m) own.2) ∙ sym (under_only known c own.0 own.1 (ap (forwards_at nodes) own.2 ∙ forwards) m) ∙ under in
    under_is known n m ∙ or_right (m == n) (is_above nodes n m) above

pub leaves_for : {nodes : List Node} → KnownTree nodes → (n e c m : ℕ) → child_of nodes n e ≡ Some c → is_under nodes c m ≡ true → leaves_at nodes n e m ≡ true
leaves_for known n e c m stands under = sym (under_child known n e c ((known.laws.children n e c).0 stands) m) ∙ under

pub leads_under : (s : System) (w : WindowFields) (r : Range) (slot n : ℕ) (place : Place) → KnownTree s.nodes → LeadsTo s w r slot n place → is_under s.nodes n place.endpoint ≡ true
leads_under s w r slot n place known (past_forwarding _ child _ forwards first leads) =
    under_first known n child place.endpoint forwards first (leads_under s w r slot child place known leads)
leads_under s w r slot n place known (past_port _ child _ own port way leads) =
    let on = goes s w r slot n child way in
    let leaves = leaves_for known n (entry_at on.d (entry_for s w r slot n on.d)) child place.endpoint on.stands (leads_under s w r slot child place known leads) in
    under_is known n place.endpoint ∙ or_right (place.endpoint == n) (is_above s.nodes n place.endpoint) (leaves_above known n (entry_at on.d (entry_for s w r slot n on.d)) place.endpoint leaves)
leads_under s w r slot n place known (at_endpoint _ endpoint start) =
    under_endpoint known place.endpoint place.endpoint endpoint ∙ eq-eqb place.endpoint place.endpoint refl

-- ---- what leads on from a node of a kind

pub from_forwarding : (s : System) (w : WindowFields) (r : Range) (slot n : ℕ) (place : Place) → KnownTree s.nodes → LeadsTo s w r slot n place → (c : ℕ) → forwards_at s.nodes n ≡ true
    → least_child_of s.nodes n ≡ Some c → LeadsTo s w r slot c place
from_forwarding s w r slot n place known (past_forwarding _ child _ forwards first leads) c is at =
    subst (λ (m : ℕ). LeadsTo s w r slot m place) (one_value (least_child_of s.nodes n) child c first at) leads
from_forwarding s w r slot n place known (past_port _ child _ own port way leads) c is at = absurd (false≢true (sym own ∙ is))
from_forwarding s w r slot n place known (at_endpoint _ endpoint start) c is at = absurd (false≢true (sym (forwards_no_endpoint known place.endpoint is) ∙ endpoint))

pub record OnFrom (s : System) (w : WindowFields) (r : Range) (slot n : ℕ) (place : Place) : Type 0 where
  pub child : ℕ
  pub way : LeadsSlot s w r slot n child
  pub leads : LeadsTo s w r slot child place

pub from_port : (s : System) (w : WindowFields) (r : Range) (slot n : ℕ) (place : Place) → LeadsTo s w r slot n place → forwards_at s.nodes n ≡ false → is_port_at s.nodes n ≡ true
    → OnFrom s w r slot n place
from_port s w r slot n place (past_forwarding _ child _ forwards first leads) own port = absurd (false≢true (sym own ∙ forwards))
from_port s w r slot n place (past_port _ child _ _ _ way leads) own port = record { child = child; way = way; leads = leads }
from_port s w r slot n place (at_endpoint _ endpoint start) own port = absurd (false≢true (sym (port_no_endpoint s.nodes place.endpoint port) ∙ endpoint))

pub from_endpoint : (s : System) (w : WindowFields) (r : Range) (slot n : ℕ) (place : Place) → KnownTree s.nodes → LeadsTo s w r slot n place → is_endpoint_at s.nodes n ≡ true → place.endpoint ≡ n
from_endpoint s w r slot n place known (past_forwarding _ child _ forwards first leads) endpoint = absurd (false≢true (sym (forwards_no_endpoint known n forwards) ∙ endpoint))
from_endpoint s w r slot n place known (past_port _ child _ own port way leads) endpoint = absurd (false≢true (sym (port_no_endpoint s.nodes n port) ∙ endpoint))
from_endpoint s w r slot n place known (at_endpoint _ is start) endpoint = refl

-- ---- one place for each slot

same_place : (s : System) (r : Range) (p q : Place) → IsPlace s r p → IsPlace s r q → p.endpoint ≡ q.endpoint → p ≡ q
same_place s r p q one other endpoint =
    let index : one.i ≡ other.i = one_value (index_for s r p.endpoint) one.i other.i one.number (ap (index_for s r) endpoint ∙ other.number) in
    let start : p.start ≡ q.start =
    one.start ∙ ap (λ (n : ℕ). span_start_of (decoders_at s n) one.i) endpoint ∙ ap (λ (i : ℕ). span_start_of (decoders_at s q.endpoint) i) index ∙ sym other.start in
    λ k. record { endpoint = endpoint k; start = start k }

one_end : (s : System) (w : WindowFields) (r : Range) (slot n : ℕ) (p q : Place) → KnownTree s.nodes → LeadsTo s w r slot n p → LeadsTo s w r slot n q → p.endpoint ≡ q.endpoint
one_end s w r slot n p q known (past_forwarding _ child _ forwards first leads) other =
    one_end s w r slot child p q known leads (from_forwarding s w r slot n q known other child forwards first)
one_end s w r slot n p q known (past_port _ child _ own port way leads) other =
    let here = goes s w r slot n child way in
    let on = from_port s w r slot n q other own port in
    let there = goes s w r slot n on.child on.way in
    let same : here.d ≡ there.d = one_value (decoder_for s r n) here.d there.d here.first there.first in
    let child_same : on.child ≡ child =
    one_value (child_of s.nodes n (entry_at there.d (entry_for s w r slot n there.d))) on.child child there.stands
    (ap (λ (d : Decoder). child_of s.nodes n (entry_at d (entry_for s w r slot n d))) (sym same) ∙ here.stands) in
    one_end s w r slot child p q known leads (subst (λ (c : ℕ). LeadsTo s w r slot c q) child_same on.leads)
one_end s w r slot n p q known (at_endpoint _ endpoint start) other = sym (from_endpoint s w r slot p.endpoint q known other endpoint)

pub one_place : (s : System) (w : WindowFields) (r : Range) (slot n : ℕ) (p q : Place) → KnownTree s.nodes → LeadsTo s w r slot n p → LeadsTo s w r slot n q → p ≡ q
one_place s w r slot n p q known one other =
    same_place s r p q (is_place s w r slot n p one) (is_place s w r slot n q other) (one_end s w r slot n p q known one other)
