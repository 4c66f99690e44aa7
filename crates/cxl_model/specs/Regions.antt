-- The regions of an image, and which byte of a device each of their host bytes is carried to (CXL interleave
-- arithmetic; how a slot's span is found on the tree is this project's rule).
use Rattle.std.specs.Prelude.{◌≡◌, ℕ, ◌+◌, ◌-◌, ◌*◌, ◌/◌, ◌%◌, ◌^◌, ◌<◌, ◌≤◌, ◌==◌, true, false, if◌then◌else◌, length, slice_get, Some, IsSomeAnd}
use Rattle.cxl_enc.specs.Codes.{bits_of}
use Rattle.cxl_topo.specs.Tree.{forwards_at, is_port_at, is_endpoint_at, child_of, least_child_of, bridge_with}
use Rattle.cxl_regs.specs.declared.reading.Range.{Range}
use Rattle.cxl_regs.specs.Reading.{decoder_ways, entry_at}
use Rattle.cxl_span.specs.Spans.{span_start_of}
use Rattle.cxl_window.specs.Fields.{WindowFields}
pub use Rattle.cxl_window.specs.Position.{target_position}
use Rattle.cxl_deal.specs.Weaves.{WeaveFields, dealt_slot, dealt_offset}
use Rattle.cxl_model.specs.declared.found.Found.{Found}
use Rattle.cxl_model.specs.declared.found.Place.{Place}
use Rattle.cxl_model.specs.System.{System, decoders_at}
use Rattle.cxl_model.specs.Ranges.{IsCommittedRange, decoder_for, index_for, window_for, ways_above, range_ways, range_kind, range_code}
use Rattle.cxl_model.specs.Accepted.{IsWhole}

-- ---- the span of a slot

-- how many slots in a row share an entry of node n: 2 to the window's k, times the ways of the ports above
abbrev pub slots_an_entry : System → WindowFields → Range → ℕ → ℕ
slots_an_entry s w r n = 2 ^ bits_of w.ways * ways_above s r n

-- the child to which a port's decoder of the range leads a slot
abbrev pub LeadsSlot : System → WindowFields → Range → ℕ → ℕ → ℕ → Type 0
LeadsSlot s w r slot n child =
    IsSomeAnd (decoder_for s r n) (λ d. child_of s.nodes n (entry_at d (slot / slots_an_entry s w r n % decoder_ways d)) ≡ Some child)

-- From node n on, a slot leads to this place of a device: past each node that forwards to its only child, and at each port
-- of the range by the entry (slot / q) mod ways, q being 2 to the window's k times the ways of the ports above.
pub data LeadsTo (s : System) (w : WindowFields) (r : Range) (slot : ℕ) : ℕ → Place → Type 0 where
  past_forwarding : (n child : ℕ) (place : Place) → forwards_at s.nodes n ≡ true → least_child_of s.nodes n ≡ Some child → LeadsTo s w r slot child place → LeadsTo s w r slot n place
  past_port : (n child : ℕ) (place : Place) → forwards_at s.nodes n ≡ false → is_port_at s.nodes n ≡ true → LeadsSlot s w r slot n child → LeadsTo s w r slot child place → LeadsTo s w r slot n place
  at_endpoint : (place : Place) → is_endpoint_at s.nodes place.endpoint ≡ true → IsSomeAnd (index_for s r place.endpoint) (λ i. place.start ≡ span_start_of (decoders_at s place.endpoint) i) → LeadsTo s w r slot place.endpoint place

-- the span of a slot, from the window's target at the slot's position down
pub record HasSpan (s : System) (w : WindowFields) (r : Range) (slot : ℕ) (place : Place) : Type 0 where
  pub bridge : ℕ
  pub target : IsSomeAnd (slice_get w.targets (target_position w slot)) (λ uid. bridge_with s.nodes uid ≡ Some bridge)
  pub leads : LeadsTo s w r slot bridge place

-- ---- a region

-- the range of a region
abbrev pub region_range : Found → Range
region_range found = record { base = found.base; size = found.size }

-- a whole range with its window, its code (0 at one way), ways and kind, and the span of each slot
pub record IsRegionIn (s : System) (w : WindowFields) (found : Found) : Type 0 where
  pub committed : IsCommittedRange s (region_range found)
  pub whole : IsWhole s (region_range found)
  pub window : window_for s (region_range found) ≡ Some w
  pub index : found.window ≡ w.index
  pub ways : found.ways ≡ range_ways s (region_range found)
  pub code : found.gran ≡ (if found.ways == 1 then 0 else range_code s w (region_range found))
  pub kind : found.kind ≡ range_kind s (region_range found)
  pub slots : length found.spans ≡ found.ways
  pub spans : (slot : ℕ) (place : Place) → slice_get found.spans slot ≡ Some place → HasSpan s w (region_range found) slot place

-- a region of the image, in its window
abbrev pub IsRegion : System → Found → Type 0
IsRegion s found = (w : WindowFields) × IsRegionIn s w found

-- the address is a host byte of one of the image's regions
abbrev pub LiesInRegion : System → ℕ → Type 0
LiesInRegion s h = (found : Found) × IsRegion s found × (found.base ≤ h) × (h < found.base + found.size)

-- ---- where its bytes are carried

-- the weave of a region and its window
abbrev pub weave_fields : Found → WindowFields → WeaveFields
weave_fields found w = record {
  base = found.base;
  gran = found.gran;
  root_bits = bits_of w.ways;
  third = w.ways % 3 == 0;
  low_bits = bits_of found.ways - bits_of w.ways;
  xor = w.xor;
  maps = w.maps;
}

-- a region carries a host byte to this byte of this endpoint's device: the start of its slot, and the dealt offset behind it
pub record Carries (found : Found) (w : WindowFields) (h endpoint dpa : ℕ) : Type 0 where
  pub from : found.base ≤ h
  pub below : h < found.base + found.size
  pub place : IsSomeAnd (slice_get found.spans (dealt_slot (weave_fields found w) h))
      (λ place. (place.endpoint ≡ endpoint) × (place.start + dealt_offset (weave_fields found w) h ≡ dpa))
