-- The rules K9 to K12 of an image, each as a test of one committed decoder (this project's rules).
use Rattle.std.specs.Prelude.{ℕ, ◌+◌, ◌-◌, ◌*◌, ◌%◌, ◌==◌, ◌&&◌, ◌||◌, not, Bool, true, false, if◌then◌else◌, List, [], ◌∷◌, length, slice_get, Option, option_and_then}
use Rattle.std.specs.Option.{option_map_or}
use Rattle.std.specs.List.{list_any, list_all, range_with_len}
use Rattle.cxl_enc.specs.Codes.{bits_of}
use Rattle.cxl_enc.specs.Limits.{unit}
use Rattle.cxl_topo.specs.declared.node.Node.{Node}
use Rattle.cxl_topo.specs.declared.node.Parent.{Parent}
use Rattle.cxl_topo.specs.Tree.{forwards_at, is_bridge_at, is_endpoint_at, uid_at, child_of, bridge_with, path_of, decoding_port_of, landing_of}
use Rattle.cxl_regs.specs.declared.decoder.Decoder.{Decoder}
use Rattle.cxl_regs.specs.declared.reading.Range.{Range}
use Rattle.cxl_regs.specs.Reading.{decoder_ways, entries_of, range_of, has_range}
use Rattle.cxl_window.specs.Fields.{WindowFields}
pub use Rattle.cxl_window.specs.Restrictions.{permits}
use Rattle.cxl_model.specs.System.{System, decoders_at}
use Rattle.cxl_model.specs.Ranges.{serves, window_for, ways_above, bits_above, span_kind, same_kind, range_ways, range_kind, range_code}

-- ---- K9, where a range lies

-- where 3 divides the window's ways, the range starts at a multiple of 768 MiB from the window's base
abbrev pub starts_in_thirds : WindowFields → Range → Bool
starts_in_thirds w r = not (w.ways % 3 == 0) || ((r.base - w.base) % (3 * unit) == 0)

-- K9: the range lies in a usable window, in thirds where it must, and an endpoint's span is of a kind that the window permits
abbrev pub keeps_window : System → ℕ → ℕ → Decoder → Bool
keeps_window s n i d =
    option_map_or (λ w. starts_in_thirds w (range_of d) && (not (is_endpoint_at s.nodes n) || permits w (span_kind s n i)))
    (window_for s (range_of d)) false

-- ---- K10, what a decoder leads to

-- no number stands twice
abbrev pub are_distinct : List ℕ → Bool
are_distinct [] = true
are_distinct (n ∷ ns) = not (list_any (λ m. m == n) ns) && are_distinct ns

-- an address that comes to node n is first decoded at a node that serves the range
abbrev pub lands_on : System → Range → ℕ → Bool
lands_on s r n = option_map_or (serves s r) (landing_of s.nodes n) false

-- a child stands at the port of node n, and lands on the range
abbrev pub leads_on : System → Range → ℕ → ℕ → Bool
leads_on s r n port = option_map_or (lands_on s r) (child_of s.nodes n port) false

-- the landing of some bridge
abbrev pub is_bridge_landing : List Node → ℕ → Bool
is_bridge_landing nodes n =
    list_any (λ b. is_bridge_at nodes b && option_map_or (λ m. m == n) (landing_of nodes b) false) (range_with_len 0 (length nodes))

-- each target of the window is a bridge that lands on the range
abbrev pub targets_land : System → Range → WindowFields → Bool
targets_land s r w = list_all (λ uid. option_map_or (lands_on s r) (bridge_with s.nodes uid) false) w.targets

-- K10: a port's entries differ, and each leads on; and where the node is the landing of a bridge, each target of the range's window lands on it
abbrev pub keeps_targets : System → ℕ → Decoder → Bool
keeps_targets s n d =
    (is_endpoint_at s.nodes n || (are_distinct (entries_of d) && list_all (leads_on s (range_of d) n) (entries_of d)))
    && (not (is_bridge_landing s.nodes n) || option_map_or (targets_land s (range_of d)) (window_for s (range_of d)) true)

-- ---- K11, what leads to a decoder

-- a committed decoder of the range lists this port
abbrev pub lists : System → Range → Parent → Bool
lists s r parent = list_any (λ d. has_range r d && list_any (λ port. port == parent.port) (entries_of d)) (decoders_at s parent.node)

-- the UID of the bridge on the path of node n
abbrev pub uid_above : List Node → ℕ → Option ℕ
uid_above nodes n = option_and_then (uid_at nodes) (slice_get (path_of nodes n) 0)

-- the range's window targets the bridge on the path of node n
abbrev pub is_targeted : System → Range → ℕ → Bool
is_targeted s r n =
    option_map_or (λ w. option_map_or (λ uid. list_any (λ target. target == uid) w.targets) (uid_above s.nodes n) false) (window_for s r) false

-- K11: the node does not forward, and its decoding parent lists it for the range, or, where it has none, the window targets its bridge
abbrev pub keeps_reach : System → ℕ → Decoder → Bool
keeps_reach s n d =
    not (forwards_at s.nodes n)
    && option_map_or (lists s (range_of d)) (decoding_port_of s.nodes n) (is_targeted s (range_of d) n)

-- ---- K12, ways, kind and granularity

-- an endpoint has the window's ways times those of the ports above it, and the ways and kind of the first endpoint; with more than one way it has code e
abbrev pub keeps_endpoint_ways : System → WindowFields → ℕ → ℕ → Decoder → Bool
keeps_endpoint_ways s w n i d =
    (decoder_ways d == w.ways * ways_above s (range_of d) n)
    && (decoder_ways d == range_ways s (range_of d))
    && same_kind (span_kind s n i) (range_kind s (range_of d))
    && ((decoder_ways d == 1) || (d.gran == range_code s w (range_of d)))

-- a port with more than one way has code e plus the k of the window and of each port above it
abbrev pub keeps_port_code : System → WindowFields → ℕ → Decoder → Bool
keeps_port_code s w n d =
    (decoder_ways d == 1) || (d.gran == range_code s w (range_of d) + bits_of w.ways + bits_above s (range_of d) n)

-- K12: ways, kind and granularity follow from the range's window
abbrev pub keeps_ways : System → ℕ → ℕ → Decoder → Bool
keeps_ways s n i d =
    option_map_or (λ w. if is_endpoint_at s.nodes n then keeps_endpoint_ways s w n i d else keeps_port_code s w n d)
    (window_for s (range_of d)) true
