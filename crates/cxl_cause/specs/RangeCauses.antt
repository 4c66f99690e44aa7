-- Why a committed decoder breaks one of the rules K9 to K12: of each rule the first part of its test that fails (this
-- project's rules).
use Rattle.std.specs.Prelude.{ℕ, ◌+◌, ◌-◌, ◌*◌, ◌/◌, ◌==◌, not, ◌&&◌, ◌||◌, if◌then◌else◌, List, [], ◌∷◌, find, Option, Some, None, unwrap_or}
use Rattle.std.specs.Option.{option_map_or, option_or}
use Rattle.cxl_enc.specs.Codes.{bits_of}
use Rattle.cxl_enc.specs.Limits.{unit}
use Rattle.cxl_topo.specs.declared.node.Parent.{Parent}
use Rattle.cxl_topo.specs.Tree.{forwards_at, is_endpoint_at, child_of, bridge_with, decoding_port_of, landing_of}
use Rattle.cxl_regs.specs.declared.decoder.Decoder.{Decoder}
use Rattle.cxl_regs.specs.declared.reading.Range.{Range}
use Rattle.cxl_regs.specs.Reading.{decoder_ways, entries_of, range_of}
use Rattle.cxl_window.specs.Fields.{WindowFields}
use Rattle.cxl_window.specs.Position.{is_usable, holds}
use Rattle.cxl_window.specs.Restrictions.{permits}
use Rattle.cxl_model.specs.System.{System}
use Rattle.cxl_model.specs.Ranges.{serves, window_for, ways_above, bits_above, span_kind, same_kind, first_endpoint, range_ways, range_kind, range_code}
use Rattle.cxl_model.specs.Rules.{starts_in_thirds, is_bridge_landing, lists, uid_above, is_targeted}
use Rattle.cxl_cause.specs.declared.cause.Cause.{Cause}
use Rattle.cxl_cause.specs.declared.cause.Cause.TheVariants.{NoWindow, UnusableWindow, AcrossWindow, NotInThirds, KindForbidden, SamePort, NoChild, NoLanding, NotServed, NoBridge, TargetWithoutLanding, TargetNotServed, Forwards, ParentLacksRange, ParentDoesNotList, NotTargeted, Ways, WaysOfFirst, KindOfFirst, Granularity}

-- ---- K9

-- why a range lies in no usable window: by the usable window that holds its base, or another that does
abbrev pub window_miss : List WindowFields → Range → Cause
window_miss windows r =
    option_map_or (λ w. AcrossWindow w.index (w.base + w.size))
    (find (λ w. is_usable w.verdict && holds w r.base) windows)
    (option_map_or (λ w. UnusableWindow w.index w.verdict) (find (λ w. holds w r.base) windows) NoWindow)

-- the next address past a base that is a multiple of 768 MiB from the window's
abbrev pub next_third : WindowFields → Range → ℕ
next_third w r = w.base + ((r.base - w.base) / (3 * unit) + 1) * (3 * unit)

-- K9: no usable window, then a base between thirds, then the kind of an endpoint's span
abbrev pub window_cause : System → ℕ → ℕ → Decoder → Option Cause
window_cause s n i d =
    option_map_or
    (λ w. if starts_in_thirds w (range_of d)
    then (if not (is_endpoint_at s.nodes n) || permits w (span_kind s n i) then None else Some (KindForbidden w.index (span_kind s n i) w.restrict))
    else Some (NotInThirds w.index (next_third w (range_of d))))
    (window_for s (range_of d)) (Some (window_miss s.windows (range_of d)))

-- ---- K10

-- the first of the entries from number j on that lists this port
abbrev pub entry_listing : ℕ → ℕ → List ℕ → Option ℕ
entry_listing port j [] = None
entry_listing port j (other ∷ ports) = if other == port then Some j else entry_listing port (j + 1) ports

-- the first of the entries from number i on that lists the port of a later one
abbrev pub same_port : ℕ → List ℕ → Option Cause
same_port i [] = None
same_port i (port ∷ ports) = option_map_or (λ other. Some (SamePort i other)) (entry_listing port (i + 1) ports) (same_port (i + 1) ports)

-- why an entry does not lead on to a node that serves the range
abbrev pub entry_cause : System → Range → ℕ → ℕ → ℕ → Option Cause
entry_cause s r n i port =
    option_map_or
    (λ child. option_map_or (λ landing. if serves s r landing then None else Some (NotServed i landing)) (landing_of s.nodes child) (Some (NoLanding i child)))
    (child_of s.nodes n port) (Some (NoChild i port))

-- the first of the entries from this number on that does not
abbrev pub entries_cause : System → Range → ℕ → ℕ → List ℕ → Option Cause
entries_cause s r n i [] = None
entries_cause s r n i (port ∷ ports) = option_or (entry_cause s r n i port) (entries_cause s r n (i + 1) ports)

-- why a target of the window is no bridge that lands on the range
abbrev pub target_cause : System → Range → WindowFields → ℕ → Option Cause
target_cause s r w uid =
    option_map_or
    (λ bridge. option_map_or (λ landing. if serves s r landing then None else Some (TargetNotServed w.index uid landing)) (landing_of s.nodes bridge)
    (Some (TargetWithoutLanding w.index uid bridge)))
    (bridge_with s.nodes uid) (Some (NoBridge w.index uid))

-- the first of the targets that is none
abbrev pub targets_cause : System → Range → WindowFields → List ℕ → Option Cause
targets_cause s r w [] = None
targets_cause s r w (uid ∷ uids) = option_or (target_cause s r w uid) (targets_cause s r w uids)

-- K10 of a port's entries: one port twice, then one that does not lead on
abbrev pub ports_cause : System → ℕ → Decoder → Option Cause
ports_cause s n d =
    if is_endpoint_at s.nodes n then None
    else option_or (same_port 0 (entries_of d)) (entries_cause s (range_of d) n 0 (entries_of d))

-- K10 of a window's targets, where the node is the landing of a bridge
abbrev pub landings_cause : System → ℕ → Decoder → Option Cause
landings_cause s n d =
    if is_bridge_landing s.nodes n then option_map_or (λ w. targets_cause s (range_of d) w w.targets) (window_for s (range_of d)) None else None

-- K10: the entries, then the targets
abbrev pub lead_cause : System → ℕ → Decoder → Option Cause
lead_cause s n d = option_or (ports_cause s n d) (landings_cause s n d)

-- ---- K11

-- why the decoding parent does not list the port for the range
abbrev pub parent_cause : System → Range → Parent → Option Cause
parent_cause s r parent =
    if lists s r parent then None
    else (if serves s r parent.node then Some (ParentDoesNotList parent.node parent.port) else Some (ParentLacksRange parent.node))

-- why the window does not target the bridge on the path of node n; each node of a tree has one
abbrev pub bridge_cause : System → Range → ℕ → Option Cause
bridge_cause s r n =
    if is_targeted s r n then None
    else Some (option_map_or (λ w. NotTargeted w.index (unwrap_or (uid_above s.nodes n) 0)) (window_for s r) NoWindow)

-- K11: the node forwards, then its decoding parent, or, where it has none, the window
abbrev pub reach_cause : System → ℕ → Decoder → Option Cause
reach_cause s n d =
    if forwards_at s.nodes n then Some Forwards
    else option_map_or (parent_cause s (range_of d)) (decoding_port_of s.nodes n) (bridge_cause s (range_of d) n)

-- ---- K12

-- the granularity code of an endpoint with more than one way is that of the range
abbrev pub code_cause : System → WindowFields → Decoder → Option Cause
code_cause s w d =
    if (decoder_ways d == 1) || (d.gran == range_code s w (range_of d)) then None
    else Some (Granularity d.gran (range_code s w (range_of d)) (first_endpoint s (range_of d)))

-- an endpoint: the ways of its path, then the ways and the kind of the first endpoint, then the code
abbrev pub endpoint_cause : System → WindowFields → ℕ → ℕ → Decoder → Option Cause
endpoint_cause s w n i d =
    if not (decoder_ways d == w.ways * ways_above s (range_of d) n) then Some (Ways (decoder_ways d) (w.ways * ways_above s (range_of d) n))
    else (if not (decoder_ways d == range_ways s (range_of d)) then Some (WaysOfFirst (decoder_ways d) (range_ways s (range_of d)) (first_endpoint s (range_of d)))
    else (if not (same_kind (span_kind s n i) (range_kind s (range_of d))) then Some (KindOfFirst (span_kind s n i) (range_kind s (range_of d)) (first_endpoint s (range_of d)))
    else code_cause s w d))

-- the granularity code that a port with more than one way has to have
abbrev pub port_code : System → WindowFields → ℕ → Range → ℕ
port_code s w n r = range_code s w r + bits_of w.ways + bits_above s r n

-- a port: its code
abbrev pub port_cause : System → WindowFields → ℕ → Decoder → Option Cause
port_cause s w n d =
    if (decoder_ways d == 1) || (d.gran == port_code s w n (range_of d)) then None
    else Some (Granularity d.gran (port_code s w n (range_of d)) (first_endpoint s (range_of d)))

-- K12: ways, kind and granularity do not follow from the range's window
abbrev pub ways_cause : System → ℕ → ℕ → Decoder → Option Cause
ways_cause s n i d =
    option_map_or (λ w. if is_endpoint_at s.nodes n then endpoint_cause s w n i d else port_cause s w n d) (window_for s (range_of d)) None
