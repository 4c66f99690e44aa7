-- Where the decoders of an image lead a host address: from its window to a bridge, and from node to node down
-- to a byte of a device, or to the first place that leads no further (CXL HDM decoders; that a node with a
-- single port may forward, and which place is named, is this project's rule).
use Rattle.std.specs.Prelude.{◌≡◌, ℕ, ◌⊎◌, true, false, List, [], ◌∷◌, slice_get, Option, Some, None, IsSomeAnd}
use Rattle.cxl_topo.specs.Tree.{forwards_at, is_port_at, is_endpoint_at, child_of, least_child_of, bridge_with}
use Rattle.cxl_regs.specs.declared.decoder.Decoder.{Decoder}
use Rattle.cxl_regs.specs.Reading.{holds_address, entry_at, entry_of}
use Rattle.cxl_span.specs.Spans.{span_start_of, endpoint_place_of}
use Rattle.cxl_window.specs.Fields.{WindowFields}
use Rattle.cxl_window.specs.Position.{position_at}
use Rattle.cxl_model.specs.declared.chain.Step.{Step}
use Rattle.cxl_model.specs.declared.chain.Miss.{Miss}
use Rattle.cxl_model.specs.declared.chain.Miss.TheVariants.{NoWindow, BadBlock, NoDecoder, NoChild}
use Rattle.cxl_model.specs.System.{System, KeepsBlock, decoders_at, decoder_at}

-- a byte of an endpoint's device, with the decoder that leads to it and that decoder's first host address
pub record Arrival : Type 0 where
  pub endpoint : ℕ
  pub decoder : ℕ
  pub base : ℕ
  pub dpa : ℕ

-- where a walk ends
pub data End : Type 0 where
  Arrives : (arrival : Arrival) → End
  Misses : (miss : Miss) → End

-- ---- what one node does with an address

-- what a node does with an address
pub data Move : Type 0 where
  -- a node that forwards hands it on to its only child, and that is no step
  Forwards : (child : ℕ) → Move
  -- a port hands it on to the child at the listed port
  Steps : (step : Step) (child : ℕ) → Move
  Ends : (end : End) → Move

-- the node does not forward, and its block keeps K2 to K8: it is up to its decoders
pub record Decodes (s : System) (n : ℕ) : Type 0 where
  pub own : forwards_at s.nodes n ≡ false
  pub sound : KeepsBlock s n

-- the decoder holds the address and sends it to this entry of its list; at the port that is listed there stands this child, or none
pub record Chooses (s : System) (h n : ℕ) (d : Decoder) (entry : ℕ) (child : Option ℕ) : Type 0 where
  pub holds : holds_address d h ≡ true
  pub sends : entry ≡ entry_of d h
  pub listed : child_of s.nodes n (entry_at d entry) ≡ child

-- A port hands the address on to the child at the listed port of the committed decoder that holds it.
pub record IsStep (s : System) (h n : ℕ) (step : Step) (child : ℕ) : Type 0 where
  pub here : step.node ≡ n
  pub port : is_port_at s.nodes n ≡ true
  pub decodes : Decodes s n
  pub choice : IsSomeAnd (decoder_at s n step.decoder) (λ d. Chooses s h n d step.entry (Some child))

-- the decoder holds the address and sends it to this byte
pub record Places (s : System) (h n : ℕ) (arrival : Arrival) (d : Decoder) : Type 0 where
  pub holds : holds_address d h ≡ true
  pub base : arrival.base ≡ d.base
  pub dpa : arrival.dpa ≡ endpoint_place_of (span_start_of (decoders_at s n) arrival.decoder) d h

-- At an endpoint the address comes to a byte of the device.
pub record IsArrival (s : System) (h n : ℕ) (arrival : Arrival) : Type 0 where
  pub here : arrival.endpoint ≡ n
  pub endpoint : is_endpoint_at s.nodes n ≡ true
  pub decodes : Decodes s n
  pub place : IsSomeAnd (decoder_at s n arrival.decoder) (Places s h n arrival)

-- the block breaks a rule of K2 to K8
pub record IsBadBlock (s : System) (n : ℕ) : Type 0 where
  pub own : forwards_at s.nodes n ≡ false
  pub broken : ¬ (KeepsBlock s n)

-- no committed decoder holds the address
pub record LacksDecoder (s : System) (h n : ℕ) : Type 0 where
  pub decodes : Decodes s n
  pub none : (i : ℕ) (d : Decoder) → decoder_at s n i ≡ Some d → holds_address d h ≡ false

-- a node that forwards has no child
pub record ForwardsNowhere (s : System) (n : ℕ) : Type 0 where
  pub forwards : forwards_at s.nodes n ≡ true
  pub childless : least_child_of s.nodes n ≡ None

-- a port lists a port at which no child stands
pub record ListsNoChild (s : System) (h n : ℕ) : Type 0 where
  pub port : is_port_at s.nodes n ≡ true
  pub decodes : Decodes s n
  pub choice : (i entry : ℕ) × IsSomeAnd (decoder_at s n i) (λ d. Chooses s h n d entry None)

-- no child is there to go to
abbrev pub LacksChild : System → ℕ → ℕ → Type 0
LacksChild s h n = ForwardsNowhere s n ⊎ ListsNoChild s h n

-- The node is the place at which the address leads no further, by the first of these that holds: it forwards and has no
-- child; its block breaks one of K2 to K8; none of its committed decoders holds the address; no child stands at the listed
-- port.
abbrev pub StopsAt : System → ℕ → ℕ → Miss → Type 0
StopsAt s h n NoWindow = ⊥
StopsAt s h n (BadBlock m) = (m ≡ n) × IsBadBlock s n
StopsAt s h n (NoDecoder m) = (m ≡ n) × LacksDecoder s h n
StopsAt s h n (NoChild m) = (m ≡ n) × LacksChild s h n

-- what node n does with an address: it forwards, steps, arrives, or leads no further
abbrev pub Moves : System → ℕ → ℕ → Move → Type 0
Moves s h n (Forwards child) = (forwards_at s.nodes n ≡ true) × (least_child_of s.nodes n ≡ Some child)
Moves s h n (Steps step child) = IsStep s h n step child
Moves s h n (Ends (Arrives arrival)) = IsArrival s h n arrival
Moves s h n (Ends (Misses miss)) = StopsAt s h n miss

-- ---- the way down

-- from node n on an address makes these steps, and ends so
pub data Walk (s : System) (h : ℕ) : ℕ → List Step → End → Type 0 where
  on_forwarding : (n child : ℕ) (steps : List Step) (end : End) → Moves s h n (Forwards child) → Walk s h child steps end → Walk s h n steps end
  on_step : (n child : ℕ) (step : Step) (steps : List Step) (end : End) → Moves s h n (Steps step child) → Walk s h child steps end → Walk s h n (step ∷ steps) end
  at_end : (n : ℕ) (end : End) → Moves s h n (Ends end) → Walk s h n [] end

-- ---- the whole chain

-- by which window, to which of its positions, by which steps and where to an address goes
pub record Routing : Type 0 where
  pub window : ℕ
  pub position : ℕ
  pub steps : List Step
  pub arrival : Arrival

-- a route, or a miss
pub data ChainEnd : Type 0 where
  Routed : (routing : Routing) → ChainEnd
  Missed : (miss : Miss) → ChainEnd

-- what a walk from the target at a window's position comes to
abbrev pub chain_end_by : ℕ → ℕ → List Step → End → ChainEnd
chain_end_by window position steps (Arrives arrival) =
    Routed (record { window = window; position = position; steps = steps; arrival = arrival })
chain_end_by window position steps (Misses miss) = Missed miss

-- the window holds the address, and its target at the position is this bridge
pub record Targets (s : System) (h : ℕ) (w : WindowFields) (position bridge : ℕ) : Type 0 where
  pub there : slice_get s.windows w.index ≡ Some w
  pub holds : position_at w h ≡ Some position
  pub target : IsSomeAnd (slice_get w.targets position) (λ uid. bridge_with s.nodes uid ≡ Some bridge)

-- The one route or the one miss of an address: no usable window holds it, or the usable one that does, its target at the
-- position, and the walk from there.
pub data Chain (s : System) (h : ℕ) (outcome : ChainEnd) : Type 0 where
  unheld : ((i : ℕ) (w : WindowFields) → slice_get s.windows i ≡ Some w → position_at w h ≡ None) → outcome ≡ Missed NoWindow → Chain s h outcome
  held : (w : WindowFields) (position bridge : ℕ) (steps : List Step) (end : End) → Targets s h w position bridge → Walk s h bridge steps end → outcome ≡ chain_end_by w.index position steps end → Chain s h outcome

-- the chain of the address is a route
abbrev pub HasRoute : System → ℕ → Type 0
HasRoute s h = (route : Routing) × Chain s h (Routed route)
