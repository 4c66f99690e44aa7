-- What the inner calls say: of one node, of the way down from a node, and of a window's target. None of it
-- but the last depends on the windows.
use Rattle.std.specs.Prelude.{◌≡◌, ℕ, List, slice_get, Some}
use Rattle.cxl_topo.specs.Tree.{Tree}
use Rattle.cxl_regs.specs.declared.decoder.Decoder.{Decoder}
use Rattle.cxl_regs.specs.Registers.{Registers}
use Rattle.cxl_span.specs.Spans.{span_start_of, endpoint_place_of}
use Rattle.cxl_window.specs.Fields.{WindowFields}
use Rattle.cxl_window.specs.Position.{position_at}
use Rattle.cxl_model.specs.declared.chain.Step.{Step}
use Rattle.cxl_model.specs.declared.chain.Miss.{Miss}
use Rattle.cxl_model.specs.Chain.{Arrival, Move, End, Moves, Walk}
use Rattle.cxl_model.specs.Chain as chain
use Rattle.cxl_walk.specs.declared.moves.ReachedByte.{ReachedByte}
use Rattle.cxl_walk.specs.declared.moves.Next.{Next}
use Rattle.cxl_walk.specs.declared.moves.Next.TheVariants.{Forwards, Steps, Arrives}
use Rattle.cxl_walk.specs.declared.target.Target.{Target}
use Rattle.cxl_model.specs.System.{system_of}

-- ---- one node

-- a device byte as an arrival there
abbrev pub reached : ReachedByte → Arrival
reached byte = record { endpoint = byte.endpoint; decoder = byte.decoder; base = byte.base; dpa = byte.dpa }

-- the byte to which decoder i in the block of endpoint n sends an address
abbrev pub byte_at : Registers → ℕ → ℕ → ℕ → Decoder → ReachedByte
byte_at block h n i d =
    record { endpoint = n; decoder = i; base = d.base; dpa = endpoint_place_of (span_start_of block.decoders i) d h }

-- what a call tells of the next node as a move
abbrev pub move_of : Next → Move
move_of (Forwards child) = chain.Forwards child
move_of (Steps step child) = chain.Steps step child
move_of (Arrives byte) = chain.Ends (chain.Arrives (reached byte))

-- node n makes this move
abbrev pub Makes : List Registers → Tree → ℕ → ℕ → Move → Type 0
Makes blocks tree h n move = (windows : List WindowFields) → Moves (system_of blocks tree windows) h n move

-- node n is where the address goes no further
abbrev pub MissesAt : List Registers → Tree → ℕ → ℕ → Miss → Type 0
MissesAt blocks tree h n miss = Makes blocks tree h n (chain.Ends (chain.Misses miss))

-- ---- the way down from a node

-- from node n on the address makes these steps, and ends so
abbrev pub Leads : List Registers → Tree → ℕ → ℕ → List Step → End → Type 0
Leads blocks tree h n steps end = (windows : List WindowFields) → Walk (system_of blocks tree windows) h n steps end

-- somewhere on the way from node n on the address goes no further
abbrev pub Fails : List Registers → Tree → ℕ → ℕ → Miss → Type 0
Fails blocks tree h n miss = (steps : List Step) × Leads blocks tree h n steps (chain.Misses miss)

-- ---- the target in a window

-- the window holds the address at this position, and this is the UID of its target there
pub record IsTargetIn (w : WindowFields) (h : ℕ) (target : Target) : Type 0 where
  pub index : target.window ≡ w.index
  pub holds : position_at w h ≡ Some target.position
  pub uid : slice_get w.targets target.position ≡ Some target.uid

-- this is so of the window of its index
pub record IsTarget (windows : List WindowFields) (h : ℕ) (target : Target) (w : WindowFields) : Type 0 where
  pub there : slice_get windows w.index ≡ Some w
  pub inside : IsTargetIn w h target
