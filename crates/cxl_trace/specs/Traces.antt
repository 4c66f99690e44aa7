-- The walk of a host address as far as it leads, be it to a byte or to the first place that leads no further.
use Rattle.std.specs.Prelude.{◌≡◌, ℕ, List, [], take, slice_get, Option, Some, None}
use Rattle.cxl_window.specs.Fields.{WindowFields}
use Rattle.cxl_window.specs.Position.{position_at}
use Rattle.cxl_model.specs.declared.chain.Step.{Step}
use Rattle.cxl_model.specs.declared.chain.Miss.TheVariants.{NoWindow}
use Rattle.cxl_model.specs.System.{System}
use Rattle.cxl_model.specs.Chain.{Arrival, End, Arrives, Misses, Walk, Targets, ChainEnd, Missed, chain_end_by}
use Rattle.cxl_trace.specs.declared.trace.EndByte.{EndByte}
use Rattle.cxl_trace.specs.declared.trace.WalkEnd.{WalkEnd}
use Rattle.cxl_trace.specs.declared.trace.WalkEnd.TheVariants.{Comes, Lost}
use Rattle.cxl_trace.specs.declared.trace.Outset.{Outset}
use Rattle.cxl_trace.specs.declared.trace.Trace.{Trace}

-- ---- what a trace tells

-- a byte as the arrival there
abbrev pub traced_arrival : EndByte → Arrival
traced_arrival byte = record { endpoint = byte.endpoint; decoder = byte.decoder; base = byte.base; dpa = byte.dpa }

-- an ending as the end of a walk
abbrev pub walk_end : WalkEnd → End
walk_end (Comes byte) = Arrives (traced_arrival byte)
walk_end (Lost miss) = Misses miss

-- the steps of a trace
abbrev pub trace_steps : Trace → List Step
trace_steps trace = take trace.len trace.steps

-- what a trace says of the chain of its address
abbrev pub chain_end_from : Option Outset → List Step → End → ChainEnd
chain_end_from None steps end = Missed NoWindow
chain_end_from (Some outset) steps end = chain_end_by outset.window outset.position steps end

abbrev pub traced_end : Trace → ChainEnd
traced_end trace = chain_end_from trace.outset (trace_steps trace) (walk_end trace.end)

-- two traces tell the same
pub record TellSame (trace other : Trace) : Type 0 where
  pub outset : trace.outset ≡ other.outset
  pub steps : trace_steps trace ≡ trace_steps other
  pub end : trace.end ≡ other.end

-- ---- the trace of an address

-- no usable window holds the address
abbrev pub IsUnheld : System → ℕ → Type 0
IsUnheld s h = (i : ℕ) (w : WindowFields) → slice_get s.windows i ≡ Some w → position_at w h ≡ None

-- the usable window of this index holds the address at this position, and its target there is this bridge
pub record SetsOut (s : System) (h : ℕ) (outset : Outset) : Type 0 where
  pub window : WindowFields
  pub index : outset.window ≡ window.index
  pub targets : Targets s h window outset.position outset.bridge

-- An address that no usable window holds makes no step and is lost there; any other sets out at its window's bridge, and makes the
-- steps of its walk from there to where that ends.
pub data IsTraceOf (s : System) (h : ℕ) (trace : Trace) : Type 0 where
  outside : IsUnheld s h → trace.outset ≡ None → trace_steps trace ≡ [] → trace.end ≡ Lost NoWindow → IsTraceOf s h trace
  inside : (outset : Outset) → trace.outset ≡ Some outset → SetsOut s h outset → Walk s h outset.bridge (trace_steps trace) (walk_end trace.end) → IsTraceOf s h trace
