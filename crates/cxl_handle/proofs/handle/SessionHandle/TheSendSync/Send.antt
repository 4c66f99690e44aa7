-- A handle goes to another thread as its session does: what its address owns names nothing that is bound to a thread.
use mir.Raw.{raw}
use denote.Memory.{lone}
use denote.Param.Send.{IsSend, owning_send, struct_send, sendable}
use denote.Builtin.{RawPtr}
use denote.RawPtr.{Ptr}
use denote.Struct.Struct.{exits_of}
use denote.Struct.Owning.{shape, fields, to}
use base.Shift.{Keyless}
use Rattle.std.specs.Prelude.{Option, Some, None}
use Rattle.std.specs.declared.alloc.Global.{Global}
use Rattle.std.proofs.alloc.Global.TheSendSync as heap
use Rattle.std.proofs.Crossing.{frees}
use Rattle.std_alloc.proofs.SendSync.{quiet, lies}
use Rattle.cxl_held.specs.Sessions.{IsKept}
use Rattle.cxl_held.specs.contracts.held.Held as sessions
use Rattle.cxl_held.proofs.held.Held.TheSendSync as sessions_go
use Rattle.cxl_handle.specs.Owned.{owned_at}
use Rattle.cxl_handle.specs.contracts.handle.SessionHandle.{the_row, the_type}

owned_goes : IsSend sessions.the_row → (alloc : Global) (at : Ptr) (held : Option (sessions.the_row).Denot) → Keyless (owned_at sessions.the_row IsKept alloc at held)
owned_goes goes alloc at None = λ _. tt
owned_goes goes alloc at (Some value) = ((λ _. tt), (lies sessions.the_row goes at value, frees.frees alloc (raw (lone (sessions.the_row).mir)) at))

pub send : IsSend the_row
send = let address : IsSend RawPtr = search sendable in let allocator = heap.the_field_send in
    owning_send the_type (address, (allocator, tt)) (λ d. owned_goes sessions_go.the_send d.alloc d.at d.held)
    (λ kept. quiet (to the_type) (exits_of kept (fields the_type)) ((struct_send (shape the_type) (address, (allocator, tt))).leaving kept))
