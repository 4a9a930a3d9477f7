-- A handle owns its map alone, and any thread may free it.
use mir.Raw.{raw}
use base.Shift.{Keyless}
use denote.Memory.{lone}
use denote.RawPtr.{Ptr}
use denote.Struct.Struct.{exits_of}
use denote.Struct.Owning.{shape, fields, to}
use denote.Param.Send.{IsSend, AllSend, owning_send, struct_send, sendable}
use Rattle.std.proofs.Common.{Option, Some, None}
use Rattle.std.proofs.Crossing as heap
use Rattle.std_alloc.proofs.SendSync.{quiet, lies}
use Rattle.std_heap.proofs.Global.TheSendSync as handle
use Rattle.std.specs.Global.{Global}
use Rattle.art_c.specs.Handles.{held_row, owns_behind}
use Rattle.art_c.proofs.held.Held.TheSendSync.{the_send as held_send}
use Rattle.art_c.specs.contracts.handle.Handle.{the_row, the_type}

behind : (alloc : Global) (p : Ptr) (held : Option held_row.Denot) → Keyless (owns_behind held_row alloc p held)
behind alloc p None = tt
behind alloc p (Some x) = (lies held_row held_send p x, heap.frees.frees alloc (raw (lone held_row.mir)) p)

pub send : IsSend the_row
send =
    let all : AllSend (fields the_type) = (search sendable, (handle.the_field_send, tt)) in
    owning_send the_type all (λ d. behind d.alloc d.ptr d.held)
    (λ k. quiet (to the_type) (exits_of k (fields the_type)) ((struct_send (shape the_type) all).leaving k))
