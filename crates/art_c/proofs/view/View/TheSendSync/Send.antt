-- A view only reads its map, so it may go to another thread where a `&` to the map may.
use base.Fml.{Lft}
use base.Shift.{Keyless}
use denote.RawPtr.{Ptr}
use denote.Struct.Struct.{exits_of}
use denote.Struct.Owning.{shape, fields, to}
use denote.Param.Send.{IsSend, AllSend, owning_send, struct_send, sendable}
use Rattle.std.proofs.Common.{Option, Some, None}
use Rattle.std_alloc.proofs.SendSync.{quiet, seen}
use Rattle.art_c.specs.Handles.{held_row}
use Rattle.art_c.specs.Views.{seen_behind}
use Rattle.art_c.proofs.held.Held.TheSendSync.{the_sync as held_sync}
use Rattle.art_c.specs.contracts.view.View.{the_row, the_type}

behind : (life : Lft) (p : Ptr) (held : Option held_row.Denot) → Keyless (seen_behind held_row life p held)
behind life p None = tt
behind life p (Some x) = (tt, seen held_row held_sync p x life)

pub send : IsSend the_row
send =
    let all : AllSend (fields the_type) = (search sendable, tt) in
    owning_send the_type all (λ d. (tt, behind d.life d.ptr d.seen))
    (λ k. quiet (to the_type) (exits_of k (fields the_type)) ((struct_send (shape the_type) all).leaving k))
