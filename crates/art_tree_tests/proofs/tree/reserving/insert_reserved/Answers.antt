use Rattle.std.proofs.Common.{◌≡◌, ◌≢◌, Result, Ok, Err, IfErr, arith}
use Rattle.art_header.specs.declared.node_type.NodeType.{NodeType}
use Rattle.art_steps.specs.Room.{LacksRoomToInsert}
use Rattle.art_steps.specs.declared.faults.InsertRefusal.TheVariants.{OutOfMemory}
use Rattle.art_tree_tests.proofs.tree.reserving.insert_reserved.Goals as goal

each-error : {A E : Type 0} (P Q : E → Type 0) → ((e : E) → P e → Q e) → (r : Result A E) → IfErr r P → IfErr r Q
each-error P Q implies (Ok a) is = tt
each-error P Q implies (Err e) is = implies e is

pub returns : goal.returns
returns g c =
    let text = g.K.AsBytes.text in
    let now = c.reserve_one_of_each.new.tree in
    each-error (λ fault. fault.refusal ≡ OutOfMemory → (kind : NodeType) × LacksRoomToInsert text now.arena now.root (text c.args.key) kind) (λ fault. fault.refusal ≢ OutOfMemory)
    (λ fault lacks is. let (kind, lack) = lacks is in omega (arith, lack.none, c.in_ok-reserve_one_of_each.ensures.room kind)) c.insert.result c.insert.ensures.no_room
