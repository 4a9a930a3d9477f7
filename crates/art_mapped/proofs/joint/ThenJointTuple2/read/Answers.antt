use Rattle.std.proofs.Common.{◌≡◌, length, arith}
use Rattle.art_mapped.specs.TupleLaws.{cut, split_both}
use Rattle.art_mapped.proofs.Cuts.{long_enough}
use Rattle.art_mapped.proofs.joint.ThenJointTuple2.read.Goals as goal

pub overflow_sub-bytes : goal.overflow_sub-bytes
overflow_sub-bytes g c =
    let front = g.met.F.Joint.laws in
    let last = g.met.L.Joint.laws in
    omega (arith, long_enough front last c.args.bytes.now c.requires, c.room.ensures)

pub read-requires : goal.read-requires
read-requires g c =
    let front = g.met.F.Joint.laws in
    let last = g.met.L.Joint.laws in
    let x = c.split_at.result.0.now in
    let y = c.split_at.result.1.now in
    let same = c.split_at.ensures.by_index.0 in
    let long : length y ≡ g.L.Joint.width = omega (arith, c.split_at.ensures.back_len, c.room.ensures, long_enough front last c.args.bytes.now c.requires) in
    let sides = cut front last c.args.bytes.now x y c.requires same long in
    sides.0

pub read-requires-2 : goal.read-requires-2
read-requires-2 g c =
    let front = g.met.F.Joint.laws in
    let last = g.met.L.Joint.laws in
    let x = c.split_at.result.0.now in
    let y = c.split_at.result.1.now in
    let same = c.split_at.ensures.by_index.0 in
    let long : length y ≡ g.L.Joint.width = omega (arith, c.split_at.ensures.back_len, c.room.ensures, long_enough front last c.args.bytes.now c.requires) in
    let sides = cut front last c.args.bytes.now x y c.requires same long in
    sides.1

pub returns-clause-inverts : goal.returns-clause-inverts
returns-clause-inverts g c = λ value value_in stands.
    let front = g.met.F.Joint.laws in
    let last = g.met.L.Joint.laws in
    let x = c.split_at.result.0.now in
    let y = c.split_at.result.1.now in
    let long : length y ≡ g.L.Joint.width = omega (arith, c.split_at.ensures.back_len, c.room.ensures, long_enough front last c.args.bytes.now c.requires) in
    let sides = split_both front last c.args.bytes.now x y value value_in.1 stands c.split_at.ensures.by_index.0 long in
    (c.in_ok-value.ensures.inverts value.0 value_in.0 sides.0, c.in_ok-read.ensures.inverts value.1 value_in.1 sides.1)
