use Rattle.std.proofs.Common.{◌≡◌, length, true, false, sym, ◌∙◌, arith}
use Rattle.art_mapped.specs.TupleLaws.{cut, joined_again}
use Rattle.art_mapped.proofs.Cuts.{long_enough}
use Rattle.art_mapped.proofs.joint.ThenJointTuple2.is_value.Goals as goal

pub returns-then-bytes-width : goal.returns-then-bytes-width
returns-then-bytes-width g c =
    let front = g.met.F.Joint.laws in
    let last = g.met.L.Joint.laws in
    (λ yes. let clash : false ≡ true = yes in cc, λ some. absurd (omega (arith, long_enough front last c.args.bytes.now some, c.if-bytes-width.true, c.room-width.ensures)))

pub returns-then-is_value : goal.returns-then-is_value
returns-then-is_value g c =
    let front = g.met.F.Joint.laws in
    let last = g.met.L.Joint.laws in
    let x = c.split_at.result.0.now in
    let y = c.split_at.result.1.now in
    let same = c.split_at.ensures.by_index.0 in
    let long : length y ≡ g.L.Joint.width = omega (arith, c.split_at.ensures.back_len, c.room-width.ensures, c.if-bytes-width.false) in (
      λ yes. joined_again front last c.args.bytes.now x y (c.is_value.ensures.0 c.if-is_value.true) (c.is_value-then-is_value.ensures.0 yes) same,
      λ some. let sides = cut front last c.args.bytes.now x y some same long in c.is_value-then-is_value.ensures.1 sides.1,
    )

pub returns-else-is_value : goal.returns-else-is_value
returns-else-is_value g c =
    let front = g.met.F.Joint.laws in
    let last = g.met.L.Joint.laws in
    let x = c.split_at.result.0.now in
    let y = c.split_at.result.1.now in
    let same = c.split_at.ensures.by_index.0 in
    let long : length y ≡ g.L.Joint.width = omega (arith, c.split_at.ensures.back_len, c.room-width.ensures, c.if-bytes-width.false) in
    (λ yes. let clash : false ≡ true = sym c.if-is_value.false ∙ yes in cc, λ some. let sides = cut front last c.args.bytes.now x y some same long in c.is_value.ensures.1 sides.0)
