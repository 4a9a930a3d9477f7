use Rattle.std.proofs.Common.{rules}
use Rattle.art_mapped.proofs.joint.ThenJointTuple2.room.Goals as goal

pub returns : goal.returns
returns g c = search rules
