use Rattle.art_mapped.proofs.mapped.MappedOver.get.Goals as goal
use Rattle.art_mapped.specs.MappingLaws.{stands_for_some}

pub from_bytes-requires : goal.from_bytes-requires
from_bytes-requires g c = stands_for_some g.met.B.BytesMapping.holds_value c.args.self.repr c.args.self.of_a_value
