use Rattle.art_mapped.proofs.Answered.{some_exactly}
use Rattle.art_mapped.proofs.element.SingleBytesMapping.is_value.Goals as goal

pub returns : goal.returns
returns g c = some_exactly _ _ c.decode.result c.is_some.result c.is_some.ensures c.decode.ensures.some c.decode.ensures.none
