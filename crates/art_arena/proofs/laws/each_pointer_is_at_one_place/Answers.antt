use Rattle.art_arena.proofs.TreeLaws.{places-apart}
use Rattle.art_arena.proofs.laws.each_pointer_is_at_one_place.Goals as goal

pub returns : goal.returns
returns g c = places-apart g.K.AsBytes.text
