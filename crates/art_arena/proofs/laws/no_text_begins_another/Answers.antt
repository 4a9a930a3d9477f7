use Rattle.art_arena.proofs.TreeLemmas.{texts-apart}
use Rattle.art_arena.proofs.laws.no_text_begins_another.Goals as goal

pub returns : goal.returns
returns g c = λ path tree sound. texts-apart path tree sound
