use Rattle.art_arena.specs.Arena.{held}
use Rattle.art_arena.specs.Standing.{leaf_text}
use Rattle.art_arena.proofs.PlaceLemmas.{stands-on}
use Rattle.art_arena.proofs.laws.trees_stand_where_all_is_kept.Goals as goal

pub returns : goal.returns
returns g c = λ old new tree kept stands. stands-on g.row.PREFIX_LEN (leaf_text g.K.AsBytes.text) (held old) (held new) kept tree stands
