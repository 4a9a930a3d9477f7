use Rattle.std.proofs.Common.{◌≡◌}
use Rattle.std.proofs.lemmas.List.Elements.{All-contains}
use Rattle.art_arena.specs.Arena.{held}
use Rattle.art_arena.specs.Standing.{leaf_text}
use Rattle.art_arena.specs.Trees.{places}
use Rattle.art_arena.proofs.PlaceLemmas.{stands-where_kept}
use Rattle.art_arena.proofs.laws.trees_stand_where_their_nodes_are_kept.Goals as goal

pub returns : goal.returns
returns g c = λ old new tree kept stands. stands-where_kept g.row.PREFIX_LEN (leaf_text g.K.AsBytes.text) (held old) (held new) tree (λ pointer inside. All-contains (λ p. held new p ≡ held old p) (places tree) pointer kept inside) stands
