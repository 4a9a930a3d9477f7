use Rattle.std.proofs.Common.{subst}
use Rattle.art_arena.specs.CommonPrefix.{IsSharedFrom}
use Rattle.art_arena.proofs.TreeLemmas.{texts-same}
use Rattle.art_arena.proofs.laws.same_trees_have_the_same_texts.Goals as goal

pub returns-clause-texts : goal.returns-clause-texts
returns-clause-texts g c = λ tree other same. texts-same tree other same

pub returns-clause-shared : goal.returns-clause-shared
returns-clause-shared g c = λ tree other depth shared same is. subst (λ found. IsSharedFrom depth found shared) (texts-same tree other same) is
