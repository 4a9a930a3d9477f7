use Rattle.std.proofs.Common.{◌∙◌, sym, subst}
use Rattle.art_arena.specs.CommonPrefix.{IsSharedFrom}
use Rattle.art_arena.proofs.BelowLemmas.{shared-under}
use Rattle.art_arena.proofs.TreeLemmas.{texts-same}
use Rattle.art_arena.proofs.laws.same_trees_match_alike.Goals as goal

pub returns : goal.returns
returns g c = λ arena other_arena node other depth key found other_found under other_under same is other_is.
    let (shared, shares) = shared-under g.K.AsBytes.text arena node depth under in
    let other_shares = subst (λ all. IsSharedFrom depth all shared) (texts-same under.tree other_under.tree same) shares in
    is shared shares ∙ sym (other_is shared other_shares)
