use Rattle.art_tree.proofs.Names.{subst, IsAtPath}
use Rattle.art_tree.proofs.RemoveLemmas.WayContexts.{leaf-child, leaf-normal}
use Rattle.art_tree.proofs.remove.leaf_spot.Goals as goal

pub returns-in-ChildOfRoot-clause-spot : goal.returns-in-ChildOfRoot-clause-spot
returns-in-ChildOfRoot-clause-spot g c = λ tree leaf x way.
    leaf-child tree leaf x c.in-ChildOfRoot.parent c.in-ChildOfRoot.child_key_byte (subst (λ path. IsAtPath tree leaf path x) c.in-ChildOfRoot.is way)

pub returns-in-Normal-clause-spot : goal.returns-in-Normal-clause-spot
returns-in-Normal-clause-spot g c = λ tree leaf x way.
    leaf-normal tree leaf x c.in-Normal.grandparent c.in-Normal.parent_key_byte c.in-Normal.parent c.in-Normal.child_key_byte (subst (λ path. IsAtPath tree leaf path x) c.in-Normal.is way)
