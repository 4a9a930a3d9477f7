use Rattle.art_steps.proofs.Names.{◌∙◌, lit<, sym, shown, inner-there, is-some}
use Rattle.art_steps.proofs.removed_child.other_child.Goals as goal

pub unwrap-node-requires : goal.unwrap-node-requires
unwrap-node-requires g c = is-some c.inner.result (λ none. c.requires.inner (sym c.node_ref.ensures.kind ∙ c.inner.ensures.leaf.0 none))

pub other_child_in-requires : goal.other_child_in-requires
other_child_in-requires g c = (lit< tt, c.requires.two _ (c.node_ref.ensures.node ∙ inner-there (shown c.node_ref.result) c.inner.result c.inner.ensures.node c.unwrap-node.result c.unwrap-node.ensures))
