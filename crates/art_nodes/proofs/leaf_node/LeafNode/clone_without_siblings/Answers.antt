use Rattle.std.proofs.Common.{◌≡◌, ℕ, None, ap, ◌∙◌, rules}
use Rattle.art_nodes.specs.Leaf.{with_links}
use Rattle.art_nodes.specs.declared.leaf_node.LeafNode.{LeafNode}
use Rattle.art_nodes.proofs.leaf_node.LeafNode.clone_without_siblings.Goals as goal

-- a leaf that has no links is one without
unlinked : {K V : Type 0} {P : ℕ} (leaf : LeafNode K V P) → leaf.previous ≡ None → leaf.next ≡ None → leaf ≡ with_links leaf None None
unlinked leaf previous next = ap (λ p. with_links leaf p leaf.next) previous ∙ ap (λ n. with_links leaf None n) next

pub returns-clause-unlinked : goal.returns-clause-unlinked
returns-clause-unlinked g c = unlinked _ (search) (search)

pub returns-clause-equal : goal.returns-clause-equal
returns-clause-equal g c = search rules
