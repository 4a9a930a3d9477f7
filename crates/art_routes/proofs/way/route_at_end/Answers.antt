use Rattle.std.proofs.Common.{◌∙◌, subst, sym}
use Rattle.art_routes.specs.Networks.{IsNetwork}
use Rattle.art_routes.proofs.way.route_at_end.Goals as goal

pub returns-in-LeafNode-clause-found : goal.returns-in-LeafNode-clause-found
returns-in-LeafNode-clause-found g c = record {
  child = c.in_ok-child.child;
  end = c.in_ok-child.ensures.some;
  leaf = c.in-LeafNode.leaf.now;
  held_there = c.in-LeafNode.ensures.node;
  network = sym (c.network_from.ensures.network ∙ c.key_ref.ensures);
  value = sym c.value_ref.ensures;
  is_network = subst IsNetwork (sym c.network_from.ensures.network) c.network_from.ensures.is;
}
