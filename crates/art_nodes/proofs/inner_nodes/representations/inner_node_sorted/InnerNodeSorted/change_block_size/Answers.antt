use Rattle.std.proofs.Common.{length, arith, ap, ◌∙◌}
use Rattle.art_nodes.proofs.SortedLemmas.{length-zip}
use Rattle.art_nodes.proofs.inner_nodes.representations.inner_node_sorted.InnerNodeSorted.change_block_size.Goals as goal

pub copy_of-requires : goal.copy_of-requires
copy_of-requires g c =
    let count = length-zip _ _ c.self.invariant.beside in
    omega (arith, c.requires, ap (λ n. length n.children) c.self.view_is, count, ap length c.deref.ensures.0)

pub invariant_of-result : goal.invariant_of-result
invariant_of-result g c =
    let was = c.self.invariant in
    let header = rw c.unwrap.ensures at c.clone.ensures.cases in
    rw (header, c.copy_of.ensures ∙ c.deref.ensures.0, c.copy_of-2.ensures ∙ c.deref-2.ensures.0) (record {
      ascending = was.ascending;
      beside = was.beside;
      counted = was.counted;
      sound = record { ascending = was.sound.ascending; fits = rw (← c.self.view_is) at c.requires; capped_prefix = was.sound.capped_prefix };
    })
