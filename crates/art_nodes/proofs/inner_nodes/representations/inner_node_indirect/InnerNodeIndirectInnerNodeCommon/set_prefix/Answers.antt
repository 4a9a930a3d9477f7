use Rattle.art_nodes.proofs.inner_nodes.representations.inner_node_indirect.InnerNodeIndirectInnerNodeCommon.set_prefix.Goals as goal

pub invariant_of-self : goal.invariant_of-self
invariant_of-self g c =
    let was = c.self.invariant in
    let capped = rw c.set_prefix.ensures.prefix at c.set_prefix.ensures.capped in
    rw c.set_prefix.ensures.prefix (record {
      places = was.places;
      counted = was.counted;
      fits = was.fits;
      named_once = was.named_once;
      beside = was.beside;
      kept = was.kept;
      sound = record { ascending = was.sound.ascending; fits = was.sound.fits; capped_prefix = capped };
    })
