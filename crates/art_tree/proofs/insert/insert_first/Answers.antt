use Rattle.art_tree.proofs.Names.{◌≡◌, ◌∙◌, ap, sym, subst, arith, leaf_key, leaf_value, Leaf, IsAlone, leaf_pointer, LeafKind}
use Rattle.art_tree.proofs.InsertLemmas.FirstEntry.{first-alone, first-entered}
use Rattle.art_tree.proofs.InsertLemmas.NeededNodes.{first-lacks, first-memory}
use Rattle.art_steps.proofs.SharedLemmas.RoomLemmas.{none-left}
use Rattle.art_tree.proofs.SharedLemmas.TreeLaws.{apart-there}
use Rattle.art_tree.proofs.insert.insert_first.Goals as goal

pub returns-in-Ok : goal.returns-in-Ok
returns-in-Ok g c =
    let text = g.K.AsBytes.text in
    let old = c.args.arena.now in
    let new = c.allocate_node_ptr.new.self in
    let leaf = c.with_no_siblings in
    let alone = first-alone text old new c.args.key c.args.value c.requires.empty c.in-Ok.leaf leaf.result c.in-Ok.ensures.added leaf.ensures.key leaf.ensures.value c.requires.short leaf.ensures.previous leaf.ensures.next in
    record {
      art = (Leaf (leaf_pointer c.in-Ok.leaf) (text c.args.key), subst (λ root. IsAlone text new root (Leaf (leaf_pointer c.in-Ok.leaf) (text c.args.key))) (sym c.to_opaque.ensures) alone);
      leaf = record { leaf = leaf.result; is_held = c.in-Ok.ensures.added.changed; key = leaf.ensures.key; value = leaf.ensures.value };
      entered = first-entered text old new c.args.key c.args.value c.requires.empty c.in-Ok.leaf leaf.result c.in-Ok.ensures.added leaf.ensures.key leaf.ensures.value alone (apart-there alone);
      entry_back = tt;
      nodes_kept = tt;
      no_room = tt;
      memory = first-memory text old new c.args.key c.requires.empty c.requires.short (λ some. c.allocate_node_ptr.ensures.no_growth (omega (arith, some))) c.allocate_node_ptr.ensures.other_capacity;
    }

pub returns-in-Err : goal.returns-in-Err
returns-in-Err g c =
    let text = g.K.AsBytes.text in
    let old = c.args.arena.now in
    let key : c.into_entry.result.0 ≡ c.args.key = c.into_entry.ensures.key ∙ ap leaf_key c.in-Err.ensures.node_back ∙ c.with_no_siblings.ensures.key in
    let value : c.into_entry.result.1 ≡ c.args.value = c.into_entry.ensures.value ∙ ap leaf_value c.in-Err.ensures.node_back ∙ c.with_no_siblings.ensures.value in
    let entry : c.into_entry.result ≡ (c.args.key, c.args.value) = ap (λ k. (k, c.into_entry.result.1)) key ∙ ap (λ v. (c.args.key, v)) value in
    record {
      art = tt;
      leaf = tt;
      entered = tt;
      entry_back = entry;
      nodes_kept = c.in-Err.ensures.nodes_kept;
      no_room = (LeafKind, first-lacks text old c.requires.empty (text c.args.key) c.requires.short (none-left c.allocate_node_ptr.result _ (λ some. c.allocate_node_ptr.ensures.succeeds (omega (arith, some))) _ c.in-Err.is));
      memory = first-memory text old c.allocate_node_ptr.new.self c.args.key c.requires.empty c.requires.short (λ some. c.allocate_node_ptr.ensures.no_growth (omega (arith, some))) c.allocate_node_ptr.ensures.other_capacity;
    }
