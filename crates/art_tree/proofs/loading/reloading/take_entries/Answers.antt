use Rattle.art_tree.proofs.Names.{◌≢◌, ◌+◌, get_or, sym, subst, arith, lit<, get_or_default, slab_key, NodePtr, LeafNode, Nothing, HoldsLeaf}
use Rattle.art_tree.proofs.LoadLemmas.ReloadedTree.{IsTaking, all-taken, next-taken, none-taken}
use Rattle.art_tree.proofs.loading.reloading.take_entries.Goals as goal

pub loop-leaf-init : goal.loop-leaf-init
loop-leaf-init g c = record { taking = none-taken c.args.arena.now c.args.leaves.now c.args.entries.now.items c.requires.none; memory = c.requires.memory }

pub deallocate_node_ptr-requires : goal.deallocate_node_ptr-requires
deallocate_node_ptr-requires g c =
    let i = c.loop-leaf.leaf-index in
    let none : NodePtr g.row.PREFIX_LEN (LeafNode g.row.K.Denot g.row.V.Denot g.row.PREFIX_LEN) = record { key = 0; node = record {} } in
    let is_held : HoldsLeaf c.loop-leaf.arena (slab_key (get_or c.args.leaves.now i none)) =
    subst (λ there. there ≢ Nothing) (sym (c.loop-leaf.invariant.taking.kept i none (omega arith) c.loop-leaf-test.true)) (c.requires.held i none c.loop-leaf-test.true) in
    (assumption, (assumption, (assumption, (assumption, (assumption, (lit< tt, is_held))))))

pub push_reserved-requires : goal.push_reserved-requires
push_reserved-requires g c = omega (arith, c.loop-leaf.invariant.memory, c.loop-leaf.invariant.taking.long, c.loop-leaf-test.true, c.loop-leaf.entries.ok.0)

pub loop-leaf-preserved : goal.loop-leaf-preserved
loop-leaf-preserved g c =
    let i = c.loop-leaf.leaf-index in
    let old = c.args.arena.now in
    let of = c.args.leaves.now in
    let none : NodePtr g.row.PREFIX_LEN (LeafNode g.row.K.Denot g.row.V.Denot g.row.PREFIX_LEN) = record { key = 0; node = record {} } in
    let at = get_or of i none in
    let new = c.deallocate_node_ptr.new.self in
    let entries = c.loop-leaf.entries.items in
    record {
      taking = subst (IsTaking old of new (i + 1)) (sym c.push_reserved.ensures.items)
          (next-taken old of c.loop-leaf.arena new i entries at c.deallocate_node_ptr.result c.into_entry-entry.result c.requires.distinct c.loop-leaf.invariant.taking c.loop-leaf-test.true (get_or_default of i at none c.loop-leaf-test.true)
          c.deallocate_node_ptr.ensures.node c.deallocate_node_ptr.ensures.removed c.into_entry-entry.ensures.key c.into_entry-entry.ensures.value);
      memory = omega (arith, c.push_reserved.ensures.capacity, c.loop-leaf.invariant.memory);
    }

pub returns : goal.returns
returns g c = all-taken c.args.arena.now c.args.leaves.now c.loop-leaf.arena c.loop-leaf.entries.items c.loop-leaf.leaf-index (omega (arith, c.loop-leaf-test.false)) c.loop-leaf.invariant.taking
