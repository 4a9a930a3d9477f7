use Rattle.art_tree.proofs.Names.{◌≡◌, ◌≤◌, length, vec_capacity, ◌∙◌, sym, subst, arith, vec_len, room, AreLoadable, IsPlanOf, leaf_texts, AreLeavesOf, LeafKind, leaf-pointer-fits, prepared-fits}
use Rattle.art_tree.proofs.LoadLemmas.LeafLists.{hold-count, hold-texts}
use Rattle.art_tree.proofs.LoadLemmas.ReloadedTree.{leaves-distinct, leaves-held, leaves-loadable, leaves-some, reloaded}
use Rattle.art_tree.proofs.loading.reloading.reload.Goals as goal

pub prepare-requires : goal.prepare-requires
prepare-requires g c =
    let is : AreLeavesOf g.K.AsBytes.text c.args.old.now c.args.root c.deref.result.now = subst (AreLeavesOf g.K.AsBytes.text c.args.old.now c.args.root) (sym c.deref.ensures.value) c.in_ok-leaves.ensures in
    let loadable = leaves-loadable is in
    let some = leaves-some is in
    let there = leaves-held is in
    assumption (leaf-pointer-fits, prepared-fits)

pub take_entries-requires : goal.take_entries-requires
take_entries-requires g c =
    let is : AreLeavesOf g.K.AsBytes.text c.args.old.now c.args.root c.deref-2.result.now = subst (AreLeavesOf g.K.AsBytes.text c.args.old.now c.args.root) (sym c.deref-2.ensures.value) c.in_ok-leaves.ensures in
    let there = leaves-held is in
    let distinct = leaves-distinct is in
    let memory : length c.deref-2.result.now ≤ vec_capacity c.in_ok-entries.entries = omega (arith, c.len.ensures, c.deref-2.ensures.len, c.in_ok-entries.ensures.capacity) in
    assumption (leaf-pointer-fits, prepared-fits, c.in_ok-entries.ensures.items)

pub make-requires : goal.make-requires
make-requires g c =
    let text = g.K.AsBytes.text in
    let old = c.args.old.now in
    let entries = c.take_entries.new.entries.items in
    let steps = c.in_ok-prepared.prepared.steps.items in
    let is : AreLeavesOf g.K.AsBytes.text c.args.old.now c.args.root c.deref-2.result.now = subst (AreLeavesOf g.K.AsBytes.text c.args.old.now c.args.root) (sym c.deref-2.ensures.value) c.in_ok-leaves.ensures in
    let texts = hold-texts text old c.deref-2.result.now entries c.take_entries.ensures in
    let count = hold-count old c.deref-2.result.now entries c.take_entries.ensures in
    let loadable = subst AreLoadable texts (leaves-loadable is) in
    let plan = subst (λ xs. IsPlanOf xs steps) texts (subst (λ leaves. IsPlanOf (leaf_texts text old leaves) steps) (c.deref.ensures.value ∙ sym c.deref-2.ensures.value) c.in_ok-prepared.ensures.plan) in
    let long : vec_len c.take_entries.new.entries ≡ length c.deref.result.now = omega (arith, count, c.deref.ensures.len, c.deref-2.ensures.len, c.take_entries.new.entries.ok.0) in
    let leaves : vec_len c.take_entries.new.entries ≤ vec_capacity c.in_ok-prepared.prepared.leaves = omega (arith, long, c.in_ok-prepared.ensures.leaves.1) in
    let pending : vec_len c.take_entries.new.entries ≤ vec_capacity c.in_ok-prepared.prepared.pending = omega (arith, long, c.in_ok-prepared.ensures.pending.1) in
    let rooms : vec_len c.take_entries.new.entries ≤ room c.prepare.new.arena LeafKind = omega (arith, long, c.in_ok-prepared.ensures.leaf_room) in
    assumption (leaf-pointer-fits, prepared-fits, c.in_ok-prepared.ensures.leaves.0, c.in_ok-prepared.ensures.pending.0, c.in_ok-prepared.ensures.room)

pub returns-clause-reloaded : goal.returns-clause-reloaded
returns-clause-reloaded g c =
    let is : AreLeavesOf g.K.AsBytes.text c.args.old.now c.args.root c.deref-2.result.now = subst (AreLeavesOf g.K.AsBytes.text c.args.old.now c.args.root) (sym c.deref-2.ensures.value) c.in_ok-leaves.ensures in
    let (tree, loaded) = c.make.ensures in
    reloaded is c.take_entries.new.entries.items c.take_entries.ensures c.prepare.new.arena c.make.new.arena (λ pointer. c.in_ok-prepared.ensures.nodes_kept pointer ∙ c.requires.empty pointer) c.make.result tree loaded
