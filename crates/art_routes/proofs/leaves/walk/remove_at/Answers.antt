use Rattle.art_routes.proofs.LeafNames.{Ascend, IsLeft, NeedsNode, OpaqueNodePtr, ap, are-entries, entries_of, leaf_at, leaf_key, list-same, list-without, on_err_always, slab_key, subst, sym, texts_of, without_text, ◌∙◌, ◌∷◌}
use Rattle.art_routes.specs.Keys.{key_text}
use Rattle.art_routes.specs.Networks.{Block}
use Rattle.art_routes.proofs.CalledLemmas.{held-slot}
use Rattle.art_routes.proofs.SplitLemmas.{behind-ascend, entry-at, holds-on, without-here}
use Rattle.art_routes.proofs.leaves.walk.remove_at.Goals as goal

pub returns-in_err-entry-clause-same_entries : goal.returns-in_err-entry-clause-same_entries
returns-in_err-entry-clause-same_entries g c =
    let old = c.args.tree.now.arena in
    let (leaf, there) = held-slot (leaf_at old (slab_key c.args.leaf)) c.requires in
    on_err_always c.from_residual.result _ (list-same key_text old c.remove_leaf.new.self.arena (c.in_err-entry.ensures leaf there).same_entries)

pub returns-clause-removed : goal.returns-clause-removed
returns-clause-removed g c = λ before entry after next cut first.
    let old = c.args.tree.now.arena in
    let new = c.remove_leaf.new.self.arena in
    let is = entry-at old (slab_key c.args.leaf) entry after cut.1 in
    let left = subst (λ e. IsLeft key_text old new (key_text e.0)) (sym is) (c.in_ok-entry.ensures cut.1.0 cut.1.2).left in
    let ascend = subst (λ es. Ascend (texts_of key_text es)) cut.0 (are-entries key_text old).ascending in (
      list-without key_text old new (key_text entry.0) left.gone left.others ∙ ap (λ es. without_text key_text es (key_text entry.0)) cut.0 ∙ without-here key_text before entry after ascend,
      holds-on key_text old new entry left.leaves next after (behind-ascend key_text before (entry ∷ after) ascend) first,
    )

pub returns-in_err-entry-clause-needs_node : goal.returns-in_err-entry-clause-needs_node
returns-in_err-entry-clause-needs_node g c = λ before entry after cut.
    let old = c.args.tree.now.arena in
    let new = c.remove_leaf.new.self.arena in
    let took = c.in_err-entry.ensures cut.1.0 cut.1.2 in
    let is = entry-at old (slab_key c.args.leaf) entry after cut.1 in
    let needs = c.removals_need_nodes.ensures (key_text (leaf_key cut.1.0)) took.refused in
    on_err_always c.from_residual.result _
    (subst (λ entries. NeedsNode (OpaqueNodePtr Block g.row.V.Denot 20) (texts_of key_text entries) (key_text entry.0)) (sym (list-same key_text old new took.same_entries))
    (subst (λ e. NeedsNode (OpaqueNodePtr Block g.row.V.Denot 20) (texts_of key_text (entries_of key_text old)) (key_text e.0)) (sym is) needs))
