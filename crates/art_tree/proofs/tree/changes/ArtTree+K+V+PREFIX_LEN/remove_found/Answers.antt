use Rattle.art_tree.proofs.Names.{◌∙◌, ℕ, List, ap, sym, subst, refl, IsSome, IsLeafOf, ReachesLeaf, TakesEntry, leaf-pointer-fits, spot-fits}
use Rattle.art_tree.proofs.RemoveLemmas.FoundLeaves.{reaches-in}
use Rattle.art_tree.proofs.RemoveLemmas.TakenEntries.{at-err, refused, refused-invariant, taken-invariant, taken-seen}
use Rattle.art_tree.proofs.tree.changes.ArtTree+K+V+PREFIX_LEN.remove_found.Goals as goal

pub unwrap-requires : goal.unwrap-requires
unwrap-requires g c =
    let (x, at) = c.requires in
    subst IsSome (sym (ap (λ seen. seen.root) c.self.view_is ∙ at.is_root)) refl

pub remove_leaf-requires : goal.remove_leaf-requires
remove_leaf-requires g c =
    let text = g.K.AsBytes.text in
    let (x, at) = c.requires in
    let inside = subst (λ seen. IsLeafOf text seen c.args.leaf c.args.path x) (sym c.self.view_is) at in
    let place : (x : List ℕ) × ReachesLeaf text c.self.inside.arena c.unwrap.result c.args.leaf c.args.path x = (x, reaches-in inside c.unwrap.result c.unwrap.ensures) in
    assumption (leaf-pointer-fits, spot-fits)

pub invariant_of-self : goal.invariant_of-self
invariant_of-self g c =
    let text = g.K.AsBytes.text in
    let (x, at) = c.requires in
    let inside = subst (λ seen. IsLeafOf text seen c.args.leaf c.args.path x) (sym c.self.view_is) at in
    refused-invariant text (record { arena = c.self.inside.arena; root = c.self.inside.root }) (record { arena = c.remove_leaf.new.arena; root = c.self.inside.root }) c.unwrap.result c.unwrap.ensures c.self.invariant.0 x g.K.AsBytes.is_key c.self.invariant.1 refl _
    (c.in_err-root.ensures x (reaches-in inside c.unwrap.result c.unwrap.ensures))

pub invariant_of-self-2 : goal.invariant_of-self-2
invariant_of-self-2 g c =
    let text = g.K.AsBytes.text in
    let (x, at) = c.requires in
    let inside = subst (λ seen. IsLeafOf text seen c.args.leaf c.args.path x) (sym c.self.view_is) at in
    taken-invariant text (record { arena = c.self.inside.arena; root = c.self.inside.root }) (record { arena = c.remove_leaf.new.arena; root = c.in_ok-root.root }) c.unwrap.result c.unwrap.ensures c.self.invariant.0 x g.K.AsBytes.is_key c.self.invariant.1 c.in_ok-root.entry
    (c.in_ok-root.ensures x (reaches-in inside c.unwrap.result c.unwrap.ensures))

pub returns-in_err-root : goal.returns-in_err-root
returns-in_err-root g c = λ x at.
    let text = g.K.AsBytes.text in
    let inside = subst (λ seen. IsLeafOf text seen c.args.leaf c.args.path x) (sym c.self.view_is) at in
    subst (λ seen. TakesEntry text seen (record { arena = c.remove_leaf.new.arena; root = c.self.inside.root }) x c.from_residual.result) c.self.view_is
    (at-err (TakesEntry text (record { arena = c.self.inside.arena; root = c.self.inside.root }) (record { arena = c.remove_leaf.new.arena; root = c.self.inside.root }) x)
    (refused text (record { arena = c.self.inside.arena; root = c.self.inside.root }) (record { arena = c.remove_leaf.new.arena; root = c.self.inside.root }) c.unwrap.result c.unwrap.ensures c.self.invariant.0 x refl _ (c.in_err-root.ensures x (reaches-in inside c.unwrap.result c.unwrap.ensures)))
    c.from_residual.result c.from_residual.ensures.0)

pub returns : goal.returns
returns g c = λ x at.
    let text = g.K.AsBytes.text in
    let inside = subst (λ seen. IsLeafOf text seen c.args.leaf c.args.path x) (sym c.self.view_is) at in
    taken-seen text (record { arena = c.self.inside.arena; root = c.self.inside.root }) (record { arena = c.remove_leaf.new.arena; root = c.in_ok-root.root }) c.unwrap.result c.unwrap.ensures c.self.invariant.0 x c.args.self.now c.self.view_is c.in_ok-root.entry
    (c.in_ok-root.ensures x (reaches-in inside c.unwrap.result c.unwrap.ensures))
