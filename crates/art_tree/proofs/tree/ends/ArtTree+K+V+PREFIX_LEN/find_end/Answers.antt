use Rattle.art_tree.proofs.Names.{◌∙◌, ap, sym, subst, Some, IsArt, entry_at, HasTree, IsEndFound, leaf-pointer-fits, spot-fits}
use Rattle.art_steps.proofs.SharedLemmas.DictionaryLemmas.{empty-entry}
use Rattle.art_tree.proofs.RemoveLemmas.FoundLeaves.{end-found-there}
use Rattle.art_tree.proofs.tree.ends.ArtTree+K+V+PREFIX_LEN.find_end.Goals as goal

pub returns-in_err-root : goal.returns-in_err-root
returns-in_err-root g c =
    let text = g.K.AsBytes.text in
    let nothing = subst (IsArt text c.self.inside.arena) c.in_err-root.was c.self.invariant.0 in
    subst (IsEndFound text c.args.self.now c.args.end) (sym c.from_residual.ensures) (λ key. ap (λ seen. entry_at text seen.arena key) (sym c.self.view_is) ∙ empty-entry text c.self.inside.arena nothing key)

pub end_place-requires : goal.end_place-requires
end_place-requires g c =
    let (tree, alone) = subst (IsArt g.K.AsBytes.text c.self.inside.arena) c.in_ok-root.was c.self.invariant.0 in
    let there : HasTree g.K.AsBytes.text c.self.inside.arena c.in_ok-root.root = (tree, alone.is_tree) in
    assumption (leaf-pointer-fits, spot-fits)

pub returns : goal.returns
returns g c =
    let text = g.K.AsBytes.text in
    let (tree, alone) = subst (IsArt text c.self.inside.arena) c.in_ok-root.was c.self.invariant.0 in
    let (x, at) = c.end_place.ensures.path tree alone.is_tree in
    let (leaf, path) = c.end_place.result in
    subst (λ seen. IsEndFound text seen c.args.end (Some c.end_place.result)) c.self.view_is
    (end-found-there {art = record { arena = c.self.inside.arena; root = c.self.inside.root }} c.in_ok-root.was alone c.args.end leaf path (c.end_place.ensures.at_end tree alone.is_tree) x at)
