use Rattle.art_tree.proofs.Names.{◌∙◌, ap, sym, subst, IsArt, IsTreeIn, entry_at, IsFound}
use Rattle.art_steps.proofs.SharedLemmas.DictionaryLemmas.{empty-entry}
use Rattle.art_tree.proofs.RemoveLemmas.FoundLeaves.{search-found}
use Rattle.art_tree.proofs.tree.reading.ArtTree+K+V+PREFIX_LEN.find.Goals as goal

pub returns-in_err-root : goal.returns-in_err-root
returns-in_err-root g c =
    let text = g.K.AsBytes.text in
    let nothing = subst (IsArt text c.self.inside.arena) c.in_err-root.was c.self.invariant.0 in
    subst (IsFound text c.args.self.now c.args.key.now) (sym c.from_residual.ensures) (ap (λ seen. entry_at text seen.arena c.args.key.now) (sym c.self.view_is) ∙ empty-entry text c.self.inside.arena nothing c.args.key.now)

pub returns : goal.returns
returns g c =
    let text = g.K.AsBytes.text in
    let root = c.in_ok-root.root in
    let (tree, alone) = subst (IsArt text c.self.inside.arena) c.in_ok-root.was c.self.invariant.0 in
    let read = subst (λ arena. IsTreeIn text arena root tree) (sym c.with_budget-reader.ensures.arena) alone.is_tree in
    subst (λ seen. IsFound text seen c.args.key.now c.find_leaf.result) c.self.view_is
    (search-found {art = record { arena = c.self.inside.arena; root = c.self.inside.root }} c.in_ok-root.was alone c.find_leaf.result c.args.key.now (c.find_leaf.ensures.answer tree read) (c.find_leaf.ensures.path tree read))
