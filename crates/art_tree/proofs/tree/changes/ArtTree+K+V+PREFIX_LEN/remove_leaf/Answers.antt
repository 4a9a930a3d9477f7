use Rattle.art_tree.proofs.Names.{◌∙◌, ℕ, List, ap, subst, leaf_key, leaf_value, slab_key, leaf_at, entry_at, IsArt, IsFound, IsLeafOf, TakesEntry, leaf-pointer-fits, spot-fits}
use Rattle.art_tree.proofs.SharedLemmas.LentValue.{leaf-there}
use Rattle.art_tree.proofs.RemoveLemmas.FoundLeaves.{key-read}
use Rattle.art_tree.proofs.RemoveLemmas.TakenEntries.{finds, leaf-entry}
use Rattle.art_tree.proofs.tree.changes.ArtTree+K+V+PREFIX_LEN.remove_leaf.Goals as goal

pub unwrap-path-requires : goal.unwrap-path-requires
unwrap-path-requires g c =
    let text = g.K.AsBytes.text in
    let old = c.args.self.now in
    let at = slab_key c.args.ptr in
    let (leaf, there) = leaf-there old.arena at c.requires in
    let same = c.as_bytes-key.ensures.text ∙ key-read text (leaf_at c.self.inside.arena at) leaf c.as_key_ref.result.now (ap (λ seen. leaf_at seen.arena at) c.self.view_is ∙ there) c.as_key_ref.ensures in
    let art = subst (λ seen. IsArt text seen.arena seen.root) c.self.view_is c.self.invariant.0 in
    finds text old c.as_bytes-key.result.now (leaf_key leaf, leaf_value leaf) c.find.result (ap (entry_at text old.arena) same ∙ leaf-entry text old.arena old.root art at leaf there) c.find.ensures

pub remove_found-requires : goal.remove_found-requires
remove_found-requires g c =
    let text = g.K.AsBytes.text in
    let place : (x : List ℕ) × IsLeafOf text c.args.self.now c.unwrap-path.result.0 c.unwrap-path.result.1 x = (c.as_bytes-key.result.now, subst (IsFound text c.args.self.now c.as_bytes-key.result.now) c.unwrap-path.ensures c.find.ensures) in
    assumption (leaf-pointer-fits, spot-fits)

pub returns : goal.returns
returns g c = λ leaf there.
    let text = g.K.AsBytes.text in
    let at = slab_key c.args.ptr in
    let same = c.as_bytes-key.ensures.text ∙ key-read text (leaf_at c.self.inside.arena at) leaf c.as_key_ref.result.now (ap (λ seen. leaf_at seen.arena at) c.self.view_is ∙ there) c.as_key_ref.ensures in
    let found = subst (IsFound text c.args.self.now c.as_bytes-key.result.now) c.unwrap-path.ensures c.find.ensures in
    subst (λ x. TakesEntry text c.args.self.now c.remove_found.new.self x c.remove_found.result) same (c.remove_found.ensures c.as_bytes-key.result.now found)
