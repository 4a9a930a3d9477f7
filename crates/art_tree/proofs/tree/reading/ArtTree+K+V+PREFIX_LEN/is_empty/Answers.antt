use Rattle.art_tree.proofs.Names.{IsTrue, subst, IsEmpty}
use Rattle.art_steps.proofs.SharedLemmas.DictionaryLemmas.{empty-if-none}
use Rattle.art_tree.proofs.RemoveLemmas.FoundLeaves.{some-entry}
use Rattle.art_tree.proofs.tree.reading.ArtTree+K+V+PREFIX_LEN.is_empty.Goals as goal

pub returns : goal.returns
returns g c =
    let text = g.K.AsBytes.text in
    let both = empty-if-none text c.self.inside.arena (some-entry text c.self.inside.arena) c.self.inside.root c.self.invariant.0 c.is_none.result c.is_none.ensures in
    subst (λ seen. (IsTrue c.is_none.result → IsEmpty text seen.arena) × (IsEmpty text seen.arena → IsTrue c.is_none.result)) c.self.view_is both
