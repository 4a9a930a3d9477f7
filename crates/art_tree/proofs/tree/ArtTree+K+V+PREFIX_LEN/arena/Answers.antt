use Rattle.art_tree.proofs.Names.{subst, IsArt, HasKeys}
use Rattle.art_tree.proofs.tree.ArtTree+K+V+PREFIX_LEN.arena.Goals as goal

pub returns-clause-keys : goal.returns-clause-keys
returns-clause-keys g c = subst (λ seen. HasKeys g.K.AsBytes.text g.K.AsBytes.is_key seen.arena) c.self.view_is c.self.invariant.1

pub returns-clause-one_tree : goal.returns-clause-one_tree
returns-clause-one_tree g c = subst (λ seen. IsArt g.K.AsBytes.text seen.arena seen.root) c.self.view_is c.self.invariant.0
