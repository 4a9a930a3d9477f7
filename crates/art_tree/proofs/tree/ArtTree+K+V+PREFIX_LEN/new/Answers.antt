use Rattle.art_steps.proofs.SharedLemmas.DictionaryLemmas.{empty-entry}
use Rattle.art_tree.proofs.SharedLemmas.KeyLemmas.{keys-none}
use Rattle.art_tree.proofs.tree.ArtTree+K+V+PREFIX_LEN.new.Goals as goal

pub invariant_of-result : goal.invariant_of-result
invariant_of-result g c = (c.new.ensures.empty, keys-none g.K.AsBytes.text g.K.AsBytes.is_key c.new.result (empty-entry g.K.AsBytes.text c.new.result c.new.ensures.empty))

pub returns-clause-no_entry : goal.returns-clause-no_entry
returns-clause-no_entry g c = λ key. empty-entry g.K.AsBytes.text c.new.result c.new.ensures.empty key
