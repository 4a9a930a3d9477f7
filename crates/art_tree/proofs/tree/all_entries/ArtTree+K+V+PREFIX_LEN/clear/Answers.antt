use Rattle.art_steps.proofs.SharedLemmas.DictionaryLemmas.{empty-entry}
use Rattle.art_tree.proofs.SharedLemmas.KeyLemmas.{keys-none}
use Rattle.art_tree.proofs.tree.all_entries.ArtTree+K+V+PREFIX_LEN.clear.Goals as goal

pub invariant_of-self : goal.invariant_of-self
invariant_of-self g c = (c.clear.ensures.empty, keys-none g.K.AsBytes.text g.K.AsBytes.is_key c.clear.new.self (empty-entry g.K.AsBytes.text c.clear.new.self c.clear.ensures.empty))

pub returns-clause-no_entry : goal.returns-clause-no_entry
returns-clause-no_entry g c = λ key. empty-entry g.K.AsBytes.text c.clear.new.self c.clear.ensures.empty key
