use Rattle.art_tree.proofs.SharedLemmas.ClashLemmas.{never-clash, never-clash-in}
use Rattle.art_tree.proofs.laws.keys_without_prefixes_never_clash.Goals as goal

pub returns-clause-keys : goal.returns-clause-keys
returns-clause-keys g c = λ keys key all is. never-clash g.K.AsBytes.text g.K.AsBytes.is_key g.met.K.NoPrefixesBytes.no_prefixes key is keys all

pub returns-clause-entries : goal.returns-clause-entries
returns-clause-entries g c = λ arena key keys is. never-clash-in g.K.AsBytes.text g.K.AsBytes.is_key g.met.K.NoPrefixesBytes.no_prefixes key is arena keys
