use Rattle.std.proofs.Common.{List, ℕ, subst}
use Rattle.art_keys.specs.Encoding.{SortedBy}
use Rattle.art_keys.specs.EncodingLaws.{order_of_encodings, prefix_ties}
use Rattle.art_keys.proofs.laws.encodings_sort.Goals as goal

pub returns-clause-order : goal.returns-clause-order
returns-clause-order g c = λ x y x_is y_is.
    order_of_encodings (g.K.Ord.cmp x y) (g.K.KeyBytes.encoded x) (g.K.KeyBytes.encoded y) (g.met.K.RadixKey.sorted x y x_is y_is)

pub returns-clause-no_prefix : goal.returns-clause-no_prefix
returns-clause-no_prefix g c = λ x y rest x_is y_is is.
    let Sorts : List ℕ → Type 0 = λ text. SortedBy (g.K.Ord.cmp x y) (g.K.KeyBytes.encoded x) text in
    prefix_ties (g.K.Ord.cmp x y) (g.K.KeyBytes.encoded x) rest (subst Sorts is (g.met.K.RadixKey.sorted x y x_is y_is))
