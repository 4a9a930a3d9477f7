use Rattle.std.proofs.Common.{◌∙◌}
use Rattle.art_keys.specs.EncodingLaws.{order_of_encodings}
use Rattle.art_keys.specs.HeadLaws.{text_by_head}
use Rattle.art_keys.proofs.laws.heads_sort.Goals as goal

pub returns : goal.returns
returns g c = λ x y skip x_is y_is same less.
    let a = g.K.KeyBytes.encoded x in
    let b = g.K.KeyBytes.encoded y in
    order_of_encodings (g.K.Ord.cmp x y) a b (g.met.K.RadixKey.sorted x y x_is y_is)
    ∙ text_by_head skip a b (g.met.K.RadixKey.are_bytes x x_is) (g.met.K.RadixKey.are_bytes y y_is) same less
