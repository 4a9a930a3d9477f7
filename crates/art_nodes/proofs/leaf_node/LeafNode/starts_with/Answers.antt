-- The result is whether the bytes are a prefix of the key's text.
use Rattle.std.proofs.Common.{◌≡◌, drop, length, sym, ◌∙◌}
use Rattle.std.proofs.lemmas.Bool.Decides.{Decides-eqb}
use Rattle.std.proofs.lemmas.Slice.Eq.{starts_is}
use Rattle.art_nodes.proofs.leaf_node.LeafNode.starts_with.Goals as goal

pub returns : goal.returns
returns g c =
    let whole = c.as_bytes.result.now in
    let told = starts_is Decides-eqb whole c.args.key.now c.starts_with.result c.starts_with.ensures.value in
    let text_is : whole ≡ g.K.AsBytes.text c.args.self.now.key = c.as_bytes.ensures.text in
    (λ yes. (drop (length c.args.key.now) whole, sym text_is ∙ told.0 yes), λ front. told.1 front.0 (text_is ∙ front.1))
