-- Where the test is true, the text of `prefix` is a prefix of that of `key`, and no key is a proper prefix of another.
use Rattle.std.proofs.Common.{◌≡◌, [], ◌++◌, drop, length, sym, ap, ◌∙◌}
use Rattle.std.proofs.lemmas.Bool.Decides.{Decides-eqb}
use Rattle.std.proofs.lemmas.List.{append-nil}
use Rattle.std.proofs.lemmas.Slice.Eq.{starts_is}
use Rattle.art_bytes.specs.Text.{IsPrefixOf}
use Rattle.art_node_tests.proofs.bytes.has_prefix.Goals as goal

pub returns : goal.returns
returns g c =
    let whole = c.as_bytes.result.now in
    let begun = c.as_bytes-2.result.now in
    let text_of = g.K.AsBytes.text in
    let told = starts_is Decides-eqb whole begun c.starts_with.result c.starts_with.ensures.value in
    let front_is : begun ≡ text_of c.args.prefix.now = c.as_bytes-2.ensures.text in
    let key_is : whole ≡ text_of c.args.key.now = c.as_bytes.ensures.text in (
      λ yes.
          let rest = drop (length begun) whole in
          let front : IsPrefixOf (text_of c.args.prefix.now) (text_of c.args.key.now) = (rest, sym key_is ∙ told.0 yes ∙ ap (λ t. t ++ rest) front_is) in
          sym (g.met.K.NoPrefixesBytes.no_prefixes c.args.prefix.now c.args.key.now c.as_bytes-2.ensures.key c.as_bytes.ensures.key front),
      λ same. told.1 [] (key_is ∙ same ∙ sym front_is ∙ sym (append-nil begun)),
    )
