use Rattle.std.proofs.Common.{◌≡◌, [], sym, subst}
use Rattle.art_keys.specs.EncodingLaws.{sorted_agrees}
use Rattle.std.proofs.lemmas.List.Elements.{All-nil}
use Rattle.std.specs.declared.cmp.Ordering.TheVariants.{Greater}
use Rattle.art_bytes.specs.Text.{text_order}
use Rattle.art_map.specs.Pages.{IsMap}
use Rattle.art_map.specs.Trees.{pages_in, pages_of}
use Rattle.art_map.proofs.PutLemmas.{head-map, by-result}
use Rattle.art_map.proofs.spots.add.Goals as goal

pub returns-in-None-clause-map : goal.returns-in-None-clause-map
returns-in-None-clause-map g c =
    let cmp = g.K.Ord.cmp in let encoded = g.K.KeyBytes.encoded in let key = c.args.key in
    let head = c.args.head.now.entries in let now = c.add_in.new.page.entries in
    let map = subst (λ tree. IsMap g.K.KeyBytes.order g.K.KeyBytes.is_key encoded head (pages_in (λ tree. pages_of tree.value.arena) tree)) c.in-None.is c.requires.map in
    subst (λ tree. IsMap g.K.KeyBytes.order g.K.KeyBytes.is_key encoded now (pages_in (λ tree. pages_of tree.value.arena) tree)) (sym c.in-None.is)
    (by-result (IsMap g.K.KeyBytes.order g.K.KeyBytes.is_key encoded now []) c.add_in.result c.add_in.ensures.entries c.add_in.ensures.same
    (λ so. subst (λ l. IsMap g.K.KeyBytes.order g.K.KeyBytes.is_key encoded l []) (sym so)
    (head-map g.K.KeyBytes.order cmp g.met.K.RadixKey.ordered g.met.K.Ord.total g.K.KeyBytes.is_key encoded key c.args.value c.requires.key
    (λ k is. sorted_agrees (cmp key k) (encoded key) (encoded k) (g.met.K.RadixKey.sorted key k c.requires.key.0 is.0))
    head [] map (All-nil (λ page. text_order page.0 (encoded key) ≡ Greater))))
    (λ so. subst (λ l. IsMap g.K.KeyBytes.order g.K.KeyBytes.is_key encoded l []) (sym so) map))
