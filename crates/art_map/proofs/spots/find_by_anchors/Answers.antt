use Rattle.std.proofs.Common.{◌≡◌, ap, subst}
use Rattle.art_pages.specs.Entries.{IsPlaceOf}
use Rattle.art_map.specs.Trees.{pages_of}
use Rattle.art_map.proofs.SpotLemmas.{spot-in-head, spot-in-leaf}
use Rattle.art_map.proofs.TreeLemmas.{anchors-above}
use Rattle.art_map.proofs.spots.find_by_anchors.Goals as goal

pub returns-in-Some : goal.returns-in-Some
returns-in-Some g c =
    let compare = g.Q.RadixQuery.compare c.args.query in let x = g.Q.RadixQuery.encoded c.args.query in
    let here = c.in-Some.ensures.place in
    let same : c.page.result.1.now.entries ≡ here.entry.1.entries = ap (λ e. e.1.entries) (c.page.ensures here) in
    spot-in-leaf g.K.KeyBytes.order g.K.KeyBytes.is_key g.K.KeyBytes.encoded compare x
    (λ key is. g.met.Q.RadixQuery.agrees c.args.query key c.encoded_len-len.ensures.query is.0 is.1)
    c.args.head.now.entries c.args.tree.now.arena c.in-Some.leaf c.requires here c.in-Some.ensures.low (anchors-above x here.right c.in-Some.ensures.above)
    c.search.result (subst (λ l. IsPlaceOf compare l c.search.result) same c.search.ensures)

pub returns-in-None : goal.returns-in-None
returns-in-None g c =
    let compare = g.Q.RadixQuery.compare c.args.query in let x = g.Q.RadixQuery.encoded c.args.query in
    spot-in-head g.K.KeyBytes.order g.K.KeyBytes.is_key g.K.KeyBytes.encoded compare x
    (λ key is. g.met.Q.RadixQuery.agrees c.args.query key c.encoded_len-len.ensures.query is.0 is.1)
    c.args.head.now.entries (pages_of c.args.tree.now.arena) c.requires (anchors-above x _ c.in-None.ensures)
    c.search-in-None.result c.search-in-None.ensures
