use Rattle.std.proofs.Common.{subst, rules}
use Rattle.std.proofs.lemmas.Fn.{always_returns_same}
use Rattle.std.specs.Ordering.{ordering_reverse}
use Rattle.art_pages.specs.Contents.{PageContents}
use Rattle.art_pages.specs.Entries.{IsPlaceOf}
use Rattle.art_pages.proofs.OrderLemmas.{ordered-same}
use Rattle.art_pages.proofs.PlaceLemmas.{query_divides, placed}
use Rattle.art_pages.proofs.page.Page.search_all.Goals as goal

-- the closure compares an entry's key with the query
pub returns : goal.returns
returns g c =
    let compare = g.Q.RadixQuery.compare c.args.query in
    let pairs = c.self.inside.pairs.items in
    let divides = query_divides g.K.Ord.cmp g.K.KeyBytes.is_key g.K.KeyBytes.encoded g.met.K.RadixKey.sorted compare (g.Q.RadixQuery.encoded c.args.query)
    (λ x is. g.met.Q.RadixQuery.agrees c.args.query x c.encoded_len-len.ensures.query is) pairs
    (ordered-same g.K.KeyBytes.order g.K.Ord.cmp pairs g.met.K.RadixKey.ordered c.self.invariant.0) c.self.invariant.1 in
    let found = c.binary_search_by.ensures in
    let position = found.position (λ entry. ordering_reverse (compare entry.0)) (always_returns_same _ _ _ (λ a r now called. search rules)) in
    subst (λ (page : PageContents _ _). IsPlaceOf compare page.entries c.binary_search_by.result) c.self.view_is
    (placed compare pairs divides c.binary_search_by.result (rw c.deref.ensures.value at found.bound) (rw c.deref.ensures.value at position))
