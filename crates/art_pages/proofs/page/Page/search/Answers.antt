use Rattle.std.proofs.Common.{subst}
use Rattle.art_pages.specs.Contents.{PageContents}
use Rattle.art_pages.specs.Entries.{IsPlaceOf}
use Rattle.art_pages.proofs.OrderLemmas.{ordered-same}
use Rattle.art_pages.proofs.PlaceLemmas.{query_divides, beside-placed}
use Rattle.art_pages.proofs.page.Page.search.Goals as goal

-- the entries beside the guess say that it is right
pub returns-in-Some : goal.returns-in-Some
returns-in-Some g c =
    let compare = g.Q.RadixQuery.compare c.args.query in
    let pairs = c.self.inside.pairs.items in
    let divides = query_divides g.K.Ord.cmp g.K.KeyBytes.is_key g.K.KeyBytes.encoded g.met.K.RadixKey.sorted compare (g.Q.RadixQuery.encoded c.args.query)
    (λ x is. g.met.Q.RadixQuery.agrees c.args.query x c.encoded_len-len.ensures.query is) pairs
    (ordered-same g.K.KeyBytes.order g.K.Ord.cmp pairs g.met.K.RadixKey.ordered c.self.invariant.0) c.self.invariant.1 in
    subst (λ (page : PageContents _ _). IsPlaceOf compare page.entries c.in-Some.place) c.self.view_is
    (beside-placed compare pairs divides c.in-Some.place (rw c.as_slice-pairs.ensures.value at c.in-Some.ensures))
