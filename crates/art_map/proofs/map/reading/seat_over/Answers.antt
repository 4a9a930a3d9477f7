use Rattle.std.proofs.Common.{◌≡◌, sym, ap, subst}
use Rattle.art_pages.specs.Entries.{IsPlaceOf}
use Rattle.art_map.specs.Pages.{IsPageOf, map_entries}
use Rattle.art_map.specs.Spots.{IsSpotInLeaf, IsSpotOver}
use Rattle.art_map.specs.Trees.{pages_of}
use Rattle.art_map.proofs.SpotLemmas.{head-page, leaf-page}
use Rattle.art_map.proofs.map.reading.seat_over.Goals as goal

pub returns-in-Some-clause-page : goal.returns-in-Some-clause-page
returns-in-Some-clause-page g c =
    let compare = g.Q.RadixQuery.compare c.args.query in let x = g.Q.RadixQuery.encoded c.args.query in
    let head = c.args.head.now.entries in let arena = c.args.tree.now.arena in let place = c.find_over-leaf.result.1 in
    let spot : IsSpotInLeaf compare x head arena c.in-Some.leaf place = subst (λ leaf. IsSpotOver compare x head arena leaf place) c.in-Some.is c.find_over-leaf.ensures in
    let same : spot.here.entry.1.entries ≡ c.page.result.1.now.entries = sym (ap (λ e. e.1.entries) (c.page.ensures spot.here)) in
    subst (λ page. IsPageOf compare page (map_entries head (pages_of arena))) same (leaf-page compare x head arena c.in-Some.leaf place spot)

pub returns-in-Some-clause-place : goal.returns-in-Some-clause-place
returns-in-Some-clause-place g c =
    let compare = g.Q.RadixQuery.compare c.args.query in let x = g.Q.RadixQuery.encoded c.args.query in
    let head = c.args.head.now.entries in let arena = c.args.tree.now.arena in let place = c.find_over-leaf.result.1 in
    let spot : IsSpotInLeaf compare x head arena c.in-Some.leaf place = subst (λ leaf. IsSpotOver compare x head arena leaf place) c.in-Some.is c.find_over-leaf.ensures in
    let same : spot.here.entry.1.entries ≡ c.page.result.1.now.entries = sym (ap (λ e. e.1.entries) (c.page.ensures spot.here)) in
    subst (λ page. IsPlaceOf compare page place) same spot.at

pub returns-in-None-clause-page : goal.returns-in-None-clause-page
returns-in-None-clause-page g c =
    let compare = g.Q.RadixQuery.compare c.args.query in let x = g.Q.RadixQuery.encoded c.args.query in
    let head = c.args.head.now.entries in let arena = c.args.tree.now.arena in let place = c.find_over-leaf.result.1 in
    head-page compare x head (pages_of arena) place (subst (λ leaf. IsSpotOver compare x head arena leaf place) c.in-None.is c.find_over-leaf.ensures)
