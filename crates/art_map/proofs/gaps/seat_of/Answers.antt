use Rattle.std.proofs.Common.{◌≡◌, ◌∙◌, ◌∷◌, ◌++◌, List, ℕ, map, ap, subst}
use Rattle.std.proofs.lemmas.List.{map-append}
use Rattle.std.proofs.lemmas.List.Elements.{All-map}
use Rattle.std.specs.declared.cmp.Ordering.TheVariants.{Greater}
use Rattle.art_bytes.specs.Text.{text_order}
use Rattle.art_pages.specs.Contents.{PageContents}
use Rattle.art_tree.specs.Entries.{entries_of}
use Rattle.art_map.specs.Gaps.{IsGapAt}
use Rattle.art_map.specs.Pages.{entries_in}
use Rattle.art_map.specs.Trees.{page_of, pages_of}
use Rattle.art_map.proofs.GapLemmas.{above-behind, above-first, below-before, beside-page}
use Rattle.art_map.proofs.gaps.seat_of.Goals as goal

pub returns-in-Some : goal.returns-in-Some
returns-in-Some g c =
    let compare = g.Q.RadixQuery.compare c.args.query in let head = c.args.head.now.entries in
    let x = g.Q.RadixQuery.encoded c.args.query in
    let place = c.in-Some.ensures.place in
    let at : List ℕ × PageContents g.row.K.Denot g.row.V.Denot → List ℕ × List (g.row.K.Denot × g.row.V.Denot) = page_of in
    let same : c.page.result.1.now.entries ≡ place.entry.1.entries = ap (λ e. e.1.entries) (c.page.ensures place) in
    let sides = beside-page g.K.KeyBytes.is_key g.K.KeyBytes.encoded compare x
    (λ key is. g.met.Q.RadixQuery.agrees c.args.query key c.encoded_len-len.ensures.query is.0 is.1)
    g.K.KeyBytes.order head (pages_of c.args.tree.now.arena) c.requires
    (map at place.left) (at place.entry) (map at place.right)
    (ap (map at) place.list ∙ map-append at place.left (place.entry ∷ place.right)) c.in-Some.ensures.low
    (All-map (λ page. text_order page.0 x ≡ Greater) at place.right c.in-Some.ensures.above) in (
      place,
      below-before compare c.args.after (head ++ entries_in (map at place.left)) sides.0,
      subst (λ l. IsGapAt compare c.args.after l c.gap_in.result) same c.gap_in.ensures,
      above-behind compare c.args.after (entries_in (map at place.right)) sides.1,
    )

pub returns-in-None : goal.returns-in-None
returns-in-None g c =
    let compare = g.Q.RadixQuery.compare c.args.query in let head = c.args.head.now.entries in
    let x = g.Q.RadixQuery.encoded c.args.query in
    let at : List ℕ × PageContents g.row.K.Denot g.row.V.Denot → List ℕ × List (g.row.K.Denot × g.row.V.Denot) = page_of in
    let pages = pages_of c.args.tree.now.arena in (
      c.gap_in-in-None.ensures,
      above-behind compare c.args.after (entries_in pages) (above-first g.K.KeyBytes.is_key g.K.KeyBytes.encoded compare x
          (λ key is. g.met.Q.RadixQuery.agrees c.args.query key c.encoded_len-len.ensures.query is.0 is.1)
          g.K.KeyBytes.order head pages c.requires
          (All-map (λ page. text_order page.0 x ≡ Greater) at (entries_of (λ anchor. anchor) c.args.tree.now.arena) c.in-None.ensures)),
    )
