use Rattle.std.proofs.Common.{◌≡◌, ◌∙◌, length, refl, sym, ap, subst}
use Rattle.std.proofs.lemmas.List.Elements.{All-nil}
use Rattle.std.specs.declared.cmp.Ordering.TheVariants.{Greater}
use Rattle.art_bytes.specs.Text.{text_order}
use Rattle.art_index.specs.Places.{IsNext}
use Rattle.art_pages.specs.Entries.{IsPlaceOf}
use Rattle.art_map.specs.Pages.{AnchorsAbove}
use Rattle.art_map.specs.Spots.{IsBeforeSome}
use Rattle.art_map.specs.Trees.{page_of, pages_of}
use Rattle.art_map.proofs.InsideLemmas.{inside-low, inside-above}
use Rattle.art_map.proofs.PartLemmas.{AgreesBy}
use Rattle.art_map.proofs.SpotLemmas.{spot-in-leaf}
use Rattle.art_map.proofs.TreeLemmas.{pages, pages-around}
use Rattle.art_map.proofs.spots.find_inside.Goals as goal

pub returns-then-is_before_some : goal.returns-then-is_before_some
returns-then-is_before_some g c =
    let compare = g.Q.RadixQuery.compare c.args.query in let x = g.Q.RadixQuery.encoded c.args.query in
    let order = g.K.KeyBytes.order in let is_key = g.K.KeyBytes.is_key in let encoded = g.K.KeyBytes.encoded in
    let law : AgreesBy is_key encoded compare x = λ key is. g.met.Q.RadixQuery.agrees c.args.query key c.encoded_len-len.ensures.query is.0 is.1 in
    let head = c.args._head.now.entries in let arena = c.args.tree.now.arena in
    let leaf = c.in_ok-leaf.leaf in let here = c.in_ok-leaf.ensures in let place = c.search-place.result in
    let same : c.page.result.1.now.entries ≡ here.entry.1.entries = ap (λ e. e.1.entries) (c.page.ensures here) in
    let at : IsPlaceOf compare here.entry.1.entries place = subst (λ l. IsPlaceOf compare l place) same c.search-place.ensures in
    let is = pages-around arena leaf here in
    let low = inside-low is_key encoded compare x law order head (pages_of arena) c.requires (pages here.left) (page_of here.entry) (pages here.right) is place at (c.if-not-is_behind_some.ensures refl) in
    let before = subst (IsBeforeSome place) (c.len.ensures.len ∙ ap length same) (c.if-is_before_some.ensures refl) in
    spot-in-leaf order is_key encoded compare x law head arena leaf c.requires here low
    (inside-above is_key encoded compare x law order head (pages_of arena) c.requires (pages here.left) (page_of here.entry) (pages here.right) is place at before)
    place at

pub returns-in-None : goal.returns-in-None
returns-in-None g c =
    let compare = g.Q.RadixQuery.compare c.args.query in let x = g.Q.RadixQuery.encoded c.args.query in
    let order = g.K.KeyBytes.order in let is_key = g.K.KeyBytes.is_key in let encoded = g.K.KeyBytes.encoded in
    let law : AgreesBy is_key encoded compare x = λ key is. g.met.Q.RadixQuery.agrees c.args.query key c.encoded_len-len.ensures.query is.0 is.1 in
    let head = c.args._head.now.entries in let arena = c.args.tree.now.arena in
    let leaf = c.in_ok-leaf.leaf in let here = c.in_ok-leaf.ensures in let place = c.search-place.result in
    let same : c.page.result.1.now.entries ≡ here.entry.1.entries = ap (λ e. e.1.entries) (c.page.ensures here) in
    let at : IsPlaceOf compare here.entry.1.entries place = subst (λ l. IsPlaceOf compare l place) same c.search-place.ensures in
    let is = pages-around arena leaf here in
    let low = inside-low is_key encoded compare x law order head (pages_of arena) c.requires (pages here.left) (page_of here.entry) (pages here.right) is place at (c.if-not-is_behind_some.ensures refl) in
    let none = subst (IsNext (λ anchor. anchor) arena here) c.in-None.is (c.next_page.ensures here) in
    spot-in-leaf order is_key encoded compare x law head arena leaf c.requires here low
    (subst (λ right. AnchorsAbove x (pages right)) (sym none) (All-nil (λ page. text_order page.0 x ≡ Greater)))
    place at
