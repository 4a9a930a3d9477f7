use Rattle.std.proofs.Common.{◌<◌, length, arith, ap, subst}
use Rattle.art_pages.specs.Entries.{AllBelow}
use Rattle.art_index.specs.Places.{IsPlaced}
use Rattle.art_map.proofs.LastLemmas.{above-last, anchors-under, none-next}
use Rattle.art_map.proofs.room.cut.Goals as goal

pub add_last-requires : goal.add_last-requires
add_last-requires g c =
    let cmp = g.K.Ord.cmp in let encoded = g.K.KeyBytes.encoded in let key = c.args.key.now in
    let floor = c.in-Some.ensures in let old = c.args.tree.now.arena in
    let page-is = ap (λ (e : _). e.1) (c.page.ensures floor.place) in
    let last = none-next old c.in-Some.leaf floor.place c.next_page.result c.is_none.result c.is_none.ensures c.if-is_none.true (c.next_page.ensures floor.place) in
    let more : 0 < length c.page.result.1.now.entries = omega (arith, c.len.ensures.len, c.if-len-lt2.false) in
    let some = subst (λ (p : _). 0 < length p.entries) page-is more in
    let below = subst (λ (p : _). AllBelow (cmp key) p.entries) page-is (c.is_above.ensures c.if-is_above.true) in
    let above =
    above-last g.K.KeyBytes.order cmp g.met.K.RadixKey.ordered g.met.K.Ord.total g.K.KeyBytes.is_key encoded g.met.K.RadixKey.sorted key c.requires.key
    c.args.head.now.entries old c.requires.map c.in-Some.leaf floor last some below in
    let anchors =
    anchors-under g.K.KeyBytes.order cmp g.met.K.RadixKey.ordered g.met.K.Ord.total g.K.KeyBytes.is_key encoded g.met.K.RadixKey.sorted key c.requires.key
    c.args.head.now.entries old c.requires.map c.in-Some.leaf floor last some below in
    (omega arith, (omega arith, (omega arith, (omega arith, (omega arith, (c.requires.map, (c.requires.key, (above, (anchors, c.requires.room)))))))))

pub cut_page-requires : goal.cut_page-requires
cut_page-requires g c =
    let more : 1 < length c.page.result.1.now.entries = omega (arith, c.len.ensures.len, c.if-len-lt2.false) in
    let some = λ (here : IsPlaced (λ anchor. anchor) c.args.tree.now.arena c.in-Some.leaf). subst (λ (p : _). 1 < length p.entries) (ap (λ (e : _). e.1) (c.page.ensures here)) more in
    (omega arith, (omega arith, (omega arith, (omega arith, (omega arith, (c.requires.map, (c.in-Some.ensures.place, (some, c.requires.room))))))))
