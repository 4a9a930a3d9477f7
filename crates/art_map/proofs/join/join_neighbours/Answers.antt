use Rattle.std.proofs.Common.{rules, ap}
use Rattle.art_index.specs.Places.{IsPlaced}
use Rattle.art_map.specs.Joins.{AreJoinable}
use Rattle.art_map.proofs.JoinLemmas.{joinable}
use Rattle.art_map.proofs.join.join_neighbours.Goals as goal

pub page-requires : goal.page-requires
page-requires g c =
    let there : IsPlaced (λ anchor. anchor) c.args.tree.now.arena c.in-Some.previous = (c.in-Some.ensures c.requires.leaf).0 in
    search rules

pub join-requires : goal.join-requires
join-requires g c =
    let here = c.requires.leaf in let (there, left, right) = c.in-Some.ensures here in
    let both : AreJoinable c.args.tree.now.arena c.in-Some.previous c.args.leaf =
    joinable c.args.tree.now.arena c.in-Some.previous c.args.leaf there here left right c.page.result.1.now c.page-in-Some.result.1.now
    (ap (λ (e : _ × _). e.1) (c.page.ensures there)) (ap (λ (e : _ × _). e.1) (c.page-in-Some.ensures here)) (c.are_few.ensures c.if-are_few.true) in
    search rules

pub page-requires-in-Some-next_page-2 : goal.page-requires-in-Some-next_page-2
page-requires-in-Some-next_page-2 g c =
    let there : IsPlaced (λ anchor. anchor) c.args.tree.now.arena c.in-Some-next_page.next = (c.in-Some-next_page.ensures c.requires.leaf).0 in
    search rules

pub join-requires-then-are_few-2 : goal.join-requires-then-are_few-2
join-requires-then-are_few-2 g c =
    let here = c.requires.leaf in let (there, left, right) = c.in-Some-next_page.ensures here in
    let both : AreJoinable c.args.tree.now.arena c.args.leaf c.in-Some-next_page.next =
    joinable c.args.tree.now.arena c.args.leaf c.in-Some-next_page.next here there left right c.page-in-Some-next_page.result.1.now c.page-in-Some-next_page-2.result.1.now
    (ap (λ (e : _ × _). e.1) (c.page-in-Some-next_page.ensures here)) (ap (λ (e : _ × _). e.1) (c.page-in-Some-next_page-2.ensures there))
    (c.are_few-in-Some-next_page.ensures c.if-are_few-2.true) in
    search rules
