use Rattle.std.proofs.Common.{rules, ◌≡◌, ◌≢◌, ◌∙◌, ◌+◌, ◌-◌, Some, length, refl, sym, subst, inl, inr, arith}
use Rattle.art_arena.specs.Arena.{held, Nothing}
use Rattle.art_arena.specs.Standing.{IsTreeIn}
use Rattle.art_steps.specs.Art.{IsArt}
use Rattle.art_search.specs.Search.{leaf_pointer, met}
use Rattle.art_cli.proofs.FindLemmas.{found_number, none_there, same_texts}
use Rattle.art_cli.proofs.find.answer.answer.Goals as goal

pub as_value_ref-requires : goal.as_value_ref-requires
as_value_ref-requires g c =
    let read = c.in-Some-found.ensures.same_arena ∙ c.with_budget-reader.ensures.arena in
    let is_held = subst (λ arena. held arena (leaf_pointer c.in-Some-found.leaf) ≢ Nothing) read c.in-Some-found.ensures.held in
    (search rules, (search rules, (search rules, (search rules, (search rules, (search rules, is_held))))))

pub returns-in-Some-found : goal.returns-in-Some-found
returns-in-Some-found g c = λ entries holds.
    let text = g.K.AsBytes.text in
    let alone = subst (IsArt text c.args.tree.now.arena) (sym c.root.ensures.root ∙ c.in-Some.is) c.root.ensures.one_tree in
    let tree = alone.0 in
    let read = c.with_budget-reader.ensures.arena ∙ c.arena-arena.ensures.arena in
    let here : IsTreeIn text c.with_budget-reader.result.arena c.in-Some.root tree = rw read alone.1.is_tree in
    let scanned = c.in-Some-found.ensures.answer tree here in
    let visits = c.in-Some-found.ensures.visits tree here in
    let reads : length c.args.query.now + 1 - c.remaining.result ≡ length (met g.row.PREFIX_LEN tree c.args.query.now) = omega (arith, visits, c.with_budget-reader.ensures.budget, c.remaining.ensures) in
    let number : entries.number_of c.args.query.now ≡ Some c.as_value_ref.result.now = found_number text c.args.tree.now.arena entries holds tree c.in-Some-found.leaf c.args.query.now c.as_value_ref.result.now (λ leaf. c.entries_are_what_leaves_hold.ensures.leaves c.args.tree.now.arena c.in-Some.root tree alone.1 (leaf_pointer c.in-Some-found.leaf) c.args.query.now leaf) scanned (rw (← c.arena-arena.ensures.arena) c.as_value_ref.ensures) in
    inr (tree, alone.1.is_tree.sound, same_texts text c.args.tree.now.arena entries holds tree (c.entries_are_what_leaves_hold.ensures.texts c.args.tree.now.arena c.in-Some.root tree alone.1), (leaf_pointer c.in-Some-found.leaf, scanned, number, c.in-Some-found.ensures.path tree here), reads)

pub returns-in-None : goal.returns-in-None
returns-in-None g c = λ entries holds.
    let text = g.K.AsBytes.text in
    let alone = subst (IsArt text c.args.tree.now.arena) (sym c.root.ensures.root ∙ c.in-Some.is) c.root.ensures.one_tree in
    let tree = alone.0 in
    let read = c.with_budget-reader.ensures.arena ∙ c.arena-arena.ensures.arena in
    let here : IsTreeIn text c.with_budget-reader.result.arena c.in-Some.root tree = rw read alone.1.is_tree in
    let visits = c.in-None.ensures.visits tree here in
    let reads : length c.args.query.now + 1 - c.remaining.result ≡ length (met g.row.PREFIX_LEN tree c.args.query.now) = omega (arith, visits, c.with_budget-reader.ensures.budget, c.remaining.ensures) in
    inr (tree, alone.1.is_tree.sound, same_texts text c.args.tree.now.arena entries holds tree (c.entries_are_what_leaves_hold.ensures.texts c.args.tree.now.arena c.in-Some.root tree alone.1), c.in-None.ensures.answer tree here, reads)

pub returns-in_default : goal.returns-in_default
returns-in_default g c = λ entries holds.
    let text = g.K.AsBytes.text in
    let nothing = subst (IsArt text c.args.tree.now.arena) (sym c.root.ensures.root ∙ c.in_default.is) c.root.ensures.one_tree in
    inl (none_there text c.args.tree.now.arena entries holds (c.entries_are_what_leaves_hold.ensures.none c.args.tree.now.arena nothing), refl, refl)
