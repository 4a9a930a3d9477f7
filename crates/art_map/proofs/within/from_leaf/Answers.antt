use Rattle.std.proofs.Common.{rules, append-nil, drop, ◌∙◌, ◌∷◌, length, take, IfSome, ap, arith, subst, sym}
use Rattle.art_map.specs.Runs.{IsRun, entries_left, pages_between}
use Rattle.art_map.specs.Trees.{pages_in}
use Rattle.art_map.proofs.SpanLemmas.{across-pages, more-begins, more-ends, only-ends, within-only}
use Rattle.art_map.proofs.within.from_leaf.Goals as goal

pub take_first-requires : goal.take_first-requires
take_first-requires g c = let run : IsRun c.args.tree.now.arena c.args.first c.args.last = c.requires.0 in search rules

-- the only page of the run
pub slice_between-requires : goal.slice_between-requires
slice_between-requires g c =
    let taken = c.take_first.ensures.taken in let entries = c.take_first.result.0.now in
    let only = taken.1 ∙ ap (λ rest. (taken.0, entries) ∷ pages_in (λ run. pages_between run.0.now.arena run.1 run.2) rest) c.in-None.is in
    let long = ap length (only-ends c.args._head.now.entries c.args.tree.now.arena c.args.first c.args.last c.requires.0 taken.0 entries only) in
    let inside = c.requires.2 in omega (arith, long, inside)

pub returns-in-None : goal.returns-in-None
returns-in-None g c =
    let taken = c.take_first.ensures.taken in let entries = c.take_first.result.0.now in
    let only = taken.1 ∙ ap (λ rest. (taken.0, entries) ∷ pages_in (λ run. pages_between run.0.now.arena run.1 run.2) rest) c.in-None.is in
    c.entries_of_slice.ensures ∙ c.slice_between.ensures ∙ sym (append-nil (drop c.args.start (take c.args.end entries)))
    ∙ within-only c.args._head.now.entries c.args.tree.now.arena c.args.first c.args.last c.requires.0 taken.0 entries only c.args.start c.args.end c.requires.1 c.requires.2

-- several pages
pub take_last-requires : goal.take_last-requires
take_last-requires g c =
    let run : IsRun c.in-Some.tree.now.arena c.in-Some.next c.in-Some.last =
    subst (λ rest. IfSome rest (λ run. IsRun run.0.now.arena run.1 run.2)) c.in-Some.is c.take_first.ensures.rest in
    search rules

pub slice_from-front-requires : goal.slice_from-front-requires
slice_from-front-requires g c =
    let taken = c.take_first.ensures.taken in let entries = c.take_first.result.0.now in
    let later = c.take_last.ensures.taken in
    let more = taken.1 ∙ ap (λ rest. (taken.0, entries) ∷ pages_in (λ run. pages_between run.0.now.arena run.1 run.2) rest) c.in-Some.is ∙ ap (λ l. (taken.0, entries) ∷ l) later.1 in
    let long = ap length (more-begins c.args._head.now.entries c.args.tree.now.arena c.args.first c.args.last c.requires.0 taken.0 entries
    (pages_in (λ run. pages_between run.0.now.arena run.1 run.2) c.take_last.result.1) later.0 c.take_last.result.0.now more) in
    let inside = c.requires.1 in omega (arith, long, inside)

pub slice_up_to-requires : goal.slice_up_to-requires
slice_up_to-requires g c =
    let taken = c.take_first.ensures.taken in let entries = c.take_first.result.0.now in
    let later = c.take_last.ensures.taken in
    let more = taken.1 ∙ ap (λ rest. (taken.0, entries) ∷ pages_in (λ run. pages_between run.0.now.arena run.1 run.2) rest) c.in-Some.is ∙ ap (λ l. (taken.0, entries) ∷ l) later.1 in
    let long = ap length (more-ends c.args._head.now.entries c.args.tree.now.arena c.args.first c.args.last c.requires.0 taken.0 entries
    (pages_in (λ run. pages_between run.0.now.arena run.1 run.2) c.take_last.result.1) later.0 c.take_last.result.0.now more) in
    let inside = c.requires.2 in omega (arith, long, inside)

pub returns-in-Some : goal.returns-in-Some
returns-in-Some g c =
    let taken = c.take_first.ensures.taken in let entries = c.take_first.result.0.now in
    let later = c.take_last.ensures.taken in
    let more = taken.1 ∙ ap (λ rest. (taken.0, entries) ∷ pages_in (λ run. pages_between run.0.now.arena run.1 run.2) rest) c.in-Some.is ∙ ap (λ l. (taken.0, entries) ∷ l) later.1 in
    c.entries_of_run.ensures
    ∙ (λ i. entries_left (c.slice_from-front.ensures i) (pages_in (λ run. pages_between run.0.now.arena run.1 run.2) c.take_last.result.1) (c.slice_up_to.ensures i))
    ∙ across-pages c.args._head.now.entries c.args.tree.now.arena c.args.first c.args.last c.requires.0 taken.0 entries
    (pages_in (λ run. pages_between run.0.now.arena run.1 run.2) c.take_last.result.1) later.0 c.take_last.result.0.now more c.args.start c.args.end c.requires.1 c.requires.2
