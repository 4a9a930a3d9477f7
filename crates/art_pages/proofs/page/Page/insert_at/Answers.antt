use Rattle.std.proofs.Common.{◌∙◌, take, drop, Err, ap, sym}
use Rattle.std.proofs.lemmas.List.{take-append-drop}
use Rattle.std.specs.BTreeMap.{insert_entry}
use Rattle.std.specs.Prelude.{insert}
use Rattle.art_pages.specs.Contents.{PageContents}
use Rattle.art_pages.specs.Entries.{IsIndexable}
use Rattle.art_pages.proofs.KeptLemmas.{IsKept, kept-same, kept-insert, place-view, either}
use Rattle.art_pages.proofs.MiddleLemmas.{insert_entry-gap}
use Rattle.art_pages.proofs.page.Page.insert_at.Goals as goal

pub invariant_of-self : goal.invariant_of-self
invariant_of-self g c =
    let order = g.K.KeyBytes.order in let is_key = IsIndexable g.K.KeyBytes.is_key g.K.KeyBytes.encoded in
    let pairs = c.self.inside.pairs.items in
    let entry : g.row.K.Denot × g.row.V.Denot = (c.args.key, c.args.value) in
    let gap = place-view _ c.args.self.now c.self.view_is (g.K.Ord.cmp c.args.key) (Err c.args.place) c.requires.gap in
    kept-same order is_key _ c.insert.new.self.items c.insert.ensures.items
    (either (IsKept order is_key) _ (insert pairs c.args.place entry) pairs
    (kept-insert order is_key g.K.Ord.cmp g.met.K.RadixKey.ordered g.met.K.Ord.total pairs c.args.place entry c.self.invariant gap.1 gap.2 c.requires.key) c.self.invariant)

pub invariant_of-self-2 : goal.invariant_of-self-2
invariant_of-self-2 g c =
    let order = g.K.KeyBytes.order in let is_key = IsIndexable g.K.KeyBytes.is_key g.K.KeyBytes.encoded in
    let pairs = c.self.inside.pairs.items in
    let entry : g.row.K.Denot × g.row.V.Denot = (c.args.key, c.args.value) in
    let gap = place-view _ c.args.self.now c.self.view_is (g.K.Ord.cmp c.args.key) (Err c.args.place) c.requires.gap in
    kept-same order is_key (insert pairs c.args.place entry) c.insert.new.self.items c.in_ok-insert.ensures.items
    (kept-insert order is_key g.K.Ord.cmp g.met.K.RadixKey.ordered g.met.K.Ord.total pairs c.args.place entry c.self.invariant gap.1 gap.2 c.requires.key)

pub returns-clause-entries : goal.returns-clause-entries
returns-clause-entries g c =
    let cmp = g.K.Ord.cmp in let pairs = c.self.inside.pairs.items in
    let gap = place-view _ c.args.self.now c.self.view_is (cmp c.args.key) (Err c.args.place) c.requires.gap in
    c.in_ok-insert.ensures.items
    ∙ sym (insert_entry-gap cmp c.args.key c.args.value (take c.args.place pairs) (drop c.args.place pairs) gap.1 gap.2)
    ∙ ap (λ l. insert_entry cmp l c.args.key c.args.value) (take-append-drop c.args.place pairs)
    ∙ ap (λ (page : PageContents _ _). insert_entry cmp page.entries c.args.key c.args.value) c.self.view_is
