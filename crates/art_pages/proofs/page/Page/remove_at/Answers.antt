use Rattle.std.proofs.Common.{◌≡◌, ◌+◌, ◌++◌, take, drop, Some, subst}
use Rattle.std.specs.Prelude.{slice_get}
use Rattle.art_pages.specs.Contents.{PageContents}
use Rattle.art_pages.specs.Entries.{IsIndexable}
use Rattle.art_pages.proofs.KeptLemmas.{kept-same, kept-without, within-view}
use Rattle.art_pages.proofs.ValueLemmas.{slice_get-is}
use Rattle.art_pages.proofs.page.Page.remove_at.Goals as goal

pub invariant_of-self : goal.invariant_of-self
invariant_of-self g c =
    let order = g.K.KeyBytes.order in let is_key = IsIndexable g.K.KeyBytes.is_key g.K.KeyBytes.encoded in
    let within = within-view _ c.args.self.now c.self.view_is c.args.place c.requires in
    kept-same order is_key (take c.args.place c.self.inside.pairs.items ++ drop (c.args.place + 1) c.self.inside.pairs.items) c.remove.new.self.items c.remove.ensures.by_index.2
    (kept-without order is_key c.self.inside.pairs.items c.args.place c.remove.result within c.self.invariant)

pub returns-clause-entry : goal.returns-clause-entry
returns-clause-entry g c =
    let within = within-view _ c.args.self.now c.self.view_is c.args.place c.requires in
    subst (λ (page : PageContents _ _). slice_get page.entries c.args.place ≡ Some c.remove.result) c.self.view_is
    (slice_get-is c.self.inside.pairs.items c.args.place c.remove.result within c.remove.ensures.value)
