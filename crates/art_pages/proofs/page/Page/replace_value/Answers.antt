use Rattle.std.proofs.Common.{◌≡◌, ◌∙◌, Some, ap, sym, subst}
use Rattle.std.specs.Option.{option_map}
use Rattle.std.specs.Prelude.{slice_get}
use Rattle.art_pages.specs.Contents.{PageContents, page_with_value}
use Rattle.art_pages.specs.Entries.{IsIndexable}
use Rattle.art_pages.proofs.KeptLemmas.{kept-same, kept-value, within-view, value-view}
use Rattle.art_pages.proofs.ValueLemmas.{slice_get-is, set-is}
use Rattle.art_pages.proofs.page.Page.replace_value.Goals as goal

pub invariant_of-self : goal.invariant_of-self
invariant_of-self g c =
    let order = g.K.KeyBytes.order in let is_key = IsIndexable g.K.KeyBytes.is_key g.K.KeyBytes.encoded in
    let pairs = c.self.inside.pairs.items in let pair = c.index_mut.result.now in
    let within = within-view _ c.args.self.now c.self.view_is c.args.place c.requires in
    kept-same order is_key _ _ (set-is pairs c.args.place pair c.replace.new.dest within c.index_mut.ensures.value)
    (kept-value order is_key pairs c.args.place pair c.replace.new.dest within c.self.invariant)

pub returns-clause-value : goal.returns-clause-value
returns-clause-value g c =
    let within = within-view _ c.args.self.now c.self.view_is c.args.place c.requires in
    subst (λ (page : PageContents _ _). option_map (λ (entry : _ × _). entry.1) (slice_get page.entries c.args.place) ≡ Some c.replace.result) c.self.view_is
    (ap (option_map (λ (entry : _ × _). entry.1)) (slice_get-is c.self.inside.pairs.items c.args.place c.index_mut.result.now within c.index_mut.ensures.value) ∙ ap Some (sym c.replace.ensures.value))

pub returns-clause-page : goal.returns-clause-page
returns-clause-page g c =
    let within = within-view _ c.args.self.now c.self.view_is c.args.place c.requires in
    value-view _ c.args.self.now c.self.view_is c.args.place c.replace.new.dest _
    (set-is c.self.inside.pairs.items c.args.place c.index_mut.result.now c.replace.new.dest within c.index_mut.ensures.value)
    ∙ ap (page_with_value c.args.self.now c.args.place) c.replace.ensures.after
