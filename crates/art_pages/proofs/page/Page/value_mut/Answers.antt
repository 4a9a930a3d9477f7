use Rattle.std.proofs.Common.{◌≡◌, Some, ap, refl, subst}
use Rattle.std.specs.Option.{option_map}
use Rattle.std.specs.Prelude.{slice_get}
use Rattle.art_pages.specs.Contents.{PageContents}
use Rattle.art_pages.specs.Entries.{IsIndexable}
use Rattle.art_pages.proofs.KeptLemmas.{kept-same, kept-value, within-view, value-view}
use Rattle.art_pages.proofs.ValueLemmas.{slice_get-is, set-is}
use Rattle.art_pages.proofs.page.Page.value_mut.Goals as goal

pub invariant_of-self-lent : goal.invariant_of-self-lent
invariant_of-self-lent g c w =
    let order = g.K.KeyBytes.order in let is_key = IsIndexable g.K.KeyBytes.is_key g.K.KeyBytes.encoded in
    let pairs = c.self.inside.pairs.items in let pair = c.index_mut.result.now in
    let within = within-view _ c.args.self.now c.self.view_is c.args.place c.requires in
    kept-same order is_key _ _ (set-is pairs c.args.place pair w within c.index_mut.ensures.value)
    (kept-value order is_key pairs c.args.place pair w within c.self.invariant)

pub returns : goal.returns
returns g c =
    let pairs = c.self.inside.pairs.items in let pair = c.index_mut.result.now in
    let within = within-view _ c.args.self.now c.self.view_is c.args.place c.requires in (
      (refl, λ w. value-view _ c.args.self.now c.self.view_is c.args.place w _ (set-is pairs c.args.place pair w within c.index_mut.ensures.value)),
      record {
        writes_back = tt;
        value = subst (λ (page : PageContents _ _). option_map (λ (entry : _ × _). entry.1) (slice_get page.entries c.args.place) ≡ Some pair.1) c.self.view_is
            (ap (option_map (λ (entry : _ × _). entry.1)) (slice_get-is pairs c.args.place pair within c.index_mut.ensures.value));
      },
    )
