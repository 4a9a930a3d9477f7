use Rattle.std.proofs.Common.{◌∙◌, ap, sym, refl, subst}
use Rattle.std.specs.Prelude.{slice_get}
use Rattle.art_pages.specs.Entries.{IsPlaceOf}
use Rattle.art_pages.proofs.FoundLemmas.{get_by-gap}
use Rattle.art_map.proofs.SeatLemmas.{old-value, new-value}
use Rattle.art_map.proofs.put.put_at.Goals as goal

pub returns-then-not-has_room-clause-absent : goal.returns-then-not-has_room-clause-absent
returns-then-not-has_room-clause-absent g c =
    get_by-gap (g.K.Ord.cmp c.args.key) c.args.page.now.entries c.in-Err.place (subst (IsPlaceOf (g.K.Ord.cmp c.args.key) c.args.page.now.entries) c.in-Err.is c.requires.place)

pub returns-in-Ok-clause-old : goal.returns-in-Ok-clause-old
returns-in-Ok-clause-old g c =
    let entries = c.args.page.now.entries in
    old-value g.K.Ord.cmp c.args.key entries c.in-Ok.place (subst (IsPlaceOf (g.K.Ord.cmp c.args.key) c.args.page.now.entries) c.in-Ok.is c.requires.place) (slice_get entries c.in-Ok.place) c.replace_value.result refl c.replace_value.ensures.value

pub returns-in-Ok-clause-entries : goal.returns-in-Ok-clause-entries
returns-in-Ok-clause-entries g c =
    let entries = c.args.page.now.entries in
    ap (λ page. page.entries) c.replace_value.ensures.page
    ∙ new-value g.K.Ord.cmp c.args.key entries c.in-Ok.place (subst (IsPlaceOf (g.K.Ord.cmp c.args.key) c.args.page.now.entries) c.in-Ok.is c.requires.place) (slice_get entries c.in-Ok.place) c.replace_value.result c.args.value refl c.replace_value.ensures.value

pub returns-in-Ok-insert_at-clause-old : goal.returns-in-Ok-insert_at-clause-old
returns-in-Ok-insert_at-clause-old g c =
    sym (get_by-gap (g.K.Ord.cmp c.args.key) c.args.page.now.entries c.in-Err.place (subst (IsPlaceOf (g.K.Ord.cmp c.args.key) c.args.page.now.entries) c.in-Err.is c.requires.place))
