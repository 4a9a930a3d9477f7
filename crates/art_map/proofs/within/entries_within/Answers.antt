use Rattle.std.proofs.Common.{◌∙◌, ◌&&◌, not, append-nil, filter, ap, sym, subst}
use Rattle.art_map.specs.Pages.{map_entries}
use Rattle.art_map.specs.Ranges.{IsPartOf, is_from, is_past}
use Rattle.art_map.specs.Trees.{pages_in, pages_of}
use Rattle.art_map.proofs.within.entries_within.Goals as goal

pub returns-in-None-clause-within : goal.returns-in-None-clause-within
returns-in-None-clause-within g c =
    let head = c.args.head.now.entries in
    let whole = sym (append-nil head) ∙ ap (λ tree. map_entries head (pages_in (λ tree. pages_of tree.value.arena) tree)) (sym c.in-None.is) in
    c.entries_of_slice.ensures ∙ c.within_page.ensures.within
    ∙ ap (filter (λ entry. is_from g.P.RadixQuery.compare c.args.start entry.0 && not (is_past g.Q.RadixQuery.compare c.args.end entry.0))) whole

pub returns-in-None-clause-part : goal.returns-in-None-clause-part
returns-in-None-clause-part g c =
    let head = c.args.head.now.entries in
    let whole = sym (append-nil head) ∙ ap (λ tree. map_entries head (pages_in (λ tree. pages_of tree.value.arena) tree)) (sym c.in-None.is) in
    let same = c.entries_of_slice.ensures in
    subst (λ l. IsPartOf l c.entries_of_slice.result) whole (subst (IsPartOf head) (sym same) c.within_page.ensures.part)
