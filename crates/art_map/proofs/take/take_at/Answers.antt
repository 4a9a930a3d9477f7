use Rattle.std.proofs.Common.{◌≡◌, ◌∙◌, ◌+◌, ◌++◌, suc, take, drop, sym, ap, arith, subst}
use Rattle.art_pages.specs.Entries.{IsPlaceOf}
use Rattle.art_pages.proofs.FoundLemmas.{get_by-found, get_key_by-found, remove_entry-found, get_by-gap, get_key_by-gap, remove_entry-gap}
use Rattle.art_map.proofs.take.take_at.Goals as goal

pub returns-in-Ok-clause-key : goal.returns-in-Ok-clause-key
returns-in-Ok-clause-key g c =
    sym (get_key_by-found (g.Q.RadixQuery.compare c.args._query) c.args.page.now.entries c.in-Ok.place c.remove_at.result (subst (IsPlaceOf (g.Q.RadixQuery.compare c.args._query) c.args.page.now.entries) c.in-Ok.is c.requires) c.remove_at.ensures.entry)

pub returns-in-Ok-clause-value : goal.returns-in-Ok-clause-value
returns-in-Ok-clause-value g c =
    sym (get_by-found (g.Q.RadixQuery.compare c.args._query) c.args.page.now.entries c.in-Ok.place c.remove_at.result (subst (IsPlaceOf (g.Q.RadixQuery.compare c.args._query) c.args.page.now.entries) c.in-Ok.is c.requires) c.remove_at.ensures.entry)

pub returns-in-Ok-clause-entries : goal.returns-in-Ok-clause-entries
returns-in-Ok-clause-entries g c =
    let entries = c.args.page.now.entries in let place = c.in-Ok.place in
    let more : suc place ≡ place + 1 = omega arith in
    c.remove_at.ensures.entries ∙ ap (λ n. take place entries ++ drop n entries) more
    ∙ sym (remove_entry-found (g.Q.RadixQuery.compare c.args._query) entries place c.remove_at.result (subst (IsPlaceOf (g.Q.RadixQuery.compare c.args._query) c.args.page.now.entries) c.in-Ok.is c.requires) c.remove_at.ensures.entry)

pub returns-in-Err-clause-key : goal.returns-in-Err-clause-key
returns-in-Err-clause-key g c =
    sym (get_key_by-gap (g.Q.RadixQuery.compare c.args._query) c.args.page.now.entries c.in-Err.field-0 (subst (IsPlaceOf (g.Q.RadixQuery.compare c.args._query) c.args.page.now.entries) c.in-Err.is c.requires))

pub returns-in-Err-clause-value : goal.returns-in-Err-clause-value
returns-in-Err-clause-value g c =
    sym (get_by-gap (g.Q.RadixQuery.compare c.args._query) c.args.page.now.entries c.in-Err.field-0 (subst (IsPlaceOf (g.Q.RadixQuery.compare c.args._query) c.args.page.now.entries) c.in-Err.is c.requires))

pub returns-in-Err-clause-entries : goal.returns-in-Err-clause-entries
returns-in-Err-clause-entries g c =
    sym (remove_entry-gap (g.Q.RadixQuery.compare c.args._query) c.args.page.now.entries c.in-Err.field-0 (subst (IsPlaceOf (g.Q.RadixQuery.compare c.args._query) c.args.page.now.entries) c.in-Err.is c.requires))
