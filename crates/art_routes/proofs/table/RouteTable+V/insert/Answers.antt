use Rattle.std.proofs.Common.{◌∙◌, ap, subst, sym}
use Rattle.std.specs.Option.{option_map}
use Rattle.art_tree.proofs.EntryLaws.{list-put, list-same}
use Rattle.art_routes.specs.Keys.{key_text}
use Rattle.art_routes.proofs.HeldLemmas.{refused-absent, value-held}
use Rattle.art_routes.proofs.RouteLemmas.{AreNetworks, put-at, put-networks}
use Rattle.art_routes.proofs.table.RouteTable+V.insert.Goals as goal

pub returns-in-Err-clause-no_route : goal.returns-in-Err-clause-no_route
returns-in-Err-clause-no_route g c =
    let arena = c.self.inside.tree.arena in
    let written = c.key_of.ensures in
    let absent = refused-absent arena c.insert.ensures.are_keys c.key_of.result c.insert.ensures.is_key c.in-Err.fault.refusal c.in-Err.ensures.refusal_due in
    sym (value-held arena c.args.self.now c.self.view_is c.self.invariant c.args.network written.network (key_text c.key_of.result) (ap key_text written.key)) ∙ ap (option_map (λ entry. entry.1)) absent

pub invariant_of-self-2 : goal.invariant_of-self-2
invariant_of-self-2 g c =
    let arena = c.self.inside.tree.arena in
    let put = list-put key_text arena c.insert.new.self.arena (c.key_of.result, c.args.value) c.in-Ok.ensures.entry c.in-Ok.ensures.others in
    subst (λ es. AreNetworks es) (sym put) (put-networks _ c.key_of.result c.args.value c.self.invariant c.insert.ensures.is_key)

pub returns-clause-replaced : goal.returns-clause-replaced
returns-clause-replaced g c =
    c.value_alone.ensures ∙ ap (option_map (λ entry. entry.1)) c.in-Ok.ensures.replaced
    ∙ value-held c.self.inside.tree.arena c.args.self.now c.self.view_is c.self.invariant c.args.network c.key_of.ensures.network (key_text c.key_of.result) (ap key_text c.key_of.ensures.key)

pub returns-clause-routes : goal.returns-clause-routes
returns-clause-routes g c =
    list-put key_text c.self.inside.tree.arena c.insert.new.self.arena (c.key_of.result, c.args.value) c.in-Ok.ensures.entry c.in-Ok.ensures.others
    ∙ put-at _ c.args.self.now c.self.view_is c.self.invariant c.key_of.result c.args.network c.key_of.ensures.network c.key_of.ensures.key c.args.value

pub invariant_of-self : goal.invariant_of-self
invariant_of-self g c = subst (λ es. AreNetworks es) (sym (list-same key_text c.self.inside.tree.arena c.insert.new.self.arena c.in-Err.ensures.same_entries)) c.self.invariant

pub returns-in-Err-clause-same_routes : goal.returns-in-Err-clause-same_routes
returns-in-Err-clause-same_routes g c = list-same key_text c.self.inside.tree.arena c.insert.new.self.arena c.in-Err.ensures.same_entries ∙ c.self.view_is
