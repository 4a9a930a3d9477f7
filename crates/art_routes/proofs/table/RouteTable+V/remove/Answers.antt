use Rattle.std.proofs.Common.{◌∙◌, ap, map, subst, sym}
use Rattle.std.specs.Option.{option_map}
use Rattle.art_bytes.proofs.Cases.{on_err_always}
use Rattle.art_nodes.specs.declared.pointers.OpaqueNodePtr.{OpaqueNodePtr}
use Rattle.art_tree.proofs.EntryLaws.{list-same}
use Rattle.art_routes.specs.Keys.{key_text}
use Rattle.art_routes.specs.Networks.{Block}
use Rattle.art_routes.specs.Shrinking.{NeedsNode}
use Rattle.art_routes.proofs.HeldLemmas.{kept-held, value-held, without-held}
use Rattle.art_routes.proofs.ListLemmas.{leaf-found}
use Rattle.art_routes.proofs.ResultLemmas.{none_from}
use Rattle.art_routes.proofs.RouteLemmas.{AreNetworks}
use Rattle.art_routes.proofs.table.RouteTable+V.remove.Goals as goal

pub invariant_of-self-2 : goal.invariant_of-self-2
invariant_of-self-2 g c =
    let written = c.as_bytes.ensures.text ∙ ap key_text c.key_of-key.ensures.key in
    kept-held c.self.inside.tree.arena c.args.self.now c.self.view_is c.self.invariant c.args.network.now c.key_of-key.ensures.network c.as_bytes.result.now written c.remove.new.self.arena c.in_ok-entry.ensures.others c.in_ok-entry.ensures.gone

pub returns-clause-removed : goal.returns-clause-removed
returns-clause-removed g c =
    let written = c.as_bytes.ensures.text ∙ ap key_text c.key_of-key.ensures.key in
    c.value_alone.ensures ∙ ap (option_map (λ entry. entry.1)) c.in_ok-entry.ensures.removed
    ∙ value-held c.self.inside.tree.arena c.args.self.now c.self.view_is c.self.invariant c.args.network.now c.key_of-key.ensures.network c.as_bytes.result.now written

pub returns-clause-routes : goal.returns-clause-routes
returns-clause-routes g c =
    let written = c.as_bytes.ensures.text ∙ ap key_text c.key_of-key.ensures.key in
    without-held c.self.inside.tree.arena c.args.self.now c.self.view_is c.self.invariant c.args.network.now c.key_of-key.ensures.network c.as_bytes.result.now written c.remove.new.self.arena c.in_ok-entry.ensures.others c.in_ok-entry.ensures.gone

pub invariant_of-self : goal.invariant_of-self
invariant_of-self g c = subst (λ es. AreNetworks es) (sym (list-same key_text c.self.inside.tree.arena c.remove.new.self.arena c.in_err-entry.ensures.same_entries)) c.self.invariant

pub returns-in_err-entry-clause-refused : goal.returns-in_err-entry-clause-refused
returns-in_err-entry-clause-refused g c =
    let arena = c.self.inside.tree.arena in
    let bytes = c.as_bytes.result.now in
    let written = c.as_bytes.ensures.text ∙ ap key_text c.key_of-key.ensures.key in
    let needs = c.in_err-entry.ensures.refused in
    on_err_always c.from_residual.result _
    (λ none. leaf-found key_text arena needs.pointer needs.leaf bytes needs.is_held needs.has_text (none_from (λ entry. entry.1) _ (value-held arena c.args.self.now c.self.view_is c.self.invariant c.args.network.now c.key_of-key.ensures.network bytes written ∙ none)))

pub returns-in_err-entry-clause-needs_node : goal.returns-in_err-entry-clause-needs_node
returns-in_err-entry-clause-needs_node g c =
    let Needs = NeedsNode (OpaqueNodePtr Block g.row.V.Denot 20) in
    let written = c.as_bytes.ensures.text ∙ ap key_text c.key_of-key.ensures.key in
    let needs = c.removals_need_nodes.ensures c.as_bytes.result.now c.in_err-entry.ensures.refused in
    on_err_always c.from_residual.result _ (subst (λ routes. Needs (map (λ route. key_text route.0) routes) (key_text c.args.network.now)) c.self.view_is (subst (Needs _) written needs))

pub returns-in_err-entry-clause-same_routes : goal.returns-in_err-entry-clause-same_routes
returns-in_err-entry-clause-same_routes g c =
    on_err_always c.from_residual.result _ (list-same key_text c.self.inside.tree.arena c.remove.new.self.arena c.in_err-entry.ensures.same_entries ∙ c.self.view_is)
