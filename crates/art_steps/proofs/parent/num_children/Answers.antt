use Rattle.art_steps.proofs.Names.{◌≡◌, ◌∙◌, ◌≤◌, length, ap, sym, subst, option_copied, most_children, node_kind, held}
use Rattle.art_steps.proofs.InsertLemmas.NodeLemmas.{header-of-held}
use Rattle.art_steps.proofs.parent.num_children.Goals as goal

pub returns-clause-count : goal.returns-clause-count
returns-clause-count g c = λ node is.
    let header_is = header-of-held (held c.args.arena.now c.args.pointer) c.unwrap.result.now node (sym (ap option_copied c.unwrap.ensures) ∙ c.header.ensures.header) is in
    c.num_children.ensures.value ∙ ap (λ h. h.count) header_is

pub returns-clause-fits : goal.returns-clause-fits
returns-clause-fits g c = λ node is.
    let header_is = header-of-held (held c.args.arena.now c.args.pointer) c.unwrap.result.now node (sym (ap option_copied c.unwrap.ensures) ∙ c.header.ensures.header) is in
    let count : c.num_children.result ≡ length node.children = c.num_children.ensures.value ∙ ap (λ h. h.count) header_is in
    subst (λ n. n ≤ most_children (node_kind c.args.pointer)) (sym count) (c.header.ensures.sound node is).fits
