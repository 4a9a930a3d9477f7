use Rattle.art_tree.proofs.Names.{◌∙◌, ap, sym, subst, leaf_key, leaf_value, previous_key, next_key, slab_key, HoldsLeaf, IsPresent, ReplacesEntry, leaf-pointer-fits}
use Rattle.art_steps.proofs.InsertLemmas.NodeLemmas.{one-leaf}
use Rattle.art_tree.proofs.InsertLemmas.PlacedEntries.{exchanged, present-held, replaced-invariant, replaced-there}
use Rattle.art_tree.proofs.tree.changes.ArtTree+K+V+PREFIX_LEN.replace.Goals as goal

pub as_ref-old-requires : goal.as_ref-old-requires
as_ref-old-requires g c =
    let there : HoldsLeaf c.self.inside.arena (slab_key c.args.leaf) = present-held (subst (λ seen. IsPresent g.K.AsBytes.text seen c.args.leaf (g.K.AsBytes.text c.args.key)) (sym c.self.view_is) c.requires.present) in
    assumption leaf-pointer-fits

pub replace-requires : goal.replace-requires
replace-requires g c =
    let there : HoldsLeaf c.self.inside.arena (slab_key c.args.leaf) = present-held (subst (λ seen. IsPresent g.K.AsBytes.text seen c.args.leaf (g.K.AsBytes.text c.args.key)) (sym c.self.view_is) c.requires.present) in
    assumption leaf-pointer-fits

pub invariant_of-self : goal.invariant_of-self
invariant_of-self g c =
    let text = g.K.AsBytes.text in
    let was = c.replace.result in
    let now = c.set_links.new.self in
    let links = c.set_links.ensures in
    let before = one-leaf _ c.as_ref-old.result.now was c.as_ref-old.ensures c.replace.ensures.replaced_node in
    let done = exchanged {old = record { arena = c.self.inside.arena; root = c.self.inside.root }} c.self.invariant.0 (subst (λ seen. IsPresent text seen c.args.leaf (text c.args.key)) (sym c.self.view_is) c.requires.present) c.replace.new.self was now c.replace.ensures.replaced_node c.replace.ensures.replaced (ap leaf_key links ∙ c.with_no_siblings-new.ensures.key)
    (ap leaf_value links ∙ c.with_no_siblings-new.ensures.value) (ap previous_key links ∙ c.previous-previous.ensures ∙ ap previous_key before) (ap next_key links ∙ c.next-next.ensures ∙ ap next_key before) c.into_entry.result c.into_entry.ensures.key c.into_entry.ensures.value in
    replaced-invariant text g.K.AsBytes.is_key (record { arena = c.self.inside.arena; root = c.self.inside.root }) (record { arena = c.replace.new.self; root = c.self.inside.root }) c.self.invariant.0 c.self.invariant.1 c.args.key c.args.value c.into_entry.result done c.requires.is_key

pub returns : goal.returns
returns g c =
    let text = g.K.AsBytes.text in
    let was = c.replace.result in
    let now = c.set_links.new.self in
    let links = c.set_links.ensures in
    let before = one-leaf _ c.as_ref-old.result.now was c.as_ref-old.ensures c.replace.ensures.replaced_node in
    let done = exchanged {old = record { arena = c.self.inside.arena; root = c.self.inside.root }} c.self.invariant.0 (subst (λ seen. IsPresent text seen c.args.leaf (text c.args.key)) (sym c.self.view_is) c.requires.present) c.replace.new.self was now c.replace.ensures.replaced_node c.replace.ensures.replaced (ap leaf_key links ∙ c.with_no_siblings-new.ensures.key)
    (ap leaf_value links ∙ c.with_no_siblings-new.ensures.value) (ap previous_key links ∙ c.previous-previous.ensures ∙ ap previous_key before) (ap next_key links ∙ c.next-next.ensures ∙ ap next_key before) c.into_entry.result c.into_entry.ensures.key c.into_entry.ensures.value in
    subst (λ seen. ReplacesEntry text seen (record { arena = c.replace.new.self; root = c.self.inside.root }) c.args.key c.args.value c.into_entry.result) c.self.view_is
    (replaced-there text g.K.AsBytes.is_key (record { arena = c.self.inside.arena; root = c.self.inside.root }) (record { arena = c.replace.new.self; root = c.self.inside.root }) c.self.invariant.0 c.self.invariant.1 c.args.key c.args.value c.into_entry.result done c.replace.ensures.room)
