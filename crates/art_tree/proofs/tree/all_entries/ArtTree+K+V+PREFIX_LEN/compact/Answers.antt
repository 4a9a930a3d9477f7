use Rattle.art_tree.proofs.Names.{◌∙◌, ap, lit<, subst, sym, IsArt, entry_at}
use Rattle.art_steps.proofs.SharedLemmas.DictionaryLemmas.{empty-entry}
use Rattle.art_tree.proofs.SharedLemmas.KeyLemmas.{keys-none, keys-same}
use Rattle.art_tree.proofs.tree.all_entries.ArtTree+K+V+PREFIX_LEN.compact.Goals as goal

pub reload-requires : goal.reload-requires
reload-requires g c =
    let art = subst (IsArt g.K.AsBytes.text c.self.inside.arena) c.in-Some.is c.self.invariant.0 in
    (assumption, (assumption, (assumption, (assumption, (assumption, (lit< tt, (art, c.new-arena.ensures.empty)))))))

pub invariant_of-self : goal.invariant_of-self
invariant_of-self g c =
    let text = g.K.AsBytes.text in
    let new = c.new-arena.result in
    (subst (IsArt text new) (sym c.in_default.is) c.new-arena.ensures.empty, keys-none text g.K.AsBytes.is_key new (empty-entry text new c.new-arena.ensures.empty))

pub invariant_of-self-2 : goal.invariant_of-self-2
invariant_of-self-2 g c =
    let now = c.in_ok-root.ensures.reloaded in
    (now.art, keys-same g.K.AsBytes.text g.K.AsBytes.is_key c.self.inside.arena c.reload.new.arena c.self.invariant.1 now.same)

pub returns-in_default-clause-same_entries : goal.returns-in_default-clause-same_entries
returns-in_default-clause-same_entries g c = λ x.
    let text = g.K.AsBytes.text in
    let nothing = subst (IsArt text c.self.inside.arena) c.in_default.is c.self.invariant.0 in
    empty-entry text c.new-arena.result c.new-arena.ensures.empty x ∙ sym (ap (λ seen. entry_at text seen.arena x) (sym c.self.view_is) ∙ empty-entry text c.self.inside.arena nothing x)

pub returns-clause-same_entries : goal.returns-clause-same_entries
returns-clause-same_entries g c = λ x. c.in_ok-root.ensures.reloaded.same x ∙ ap (λ seen. entry_at g.K.AsBytes.text seen.arena x) c.self.view_is
