use Rattle.std.proofs.Common.{◌≡◌, ◌∙◌, ◌∷◌, [], sym, ap}
use Rattle.art_map.specs.Runs.{pages_between}
use Rattle.art_map.proofs.RunLemmas.{next-run, next-taken, next-there, run-only}
use Rattle.art_map.proofs.runs.take_first.Goals as goal

pub returns-then-key-clause-taken : goal.returns-then-key-clause-taken
returns-then-key-clause-taken g c =
    let here = c.requires.begins in
    let is : here.entry.1.entries ≡ c.entries-entries.result.now = sym (ap (λ e. e.1.entries) (c.page.ensures here)) ∙ sym c.entries-entries.ensures.entries in
    (here.entry.0, run-only c.args.tree.now.arena c.args.first c.args.last c.requires (sym c.key.ensures ∙ c.if-key.true ∙ c.key-2.ensures) ∙ ap (λ l. (here.entry.0, l) ∷ []) is)

pub returns-in-Some-clause-taken : goal.returns-in-Some-clause-taken
returns-in-Some-clause-taken g c =
    let here = c.requires.begins in
    let is : here.entry.1.entries ≡ c.entries-entries.result.now = sym (ap (λ e. e.1.entries) (c.page.ensures here)) ∙ sym c.entries-entries.ensures.entries in (
      here.entry.0,
      next-taken c.args.tree.now.arena c.args.first c.args.last c.requires c.args.tree.now.root c.arena-arena.ensures.one_tree (λ same. c.if-key.false (c.key.ensures ∙ same ∙ sym c.key-2.ensures)) c.in-Some.next (c.in-Some.ensures here)
          ∙ ap (λ l. (here.entry.0, l) ∷ pages_between c.args.tree.now.arena c.in-Some.next c.args.last) is,
    )

pub returns-in-Some-clause-rest : goal.returns-in-Some-clause-rest
returns-in-Some-clause-rest g c =
    next-run c.args.tree.now.arena c.args.first c.args.last c.requires c.args.tree.now.root c.arena-arena.ensures.one_tree (λ same. c.if-key.false (c.key.ensures ∙ same ∙ sym c.key-2.ensures)) c.in-Some.next (c.in-Some.ensures c.requires.begins)

pub returns-in-None-clause-taken : goal.returns-in-None-clause-taken
returns-in-None-clause-taken g c =
    absurd (next-there c.args.tree.now.arena c.args.first c.args.last c.requires c.args.tree.now.root c.arena-arena.ensures.one_tree (λ same. c.if-key.false (c.key.ensures ∙ same ∙ sym c.key-2.ensures)) (c.in-None.ensures c.requires.begins))
