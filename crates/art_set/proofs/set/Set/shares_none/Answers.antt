use Rattle.std.proofs.Common.{◌≡◌, ◌∙◌, true, false, All, refl, sym, subst}
use Rattle.std.proofs.lemmas.List.Elements.{All-nil, All-cons, All-head, All-tail}
use Rattle.art_set.specs.KeyLists.{contains_by}
use Rattle.art_set.proofs.set.Set.shares_none.Goals as goal

pub each-init : goal.each-init
each-init g c =
    let Apart = λ (key : g.row.K.Denot). contains_by (g.K.Ord.cmp key) c.args.other.now ≡ false in
    (λ all. subst (All Apart) c.iter-keys.ensures.keys all, λ all. subst (All Apart) (sym c.iter-keys.ensures.keys) all)

pub returns-then-contains : goal.returns-then-contains
returns-then-contains g c =
    let Apart = λ (key : g.row.K.Denot). contains_by (g.K.Ord.cmp key) c.args.other.now ≡ false in (
      λ is. let wrong : false ≡ true = is in absurd (cc),
      λ all. sym (All-head Apart c.in-Some.key.now c.next.new.self (subst (All Apart) c.in-Some.ensures.steps (c.each.invariant.1 all))) ∙ sym c.contains.ensures ∙ c.if-contains.true,
    )

pub each-preserved : goal.each-preserved
each-preserved g c =
    let Apart = λ (key : g.row.K.Denot). contains_by (g.K.Ord.cmp key) c.args.other.now ≡ false in (
      λ rest. c.each.invariant.0 (subst (All Apart) (sym c.in-Some.ensures.steps) (All-cons Apart c.in-Some.key.now c.next.new.self (sym c.contains.ensures ∙ c.if-contains.false) rest)),
      λ all. All-tail Apart c.in-Some.key.now c.next.new.self (subst (All Apart) c.in-Some.ensures.steps (c.each.invariant.1 all)),
    )

pub returns : goal.returns
returns g c =
    let Apart = λ (key : g.row.K.Denot). contains_by (g.K.Ord.cmp key) c.args.other.now ≡ false in
    (λ is. c.each.invariant.0 (subst (All Apart) (sym c.in_default.ensures.steps.0) (All-nil Apart)), λ all. refl)
