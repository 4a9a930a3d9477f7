use Rattle.std.proofs.Common.{◌≡◌, ◌∙◌, true, false, All, arith, refl, sym, subst}
use Rattle.std.proofs.lemmas.List.Elements.{All-nil, All-cons, All-head, All-tail}
use Rattle.art_set.specs.KeyLists.{contains_by}
use Rattle.art_set.proofs.OrderedKeys.{subset-length}
use Rattle.art_set.proofs.set.Set.is_subset.Goals as goal

pub each-init : goal.each-init
each-init g c =
    let Among = λ (key : g.row.K.Denot). contains_by (g.K.Ord.cmp key) c.args.other.now ≡ true in
    (λ all. subst (All Among) c.iter-keys.ensures.keys all, λ all. subst (All Among) (sym c.iter-keys.ensures.keys) all)

pub returns-then-len : goal.returns-then-len
returns-then-len g c = (
  λ is. let wrong : false ≡ true = is in absurd (cc),
  λ all.
      let most = subset-length g.K.Ord.cmp g.met.K.Ord.total c.args.self.now c.args.other.now c.len.ensures.ordered c.len-2.ensures.ordered all in
      absurd (omega (arith, most, c.len.ensures.len, c.len-2.ensures.len, c.if-len.true)),
)

pub returns-then-not-contains : goal.returns-then-not-contains
returns-then-not-contains g c =
    let Among = λ (key : g.row.K.Denot). contains_by (g.K.Ord.cmp key) c.args.other.now ≡ true in (
      λ is. let wrong : false ≡ true = is in absurd (cc),
      λ all. sym c.if-not-contains.true ∙ c.contains.ensures ∙ All-head Among c.in-Some.key.now c.next.new.self (subst (All Among) c.in-Some.ensures.steps (c.each.invariant.1 all)),
    )

pub each-preserved : goal.each-preserved
each-preserved g c =
    let Among = λ (key : g.row.K.Denot). contains_by (g.K.Ord.cmp key) c.args.other.now ≡ true in (
      λ rest. c.each.invariant.0 (subst (All Among) (sym c.in-Some.ensures.steps) (All-cons Among c.in-Some.key.now c.next.new.self (sym c.contains.ensures ∙ c.if-not-contains.false) rest)),
      λ all. All-tail Among c.in-Some.key.now c.next.new.self (subst (All Among) c.in-Some.ensures.steps (c.each.invariant.1 all)),
    )

pub returns : goal.returns
returns g c =
    let Among = λ (key : g.row.K.Denot). contains_by (g.K.Ord.cmp key) c.args.other.now ≡ true in
    (λ is. c.each.invariant.0 (subst (All Among) (sym c.in_default.ensures.steps.0) (All-nil Among)), λ all. refl)
