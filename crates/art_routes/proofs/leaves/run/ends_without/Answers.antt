use Rattle.art_routes.proofs.LeafNames.{None, Some, StepsOver, ap, at_end, leaf_at, option_map, slab_key, subst, sym, ◌∙◌, ◌≡◌}
use Rattle.art_routes.proofs.RunLemmas.{step-first, step-last, step-only}
use Rattle.art_routes.proofs.leaves.run.ends_without.Goals as goal

pub returns-then-key : goal.returns-then-key
returns-then-key g c = λ arena run here. step-only arena c.args.ends run c.args.leaf.now c.args.end here (sym c.key.ensures ∙ c.if-key.true ∙ c.key-2.ensures)

pub returns-in-Some : goal.returns-in-Some
returns-in-Some g c = λ arena run here.
    subst (λ end. StepsOver arena end c.args.ends c.args.leaf.now (Some (c.in-Some.next, c.args.ends.1))) (sym c.in-First.is)
    (step-first arena c.args.ends run c.args.leaf.now (subst (λ end. leaf_at arena (slab_key (at_end end c.args.ends)) ≡ Some c.args.leaf.now) c.in-First.is here)
    (λ same. c.if-key.false (c.key.ensures ∙ same ∙ sym c.key-2.ensures)) (Some c.in-Some.next) (sym (ap (option_map slab_key) c.in-Some.is) ∙ c.next.ensures))

pub returns-in-Some-previous : goal.returns-in-Some-previous
returns-in-Some-previous g c = λ arena run here.
    subst (λ end. StepsOver arena end c.args.ends c.args.leaf.now (Some (c.args.ends.0, c.in-Some-previous.previous))) (sym c.in-Last.is)
    (step-last arena c.args.ends run c.args.leaf.now (subst (λ end. leaf_at arena (slab_key (at_end end c.args.ends)) ≡ Some c.args.leaf.now) c.in-Last.is here)
    (λ same. c.if-key.false (c.key.ensures ∙ same ∙ sym c.key-2.ensures)) (Some c.in-Some-previous.previous) (sym (ap (option_map slab_key) c.in-Some-previous.is) ∙ c.previous.ensures))

pub returns-in-None-previous : goal.returns-in-None-previous
returns-in-None-previous g c = λ arena run here.
    subst (λ end. StepsOver arena end c.args.ends c.args.leaf.now None) (sym c.in-Last.is)
    (step-last arena c.args.ends run c.args.leaf.now (subst (λ end. leaf_at arena (slab_key (at_end end c.args.ends)) ≡ Some c.args.leaf.now) c.in-Last.is here)
    (λ same. c.if-key.false (c.key.ensures ∙ same ∙ sym c.key-2.ensures)) None (sym (ap (option_map slab_key) c.in-None-previous.is) ∙ c.previous.ensures))
