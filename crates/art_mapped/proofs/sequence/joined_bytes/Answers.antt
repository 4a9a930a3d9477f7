use Rattle.std.proofs.Common.{◌≡◌, ◌+◌, ◌++◌, ◌∷◌, [], take, sym, ap, ◌∙◌}
use Rattle.std.proofs.lemmas.List.{append-nil, take_more, take_all}
use Rattle.std.proofs.lemmas.List.Elements.{All-push}
use Rattle.std.proofs.lemmas.Grind.{flat_map-append}
use Rattle.art_mapped.specs.Sequences.{joined}
use Rattle.art_mapped.proofs.sequence.joined_bytes.Goals as goal

pub loop-element-preserved : goal.loop-element-preserved
loop-element-preserved g c =
    let element = c.element-item.result in
    let index = c.loop-element.element-index in
    let before = take index c.args.elements.now in
    let now : take (index + 1) c.args.elements.now ≡ before ++ element ∷ [] = take_more c.args.elements.now index element c.loop-element-test.true ∙ ap (λ x. before ++ x ∷ []) (sym c.element-item.is) in
    record {
      in_range = rw now (All-push g.E.DomainTexts.is_in_range before element c.loop-element.invariant.in_range c.encode.ensures.in_range);
      text = rw (now, flat_map-append g.E.DomainTexts.text_of before (element ∷ []), append-nil (g.E.DomainTexts.text_of element), ← c.loop-element.invariant.text, ← c.encode.ensures.text, ← c.as_bytes.ensures.text) c.in_ok-extend_from_slice.ensures.items;
    }

pub returns-clause-text : goal.returns-clause-text
returns-clause-text g c = c.loop-element.invariant.text ∙ ap (joined g.E.DomainTexts.text_of) (take_all c.loop-element.element-index c.args.elements.now c.loop-element-test.false)

pub returns-clause-in_range : goal.returns-clause-in_range
returns-clause-in_range g c = rw (take_all c.loop-element.element-index c.args.elements.now c.loop-element-test.false) at c.loop-element.invariant.in_range
