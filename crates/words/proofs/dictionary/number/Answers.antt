use Rattle.std.proofs.Common.{◌<◌, ◌^◌, ◌∙◌, length, map, ap, sym, arith, rules}
use Rattle.std.proofs.lemmas.Simd.{map-map}
use Rattle.std.specs.Vec.{vec_items}
use Rattle.words.specs.contracts.dictionary.fn.number.for_each_value_mut as closure
use Rattle.words.proofs.PlaceLemmas.{numbered}
use Rattle.words.proofs.dictionary.number.Goals as goal

pub returns-clause-words : goal.returns-clause-words
returns-clause-words c =
    sym (map-map vec_items (λ entry. entry.0) c.for_each_value_mut.new.self) ∙ ap (map vec_items) c.for_each_value_mut.ensures.same_keys ∙ map-map vec_items (λ entry. entry.0) c.args.dictionary.now

pub returns-clause-places : goal.returns-clause-places
returns-clause-places c =
    let fits : length c.args.dictionary.now < 2 ^ 64 = search rules in
    numbered _ (λ f. (closure.captures f).next) (λ f key value now f' called. search rules) _ c.args.dictionary.now c.for_each_value_mut.new.self c.for_each_value_mut.ensures.in_turn (omega (arith, fits))
