use Rattle.std.proofs.Common.{rules, arith, ap, ◌∙◌, sym, ◌*◌}
use Rattle.std.proofs.iter.Serving.{serving}
use Rattle.art_mapped.proofs.Parts.{no_rest, size_of_parts, joined_from_parts}
use Rattle.art_mapped.proofs.Turns.{callable_unchanged, called_at}
use Rattle.art_mapped.proofs.sequence.array_of.Goals as goal

pub from_fn-requires : goal.from_fn-requires
from_fn-requires g c =
    (search rules, callable_unchanged _ _ _ _ _ (λ x q called. search rules) (λ t x u step. grind serving))

pub returns-clause-in_range : goal.returns-clause-in_range
returns-clause-in_range g c = λ k d below. let called = c.from_fn.ensures.items.at k d (omega arith) in search rules

pub returns-clause-text : goal.returns-clause-text
returns-clause-text g c =
    let width = g.E.Bytes.FixedBytes.WIDTH in
    let laws = g.met.E.Element.keeps in
    let size = size_of_parts laws c.args.bytes.now (no_rest laws c.args.bytes.now c.requires.elements) in
    let all = size ∙ ap (λ n. n * width) (c.requires.size ∙ sym c.from_fn.ensures.items.long) in
    joined_from_parts laws c.from_fn.result c.args.bytes.now all (λ k d below.
    let called = called_at _ _ (λ x y q called. search rules) c.from_fn.result g.row.N 0 c.from_fn.ensures.items.each k d (omega arith) (omega arith) in search rules)
