use Rattle.std.proofs.Common.{◌∙◌, ap, arith, sym}
use Rattle.art_nodes.specs.ChildMap.{child_at}
use Rattle.art_arena.specs.InnerRef.{inner_shown}
use Rattle.art_routes.proofs.way.first_end.Goals as goal

pub overflow_sub-place : goal.overflow_sub-place
overflow_sub-place g c = let end = (c.ends_at-rest-end.ensures.ends c.loop-rest.rest).0 c.loop-rest-test.true in let some = end.some in omega (arith, some)

pub end_byte-requires-clause-place : goal.end_byte-requires-clause-place
end_byte-requires-clause-place g c = let end = (c.ends_at-rest-end.ensures.ends c.loop-rest.rest).0 c.loop-rest-test.true in let fit = end.fits in omega (arith, fit)

pub returns-in-Some-clause-some : goal.returns-in-Some-clause-some
returns-in-Some-clause-some g c = record {
  rest = c.loop-rest.rest;
  end = (c.ends_at-rest-end.ensures.ends c.loop-rest.rest).0 c.loop-rest-test.true;
  is = ap (child_at (inner_shown c.args.node.now).children) (sym c.end_byte.ensures) ∙ sym c.lookup_child.ensures.child ∙ c.in-Some.is;
  first = c.loop-rest.invariant;
}

pub returns-clause-none : goal.returns-clause-none
returns-clause-none g c = λ rest end. let less = (c.ends_at-rest-end.ensures.ends rest).1 end in c.loop-rest.invariant rest (omega (arith, less, c.loop-rest-test.false)) end
