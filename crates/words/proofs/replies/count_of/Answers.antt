use Rattle.std.proofs.Common.{arith}
use Rattle.words.proofs.PlaceLemmas.{counts_ends}
use Rattle.words.proofs.replies.count_of.Goals as goal

pub overflow_sub-result : goal.overflow_sub-result
overflow_sub-result c =
    let ends = counts_ends c.args.entries c.next.new.self c.next_back.new.self (c.in-Some.field-0-0.now, c.in-Some.first.now) (c.in-Some-next_back.field-0-0.now, c.in-Some-next_back.last.now) c.requires.places c.in-Some.ensures.steps c.in-Some-next_back.ensures.steps in
    omega (arith, ends.0)

pub overflow_add-result : goal.overflow_add-result
overflow_add-result c =
    let ends = counts_ends c.args.entries c.next.new.self c.next_back.new.self (c.in-Some.field-0-0.now, c.in-Some.first.now) (c.in-Some-next_back.field-0-0.now, c.in-Some-next_back.last.now) c.requires.places c.in-Some.ensures.steps c.in-Some-next_back.ensures.steps in
    omega (arith, ends.0, ends.1, c.requires.most, c.ranges.most.fits)

pub returns-in-Some-next_back : goal.returns-in-Some-next_back
returns-in-Some-next_back c =
    let ends = counts_ends c.args.entries c.next.new.self c.next_back.new.self (c.in-Some.field-0-0.now, c.in-Some.first.now) (c.in-Some-next_back.field-0-0.now, c.in-Some-next_back.last.now) c.requires.places c.in-Some.ensures.steps c.in-Some-next_back.ensures.steps in
    omega (arith, ends.0, ends.1)
