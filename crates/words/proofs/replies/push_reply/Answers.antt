use Rattle.std.proofs.Common.{◌++◌, ◌∙◌, ap}
use Rattle.std.specs.Fmt.{decimal}
use Rattle.program_lines.specs.Lines.{line}
use Rattle.words.proofs.PlaceLemmas.{counts_part, part_most}
use Rattle.words.proofs.ReplyLemmas.{reply_begin, reply_first, reply_count, reply_before, reply_after}
use Rattle.words.proofs.replies.push_reply.Goals as goal

pub count_of-count-requires-clause-places : goal.count_of-count-requires-clause-places
count_of-count-requires-clause-places c = counts_part c.args.dictionary.now _ c.requires.places c.prefix-in-Count.ensures.contiguous

pub count_of-count-requires-clause-most : goal.count_of-count-requires-clause-most
count_of-count-requires-clause-most c = rw c.len.ensures.len (part_most c.args.dictionary.now _ c.prefix-in-Count.ensures.contiguous)

pub returns-in_ok-push_words-in-Begin : goal.returns-in_ok-push_words-in-Begin
returns-in_ok-push_words-in-Begin c =
    reply_begin c.args.dictionary.now c.args.output.now.items c.push_words.new.output.items c.args.query.now c.prefix.result c.in-Begin.prefix c.prefix.ensures.begun c.in-Begin.is c.in_ok-push_words-in-Begin.ensures

pub returns-in_ok-push_first_words-in-FirstOf : goal.returns-in_ok-push_first_words-in-FirstOf
returns-in_ok-push_first_words-in-FirstOf c =
    reply_first c.args.dictionary.now c.args.output.now.items c.push_first_words.new.output.items c.args.query.now c.prefix-in-FirstOf.result c.in-FirstOf.prefix c.prefix-in-FirstOf.ensures.begun c.in-FirstOf.most c.in-FirstOf.is c.in_ok-push_first_words-in-FirstOf.ensures

pub returns-in_ok-push_number-in-Count : goal.returns-in_ok-push_number-in-Count
returns-in_ok-push_number-in-Count c =
    reply_count c.args.dictionary.now c.args.output.now.items c.push_number.new.output.items c.args.query.now c.prefix-in-Count.result c.in-Count.prefix c.prefix-in-Count.ensures.begun c.in-Count.is
    (c.in_ok-push_number-in-Count.ensures ∙ ap (λ n. c.args.output.now.items ++ line (decimal n)) c.count_of-count.ensures)

pub returns-in_ok-push_neighbour-in-Before : goal.returns-in_ok-push_neighbour-in-Before
returns-in_ok-push_neighbour-in-Before c =
    reply_before c.args.dictionary.now c.args.output.now.items c.push_neighbour.new.output.items c.args.query.now c.upper_bound-gap.result.0 c.in-Before.word c.peek_prev.result c.in_ok-push_neighbour-in-Before.ensures c.in-Before.is c.upper_bound-gap.ensures.before c.peek_prev.ensures

pub returns-in_ok-push_neighbour-in-After : goal.returns-in_ok-push_neighbour-in-After
returns-in_ok-push_neighbour-in-After c =
    reply_after c.args.dictionary.now c.args.output.now.items c.push_neighbour-in-After.new.output.items c.args.query.now c.lower_bound-gap.result.1 c.in-After.word c.peek_next.result c.in_ok-push_neighbour-in-After.ensures c.in-After.is c.lower_bound-gap.ensures.after c.peek_next.ensures
