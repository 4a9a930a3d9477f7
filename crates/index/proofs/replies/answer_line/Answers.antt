use Rattle.index.proofs.TimeLemmas.{query_fits}
use Rattle.index.proofs.replies.answer_line.Goals as goal

pub push_reply-requires-clause-times : goal.push_reply-requires-clause-times
push_reply-requires-clause-times c = query_fits c.args.line.now c.in-Ok.query c.in-Ok.ensures.said

pub returns-clause-reply : goal.returns-clause-reply
returns-clause-reply c = (c.in-Ok.query, c.in-Ok.ensures.said, c.in_ok-push_reply.ensures)
