use Rattle.std.proofs.Common.{refl}
use Rattle.words.specs.Places.{entry_words}
use Rattle.words.specs.Replies.{reply}
use Rattle.words.proofs.replies.WordsProgram.push_reply.Goals as goal

pub push_reply-requires-clause-places : goal.push_reply-requires-clause-places
push_reply-requires-clause-places c = c.requires.table.1.1

pub push_reply-requires-clause-said : goal.push_reply-requires-clause-said
push_reply-requires-clause-said c = (c.args.line.now, c.in-Ok.ensures.said.1)

pub returns-clause-reply : goal.returns-clause-reply
returns-clause-reply c = λ list is.
    (reply (entry_words c.args.self.now.dictionary) c.in-Ok.query, (entry_words c.args.self.now.dictionary, c.in-Ok.query, is.0, c.in-Ok.ensures.said, refl), c.in_ok-push_reply.ensures)
