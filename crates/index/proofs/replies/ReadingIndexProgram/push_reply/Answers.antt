use Rattle.index.proofs.ReplyLemmas.{reply_said}
use Rattle.index.proofs.replies.ReadingIndexProgram.push_reply.Goals as goal

pub answer_line-requires : goal.answer_line-requires
answer_line-requires g c = record { keyed = c.requires.table.1.3 }

pub returns-clause-reply : goal.returns-clause-reply
returns-clause-reply g c =
    reply_said _ c.args.self.now.rows c.args.line.now c.args.output.now.items c.answer_line.new.output.items c.answer_line.result c.answer_line.ensures.reply
