use Rattle.std.proofs.Common.{refl, subst}
use Rattle.program_lines.specs.Lines.{line}
use Rattle.routes.specs.Reading.{AppendsRouteReply}
use Rattle.routes.proofs.replies.TableProgram.push_reply.Goals as goal

pub returns-clause-reply : goal.returns-clause-reply
returns-clause-reply c = λ file is.
    let written = subst (λ table. AppendsRouteReply table c.in-Ok.query c.args.output.now.items c.push_reply.new.output.items) is.2 c.in_ok-push_reply.ensures in
    (line written.0, (is.0, c.in-Ok.query, written.0, is.1, c.in-Ok.ensures.said, written.1, refl), written.2)
