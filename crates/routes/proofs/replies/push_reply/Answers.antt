use Rattle.std.proofs.Common.{◌++◌, refl, inl, inr}
use Rattle.std.specs.Prelude.{codes}
use Rattle.routes.proofs.ReplyLemmas.{on_ok, route_line, none_line}
use Rattle.routes.proofs.replies.push_reply.Goals as goal

pub returns-in_ok-push-in-Some : goal.returns-in_ok-push-in-Some
returns-in_ok-push-in-Some c =
    on_ok c.push_line.result (λ pushed. (c.args.query.now.line.now ++ codes " " ++ c.in-Some.route.now.line.now, inl (_, c.in-Some.ensures, refl), route_line c.args.output.now.items c.extend_from_slice.new.self.items c.push.new.self.items c.push_line.new.output.items c.args.query.now.line.now c.in-Some.route.now.line.now c.in_ok-extend_from_slice.ensures.items c.in_ok-push-in-Some.ensures.items pushed)) c.push_line.ensures

pub returns-in-None : goal.returns-in-None
returns-in-None c =
    on_ok c.push_line-in-None.result (λ pushed. (c.args.query.now.line.now ++ codes " none", inr (c.in-None.ensures, refl), none_line c.args.output.now.items c.extend_from_slice.new.self.items c.push_line-in-None.new.output.items c.args.query.now.line.now c.in_ok-extend_from_slice.ensures.items pushed)) c.push_line-in-None.ensures
