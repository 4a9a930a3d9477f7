use Rattle.std.proofs.Common.{◌++◌, ◌∙◌, ap}
use Rattle.program_lines.specs.Lines.{line}
use Rattle.words.proofs.ReplyLemmas.{first_line_more}
use Rattle.words.proofs.replies.push_first_words.Goals as goal

pub loop-key-preserved : goal.loop-key-preserved
loop-key-preserved c =
    first_line_more c.loop-key.left c.loop-key.key-iterator c.next.new.self (c.in-Some.key.now, c.in-Some.field-0-1.now) c.loop-key.output.items c.push_line.new.output.items _ c.if-left-eq0.false c.in-Some.ensures.steps
    (c.in_ok-push_line.ensures ∙ ap (λ word. c.loop-key.output.items ++ line word) c.deref.ensures.value) c.loop-key.invariant
