use Rattle.std.proofs.Common.{◌≡◌, take, string_bytes}
use Rattle.std.specs.List.{flat_map}
use Rattle.program_lines.specs.Lines.{line}
use Rattle.art_cli.specs.Reply.{reply_text}
use Rattle.art_cli.proofs.replay.print_reply_lines.text_of.Given as goal

abbrev pub invariant-loop-reply : goal.invariant-loop-reply
invariant-loop-reply l =
    string_bytes l.text ≡ flat_map (λ reply. line (reply_text reply)) (take l.reply-index l.replies)
